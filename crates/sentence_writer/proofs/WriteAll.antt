-- What write sentence answers, from what its parts found; and that its contract leaves one answer. Assumes nothing.
use Prim.Native.Nat.{ℕ, ◌+◌, ◌≤◌, ◌<◌}
use mathlib.Core.Bool.{true, false, true≢false, Bool}
use mathlib.Core.List.{List, [], ◌∷◌, ◌++◌, append-nil}
use mathlib.Core.Path.{◌≡◌, refl, sym, ap, ap₂, ◌∙◌, subst}
use native.Mathlib.Omega.{arith}
use lib.ListN.{length, take, drop, length-append, length-map}
use lib.Seq.{length-take-le}
use Rattle.std.proofs.Common.{Result, Ok, Err}
use Rattle.std.proofs.lemmas.List.{nil_from_length}
use Rattle.sentence.specs.Grammar.{body_text, sentence_text, Spells, Nests, some_out_of_range}
use Rattle.sentence.specs.Record.{prefix_of, nodes_of}
use Rattle.sentence.specs.declared.Kind.TheVariants.{State}
use Rattle.sentence.specs.declared.Node.{Node}
use Rattle.sentence.specs.declared.Sentence.{Sentence}
use Rattle.sentence.proofs.Unique.{Peeled, peel, body_append}
use Rattle.sentence.proofs.Once.{no_nodes}
use Rattle.sentence_survey.specs.Surveys.{Fits, Unfit}
use Rattle.refusal.specs.declared.Refusal.{Refusal}
use Rattle.refusal.specs.declared.Refusal.TheVariants.{Grammar, Range, Room}
use Rattle.refusal.specs.Answers.{refused, answered}
use Rattle.refusal.proofs.Ensuring.{one_result, one_front, answer_told}
use Rattle.sentence_writer.specs.Contract.{WriteRow, WriteSentenceEnsures}
use Rattle.sentence_writer.specs.Contract.WriteRow.{counted, lettered, unspelled, range, short}
use Rattle.sentence_writer.specs.Working.{Cleared, Refuses}

-- each row has a number from 6 on
row_low : {s : Sentence} {room n : ℕ} → WriteRow s room n → 6 ≤ n
row_low (counted h) = omega arith
row_low (lettered h) = omega arith
row_low (unspelled f) = omega arith
row_low (range e) = omega arith
row_low (short p h) = omega arith

pub refuse : {s : Sentence} {room : ℕ} → WriteRow s room 6 → Refuses s room Grammar
refuse r = record { row = r; least = λ m q. row_low q }

-- no letter
pub refuse_none : (s : Sentence) (room : ℕ) → s.letters ≡ 0 → Refuses s room Grammar
refuse_none s room e = refuse (unspelled (λ t p h. omega (arith, p.some, ap (λ (i : ℕ). length (take i s.exists)) e)))

-- the list does not nest
pub refuse_unfit : (s : Sentence) (room : ℕ) → Unfit (State ∷ []) (nodes_of s) → Refuses s room Grammar
refuse_unfit s room none-fits =
    refuse (unspelled (λ t p h. none-fits [] (nodes_of s) [] p.nests (sym (append-nil (nodes_of s)))))

-- the thing at the front is all of a list that nests
all_of : (l ms r : List Node) → Nests (State ∷ []) ms → Nests (State ∷ []) l → l ≡ ms ++ r → length r ≡ 0
all_of l ms r n nl split =
    let texts : body_text ms ++ body_text r ≡ body_text l ++ [] =
    sym (body_append ms r) ∙ ap body_text (sym split) ∙ sym (append-nil (body_text l)) in
    let p : Peeled [] ms l (body_text r) [] = peel [] l (body_text r) [] n nl texts in
    omega (arith, simp length-append at (ap length (sym split ∙ p.split)), ap length (no_nodes p.nests))

-- the list goes on past its end
pub refuse_more : (s : Sentence) (room : ℕ) (r : List Node) → Fits (State ∷ []) (nodes_of s) r → (length r ≡ 0 → ⊥) → Refuses s room Grammar
refuse_more s room r f more =
    refuse (unspelled (λ t p h. more (all_of (nodes_of s) f.nodes r f.nests p.nests f.split)))

-- how long a sentence's text is
text_length : (ps : List Bool) (ns : List Node) → length (sentence_text ps ns) ≡ length ps + 1 + length (body_text ns)
text_length ps ns = simp (length-append, length-map) (omega arith)

-- what is known of a record whose list nests
pub record Fine (s : Sentence) (size : ℕ) : Type 0 where
  pub spells : Spells (prefix_of s) (nodes_of s) (sentence_text (prefix_of s) (nodes_of s))
  pub sized : size ≡ length (sentence_text (prefix_of s) (nodes_of s))
  pub lettered : s.letters ≤ 4
  pub counted : s.count ≤ 64

pub fine : (s : Sentence) (r : List Node) (size : ℕ) → length s.exists ≡ 4 → 1 ≤ s.letters → s.letters ≤ 4 → s.count ≤ 64
    → Fits (State ∷ []) (nodes_of s) r → length r ≡ 0 → size ≡ length (body_text (nodes_of s)) → Fine s (s.letters + 1 + size)
fine s r size len one few room f none all =
    let letters : length (prefix_of s) ≡ s.letters = length-take-le s.letters s.exists (omega arith) in
    let whole : nodes_of s ≡ f.nodes =
    f.split ∙ ap (λ (x : List Node). f.nodes ++ x) (nil_from_length r none) ∙ append-nil f.nodes in
    record {
      spells =
          record {
            some = omega arith;
            few = omega arith;
            nests = subst (λ (x : List Node). Nests (State ∷ []) x) (sym whole)
                f.nests;
            text = refl;
          };
      sized = omega (arith, text_length (prefix_of s) (nodes_of s));
      lettered = few;
      counted = room;
    }

-- the text passes 400 bytes
pub refuse_long : {s : Sentence} {size : ℕ} (room : ℕ) → Fine s size → 400 < size → Refuses s room Grammar
refuse_long room f h = refuse (unspelled (λ t p g. omega (arith, ap length p.text, f.sized)))

-- what the rows of such a record are
row_fine : {s : Sentence} {size room n : ℕ} → Fine s size → size ≤ 400 → WriteRow s room n → 7 ≤ n
row_fine f h (counted g) = absurd (omega (arith, f.counted))
row_fine f h (lettered g) = absurd (omega (arith, f.lettered))
row_fine f h (unspelled g) = absurd (g _ f.spells (omega (arith, f.sized)))
row_fine f h (range e) = omega arith
row_fine f h (short p g) = omega arith

row_ranged : {s : Sentence} {size room n : ℕ} → Fine s size → size ≤ 400 → some_out_of_range s.letters (nodes_of s) ≡ false
    → WriteRow s room n → (n ≡ 14) × (room < size)
row_ranged f h e (counted g) = absurd (omega (arith, f.counted))
row_ranged f h e (lettered g) = absurd (omega (arith, f.lettered))
row_ranged f h e (unspelled g) = absurd (g _ f.spells (omega (arith, f.sized)))
row_ranged f h e (range e') = absurd (true≢false (sym e' ∙ e))
row_ranged f h e (short p g) = (refl, omega (arith, ap length p.text, f.sized))

pub refuse_range : {s : Sentence} {size : ℕ} (room : ℕ) → Fine s size → size ≤ 400 → some_out_of_range s.letters (nodes_of s) ≡ true
    → Refuses s room Range
refuse_range room f h e = record { row = range e; least = λ m q. row_fine f h q }

pub refuse_short : {s : Sentence} {size : ℕ} (room : ℕ) → Fine s size → size ≤ 400 → some_out_of_range s.letters (nodes_of s) ≡ false
    → room < size → Refuses s room Room
refuse_short room f h e g =
    record { row = short f.spells (omega (arith, f.sized)); least = λ m q. omega (arith, (row_ranged f h e q).0) }

pub clear : {s : Sentence} {size : ℕ} (room : ℕ) → Fine s size → size ≤ 400 → some_out_of_range s.letters (nodes_of s) ≡ false
    → size ≤ room → Cleared s room size
clear room f h e g =
    record {
      spells = f.spells;
      sized = f.sized;
      lettered = f.lettered;
      counted = f.counted;
      short = h;
      fits = g;
      free = λ m q. omega (arith, (row_ranged f h e q).1);
    }

-- a refusal writes nothing
pub answer_refused : {s : Sentence} {r : Refusal} (out : List ℕ) → Refuses s (length out) r → WriteSentenceEnsures s out (Err r) out
answer_refused out d = record { ensured = refused refl refl d.row d.least }

-- the text is at the front
pub answer_wrote : {s : Sentence} {size : ℕ} {text : List ℕ} (out : List ℕ) → Cleared s (length out) size
    → text ≡ sentence_text (prefix_of s) (nodes_of s) → WriteSentenceEnsures s out (Ok size) (text ++ drop size out)
answer_wrote {s} {size} {text} out c e =
    record {
      ensured =
          answered refl
          (record {
            text = sentence_text (prefix_of s) (nodes_of s);
            asked = c.spells;
            sized = c.sized;
            left = ap₂ (λ (t : List ℕ) (k : ℕ). t ++ drop k out) e c.sized;
          })
          c.free;
    }

-- the contract leaves one answer and one output
pub one_writing : {s : Sentence} {out : List ℕ} {v w : Result ℕ Refusal} {a b : List ℕ} → WriteSentenceEnsures s out v a
    → WriteSentenceEnsures s out w b → (v ≡ w) × (a ≡ b)
one_writing {v = v} {w} x y =
    let one = one_result (one_front (λ t t' p q. p.text ∙ sym q.text)) x.ensured y.ensured in
    (answer_told v w one.0, one.1)
