-- What read sentence answers, from what its parts found; and that its contract leaves one answer. Assumes nothing.
use Prim.Native.Nat.{ℕ, ◌+◌, ◌-◌, ◌≤◌, ◌<◌}
use mathlib.Core.Bool.{Bool, true, false, ◌||◌, true≢false, or_assoc}
use mathlib.Core.List.{List, [], ◌∷◌, ◌++◌, map, append-nil}
use mathlib.Core.Path.{◌≡◌, refl, sym, ap, ap₂, ◌∙◌}
use native.Mathlib.Numerals.{add-one}
use native.Mathlib.Omega.{arith}
use lib.ListN.{length, drop, replicate, set, length-replicate}
use Rattle.std.proofs.Common.{Result, Ok, Err}
use Rattle.std.proofs.lemmas.List.{drop-replicate}
use Rattle.std.proofs.lemmas.List.Edits.{sets, sets-eq}
use Rattle.refusal.specs.Answers.{refused, answered}
use Rattle.refusal.specs.declared.Refusal.{Refusal}
use Rattle.refusal.specs.declared.Refusal.TheVariants as refusals
use Rattle.refusal.proofs.Ensuring.{one_reading}
use Rattle.sentence.specs.Grammar.{letter_byte, body_text, Spells, some_out_of_range, out_of_range}
use Rattle.sentence.specs.Record.{record_of}
use Rattle.sentence.specs.declared.Kind.TheVariants.{State}
use Rattle.sentence.specs.declared.Node.{Node}
use Rattle.sentence.specs.declared.Node.TheVariants.{True}
use Rattle.sentence.specs.declared.Sentence.{Sentence}
use Rattle.sentence.proofs.Unique.{Peeled, peel}
use Rattle.sentence.proofs.Letters.{one_prefix}
use Rattle.sentence.proofs.Once.{no_nodes as none_left, spelled_text, spelled_once}
use Rattle.sentence_scan.specs.Working.{no_nodes, keep, keep_all, Stuck, Reads}
use Rattle.sentence_scan.specs.declared.Body.{Body}
use Rattle.sentence_reader.specs.Contract.{ReadRow, Spelled, ReadSentenceEnsures}
use Rattle.sentence_reader.specs.Contract.ReadRow.{outside, long, range, many}
use Rattle.sentence_reader.specs.Working.{IsPrefix, IsSentence, NoSentence}
use Rattle.sentence_reader.specs.declared.Prefix.{Prefix}

-- what is kept of the nodes of a body: how many they are, whether one is out of its range, and the nodes themselves
kept_count : (letters : ℕ) (b : Body) (ns : List Node) → (keep_all letters b ns).count ≡ b.count + length ns
kept_count letters b [] = omega arith
kept_count letters b (n ∷ ns) = omega (arith, kept_count letters (keep letters b n) ns)

kept_fault : (letters : ℕ) (b : Body) (ns : List Node) → (keep_all letters b ns).fault ≡ (b.fault || some_out_of_range letters ns)
kept_fault letters b [] = last b.fault
  where
    last : (x : Bool) → x ≡ (x || false)
    last true = refl
    last false = refl
kept_fault letters b (n ∷ ns) =
    kept_fault letters (keep letters b n) ns ∙ or_assoc b.fault (out_of_range letters n) (some_out_of_range letters ns)

kept_nodes : (letters : ℕ) (b : Body) (ns : List Node) → (keep_all letters b ns).nodes ≡ sets b.nodes b.count ns
kept_nodes letters b [] = refl
kept_nodes letters b (n ∷ ns) =
    kept_nodes letters (keep letters b n) ns ∙ ap (λ (i : ℕ). sets (set b.nodes b.count n) i ns) (add-one b.count)

-- a list stored at the front of equal places
stored : {A : Type 0} (m : ℕ) (x : A) (vs : List A) → length vs ≤ m → sets (replicate m x) 0 vs ≡ vs ++ replicate (m - length vs) x
stored m x vs h =
    sets-eq vs (replicate m x) 0 (rw (length-replicate m x) (omega arith))
    ∙ ap (λ l. vs ++ l) (ap (λ (i : ℕ). drop i (replicate m x)) none_before ∙ drop-replicate (length vs) m x)
  where
    none_before : 0 + length vs ≡ length vs
    none_before = omega arith

-- each row has a number from 6 on
row_low : {t : List ℕ} {n : ℕ} → ReadRow t n → 6 ≤ n
row_low (outside f) = omega arith
row_low (long h) = omega arith
row_low (range s e) = omega arith
row_low (many s h) = omega arith

pub answer_outside : {t : List ℕ} → NoSentence t → ReadSentenceEnsures t (Err refusals.Grammar)
answer_outside f = record { ensured = refused refl refl (outside f) (λ m r. row_low r) }

pub answer_long : {t : List ℕ} → 400 < length t → ReadSentenceEnsures t (Err refusals.Grammar)
answer_long h = record { ensured = refused refl refl (long h) (λ m r. row_low r) }

-- a spelled text that is not too long leaves 7 and 8
row_spelled : {t : List ℕ} {ps : List Bool} {ns : List Node} {m : ℕ} → Spells ps ns t → length t ≤ 400 → ReadRow t m → 7 ≤ m
row_spelled {ps = ps} {ns = ns} s h (outside f) = absurd (f ps ns s)
row_spelled s h (long g) = absurd (omega arith)
row_spelled s h (range s' e) = omega arith
row_spelled s h (many s' g) = omega arith

-- and one in whose ranges all is leaves 8
row_ranged : {t : List ℕ} {ps : List Bool} {ns : List Node} {m : ℕ} → Spells ps ns t → length t ≤ 400
    → some_out_of_range (length ps) ns ≡ false → ReadRow t m → (m ≡ 8) × (64 < length ns)
row_ranged {ps = ps} {ns = ns} s h f (outside g) = absurd (g ps ns s)
row_ranged s h f (long g) = absurd (omega arith)
row_ranged s h f (range s' e) =
    let one = spelled_once s s' in
    absurd (true≢false (sym e ∙ sym (ap₂ (λ (p : List Bool) (n : List Node). some_out_of_range (length p) n) one.0 one.1) ∙ f))
row_ranged s h f (many s' g) = (refl, rw (spelled_once s s').1 g)

-- what was read of a sentence: its fault and its count are those of its nodes
fault_of : {t : List ℕ} {p : Prefix} {b : Body} (is : IsSentence t p b) → some_out_of_range (length is.prefix) is.nodes ≡ b.fault
fault_of is = sym (ap (λ (x : Body). x.fault) is.body ∙ kept_fault (length is.prefix) no_nodes is.nodes)

count_of : {t : List ℕ} {p : Prefix} {b : Body} (is : IsSentence t p b) → length is.nodes ≡ b.count
count_of is = omega (arith, ap (λ (x : Body). x.count) is.body, kept_count (length is.prefix) no_nodes is.nodes)

pub answer_range : {t : List ℕ} {p : Prefix} {b : Body} → IsSentence t p b → length t ≤ 400 → b.fault ≡ true
    → ReadSentenceEnsures t (Err refusals.Range)
answer_range is h e = record { ensured = refused refl refl (range is.spells (fault_of is ∙ e)) (λ m r. row_spelled is.spells h r) }

pub answer_many : {t : List ℕ} {p : Prefix} {b : Body} → IsSentence t p b → length t ≤ 400 → b.fault ≡ false → 64 < b.count
    → ReadSentenceEnsures t (Err refusals.Nodes)
answer_many is h e g =
    record {
      ensured = refused refl refl (many is.spells (omega (arith, count_of is)))
          (λ m r. omega (arith, (row_ranged is.spells h (fault_of is ∙ e) r).0));
    }

-- the record of what was read is that of the sentence
record_read : {t : List ℕ} {p : Prefix} {b : Body} (is : IsSentence t p b) → length is.nodes ≤ 64
    → ◌≡◌ {A = Sentence} (record { letters = p.letters; exists = p.exists; count = b.count; nodes = b.nodes }) (record_of is.prefix
    is.nodes)
unfolding record_of
record_read {t} {p} {b} is few =
    let letters : p.letters ≡ length is.prefix = omega (arith, ap (λ (x : Prefix). x.letters) is.letters) in
    let exists : p.exists ≡ is.prefix ++ replicate (4 - length is.prefix) false =
    ap (λ (x : Prefix). x.exists) is.letters ∙ stored 4 false is.prefix is.spells.few in
    let count : b.count ≡ length is.nodes = sym (count_of is) in
    let nodes : b.nodes ≡ is.nodes ++ replicate (64 - length is.nodes) True =
    ap (λ (x : Body). x.nodes) is.body ∙ kept_nodes (length is.prefix) no_nodes is.nodes ∙ stored 64 True is.nodes few in
    cc

pub answer_done : {t : List ℕ} {p : Prefix} {b : Body} → IsSentence t p b → length t ≤ 400 → b.fault ≡ false → b.count ≤ 64
    → ReadSentenceEnsures t (Ok (record { letters = p.letters; exists = p.exists; count = b.count; nodes = b.nodes }))
answer_done is h e g =
    let few : length is.nodes ≤ 64 = omega (arith, count_of is) in
    record {
      ensured = answered refl (record { prefix = is.prefix; nodes = is.nodes; spells = is.spells; fields = record_read is few })
          (λ m r. omega (arith, (row_ranged is.spells h (fault_of is ∙ e) r).1));
    }

-- the contract leaves one answer
pub one_answer : {t : List ℕ} {a b : Result Sentence Refusal} → ReadSentenceEnsures t a → ReadSentenceEnsures t b → a ≡ b
one_answer {t} x y = one_reading one x y
  where
    one : (s s' : Sentence) → Spelled t s → Spelled t s' → s ≡ s'
    one s s' p q =
        let same = spelled_once p.spells q.spells in
        p.fields ∙ ap₂ record_of same.0 same.1 ∙ sym q.fields

-- the body follows the prefix that was read
body_after : {t r : List ℕ} (ps qs : List Bool) {ms : List Node} → t ≡ map letter_byte ps ++ 46 ∷ r → Spells qs ms t
    → (ps ≡ qs) × (r ≡ body_text ms)
body_after {t} {r} ps qs {ms} same s = one_prefix ps qs r (body_text ms) (sym same ∙ spelled_text s)

-- a prefix, and no state formula after it
pub outside_stuck : {t r : List ℕ} {o p : Prefix} → IsPrefix o t p r → Stuck (State ∷ []) r → NoSentence t
outside_stuck is none-fits qs ms s =
    none-fits [] ms [] s.nests ((body_after is.letters qs is.follows.text s).1 ∙ sym (append-nil (body_text ms)))

-- a prefix and a state formula, and something after it
pub outside_more : {t r s : List ℕ} {o p : Prefix} {letters : ℕ} {b a : Body} → IsPrefix o t p r → Reads (State ∷ []) r letters b a s
    → (length s ≡ 0 → ⊥) → NoSentence t
outside_more {t} {r} {s} is read more qs ms spells =
    let p : Peeled [] read.nodes ms s [] =
    peel [] ms s [] read.nests spells.nests
    (sym read.text ∙ (body_after is.letters qs is.follows.text spells).1 ∙ sym (append-nil (body_text ms))) in
    more (ap length (p.text ∙ ap (λ (l : List Node). body_text l ++ []) (none_left p.nests)))
