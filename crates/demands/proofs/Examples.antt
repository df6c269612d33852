-- Document 01's starred lines hold: the one statement over the one table; and so do the examples of T-05 and T-09. Assumes nothing.
use Prim.Native.Nat.{ℕ, ◌*◌, ◌^◌, ◌≤◌}
use Prim.Native.String.{String}
use mathlib.Core.Bool.{Bool, true, false, ◌&&◌, false≢true}
use mathlib.Core.List.{List, [], ◌∷◌, ◌++◌, map}
use mathlib.Core.Path.{◌≡◌, refl, ap}
use native.Mathlib.Omega.{arith}
use lib.ListN.{length}
use Rattle.counting.proofs.Laws.{left_of, right_of}
use Rattle.counting.specs.Ascii.{ascii}
use Rattle.counting.specs.Below.{sum_below, every_below, table}
use Rattle.model.specs.Rules.{fields_right, rows_right}
use Rattle.numerals.specs.Numeral.{digits, number_text}
use Rattle.sentence.specs.declared.Kind.{Kind}
use Rattle.sentence.specs.declared.Kind.TheVariants.{State, Expression}
use Rattle.sentence.specs.declared.Node.{Node}
use Rattle.sentence.specs.declared.Node.TheVariants.{True, Label, Compare, Probability, Constant, Next, Until}
use Rattle.sentence.specs.declared.Relation.TheVariants.{Less, AtLeast, Greater}
use Rattle.sentence.specs.Grammar.{writable, kind_of, wants, Nests, body_text, sentence_text}
use Rattle.sentence.specs.Grammar.Nests.{end, node}
use Rattle.sentence.specs.Working.{same_kind}
use Rattle.sentence.proofs.Suiting.{same_eq}
use Rattle.meaning.specs.Lists.{below, every, Each, nothing, further}
use Rattle.meaning.specs.Chain.{tuple_count}
use Rattle.meaning.specs.Tree.{Formula, letter_of}
use Rattle.meaning.specs.Examples.{M1, M2, M2merged, sketched, same_chain, Line, met, lines}
use Rattle.meaning.proofs.Examples.{examples as meant}
use Rattle.trees.specs.Listed.{formula_nodes, expression_nodes, path_count}
use Rattle.chain.specs.Of.{filled_weight}
use Rattle.question.specs.Contract.{area_needed}
use Rattle.merge.specs.Examples.{model_of_sketch, MergeMet}
use Rattle.merge.proofs.Examples.{examples as merged}
use Rattle.demands.specs.Watches.{Lengthened}
use Rattle.demands.specs.Examples.{TextOf, SentenceText, Texted, model_of_line, drawn, Met, M1halted, Halting, Rooms, Lengthening}

-- ---- the document's texts are those of the trees

-- whether nodes are just what is wanted: of a list that is written out, by computing
abbrev nesting : List Kind → List Node → Bool
nesting [] [] = true
nesting [] (n ∷ ns) = false
nesting (k ∷ ks) [] = false
nesting (k ∷ ks) (n ∷ ns) = same_kind (kind_of n) k && (writable n && nesting (wants n ++ ks) ns)

nested : (ks : List Kind) (ns : List Node) → nesting ks ns ≡ true → Nests ks ns
nested [] [] e = end
nested [] (n ∷ ns) e = absurd (false≢true e)
nested (k ∷ ks) [] e = absurd (false≢true e)
nested (k ∷ ks) (n ∷ ns) e =
    let rest = right_of (same_kind (kind_of n) k) (writable n && nesting (wants n ++ ks) ns) e in
    node (left_of (writable n) (nesting (wants n ++ ks) ns) rest)
    (same_eq (kind_of n) k (left_of (same_kind (kind_of n) k) (writable n && nesting (wants n ++ ks) ns) e))
    (nested (wants n ++ ks) ns (right_of (writable n) (nesting (wants n ++ ks) ns) rest))

-- the text of an expression, and of a sentence
expression : (nodes : List Node) (text : String) → nesting (Expression ∷ []) nodes ≡ true → ascii text ≡ body_text nodes
    → TextOf Expression nodes text
expression nodes text n e = record { nests = nested (Expression ∷ []) nodes n; spelled = e }

sentence : (ps : List Bool) (body : Formula) (text : String) → 1 ≤ length ps → length ps ≤ 4 →
    nesting (State ∷ []) (formula_nodes body) ≡ true → ascii text ≡ sentence_text ps (formula_nodes body)
    → SentenceText text (map letter_of ps) body
sentence ps body text some few n e =
    record {
      sentence = record {
        prefix = ps;
        body = body;
        spelled = record { some = some; few = few; nests = nested (State ∷ []) (formula_nodes body) n; text = e };
      };
      letters_are = refl;
      body_is = refl;
    }

texts : Each Texted (length lines) lines
unfolding Texted lines formula_nodes expression_nodes number_text digits
texts =
    further (expression _ "PXa1" refl refl)
    (further (expression _ "PXa1" refl refl)
    (further (expression _ "PU0,2:Ta1" refl refl)
    (further (expression _ "PU0,2:Ta1" refl refl)
    (further (expression _ "PU2,2:!a1a1" refl refl)
    (further (expression _ "PU2,2:!a1a1" refl refl)
    (further (expression _ "PU0,2:!a1a1" refl refl)
    (further (expression _ "PX&a1a2" refl refl)
    (further (expression _ "PX&a1a2" refl refl)
    (further (sentence (false ∷ false ∷ []) _ "AA.=PXa1PXa2" (omega arith) (omega arith) refl refl)
    (further (sentence (false ∷ true ∷ []) _ "AE.=PXa1PXa2" (omega arith) (omega arith) refl refl)
    (further (sentence (false ∷ []) _ "A.L-#1/4;PXa1#0/1;" (omega arith) (omega arith) refl refl)
    (further (sentence (false ∷ []) _ "A.=-#1/4;PXa1#0/1;" (omega arith) (omega arith) refl refl)
    (further (expression _ "-#1/4;PXa1" refl refl)
    (further (sentence (false ∷ []) _ "A.=PU0,0:TT#1/1;" (omega arith) (omega arith) refl refl)
    (further tt
    (further (expression _ "PU0,2:Ta1" refl refl)
    (further (expression _ "PU0,2:Ta1" refl refl)
    (further tt (further tt (further tt
    (further (expression _ "PXa1" refl refl)
    (further (expression _ "PX&a1>PXa2#0/1;" refl refl)
    (further (expression _ "PU0,2:TT" refl refl)
    (further (expression _ "PX!T" refl refl)
    (further (expression _ "PU0,3:Ta1" refl refl)
    (further (expression _ "PU0,3:Ta1" refl refl)
    (further (expression _ "PU0,0:!a1a1" refl refl)
    (further (expression _ "PU1,1:!a1a1" refl refl) nothing))))))))))))))))))))))))))))

-- ---- the chains of the lines are those of the models

drawn_M1 : drawn M1 ≡ true
unfolding drawn sketched same_chain model_of_sketch M1 every below table filled_weight
drawn_M1 = refl

drawn_M2 : drawn M2 ≡ true
unfolding drawn sketched same_chain model_of_sketch M2 every below table filled_weight
drawn_M2 = refl

drawn_merged : drawn M2merged ≡ true
unfolding drawn sketched same_chain model_of_sketch M2merged every below table filled_weight
drawn_merged = refl

models : Each (λ (l : Line). drawn (model_of_line l) ≡ true) (length lines) lines
unfolding lines
models =
    further drawn_M1 (further drawn_M1 (further drawn_M1 (further drawn_M1 (further drawn_M1 (further drawn_M1 (further drawn_M1
    (further drawn_M1 (further drawn_M1 (further drawn_M1 (further drawn_M1 (further drawn_M1 (further drawn_M1 (further drawn_M1
    (further drawn_M1
    (further drawn_M2 (further drawn_M2
    (further drawn_merged (further drawn_M2 (further drawn_M2 (further drawn_M2
    (further drawn_M1 (further drawn_M1 (further drawn_M1 (further drawn_M1
    (further drawn_M1 (further drawn_M1 (further drawn_M1 (further drawn_M1 nothing))))))))))))))))))))))))))))

-- ---- all of it

together : (l : List Line) → every met l ≡ true → Each Texted (length l) l → Each MergeMet (length l) l
    → Each (λ (x : Line). drawn (model_of_line x) ≡ true) (length l) l → Each Met (length l) l
unfolding every
together [] e nothing nothing nothing = nothing
together (x ∷ xs) e (further t ts) (further m ms) (further d ds) =
    further (record { means = left_of (met x) (every met xs) e; texted = t; merging = m; model = d })
    (together xs (right_of (met x) (every met xs) e) ts ms ds)

-- every line marked * agrees with the definitions
pub examples : Each Met (length lines) lines
examples = together lines meant texts merged models

-- ---- T-05

pub halting : Halting
unfolding M1halted model_of_sketch fields_right rows_right every_below sum_below table filled_weight same_chain sketched M1 every below
halting = record { right = refl; chain = refl; row_5 = (refl, refl); row_4 = refl }

-- ---- T-07

pub rooms : Rooms
unfolding area_needed tuple_count sketched M1
rooms = record {
  one_state = λ c e. (ap (λ (k : ℕ). 8 * k ^ 1) e, ap (λ (k : ℕ). 8 * k ^ 4) e);
  five_states = λ c e. (ap (λ (k : ℕ). 8 * k ^ 1) e, ap (λ (k : ℕ). 8 * k ^ 4) e);
  ten_states = λ c e. (ap (λ (k : ℕ). 8 * k ^ 2) e, ap (λ (k : ℕ). 8 * k ^ 3) e);
  of_M1 = (refl, refl);
}

-- ---- T-09

-- by what stands before the until and behind it
lengthened : (letters : List Bool) (front back : List Node) (k1 k2 k2' : ℕ) (text text' : String) → 1 ≤ length letters →
    length letters ≤ 4 → nesting (State ∷ []) (front ++ (Until k1 k2 ∷ back)) ≡ true →
    nesting (State ∷ []) (front ++ (Until k1 k2' ∷ back)) ≡ true →
    ascii text ≡ sentence_text letters (front ++ (Until k1 k2 ∷ back)) →
    ascii text' ≡ sentence_text letters (front ++ (Until k1 k2' ∷ back)) →
    Lengthened (ascii text) (ascii text') (path_count front) k1 k2 k2'
lengthened letters front back k1 k2 k2' text text' some few n n' e e' = record {
  letters = letters;
  front = front;
  back = back;
  shorter = record { some = some; few = few; nests = nested (State ∷ []) _ n; text = e };
  longer = record { some = some; few = few; nests = nested (State ∷ []) _ n'; text = e' };
  number = refl;
}

pub lengthening : Lengthening
unfolding path_count number_text digits
lengthening =
    let first = Compare Less ∷ Probability ∷ Next ∷ Label 0 2 ∷ Probability ∷ [] in
    let met = True ∷ Label 0 1 ∷ [] in
    let whole = Compare AtLeast ∷ Probability ∷ [] in
    let compared = True ∷ Compare Greater ∷ Probability ∷ [] in
    let constants = Constant 0 1 ∷ Constant 1 2 ∷ [] in
    record {
      second =
          lengthened (false ∷ true ∷ []) first met 0 2 3 "AE.<PXa2PU0,2:Ta1" "AE.<PXa2PU0,3:Ta1" (omega arith) (omega arith) refl refl refl
          refl;
      around =
          lengthened (false ∷ []) whole (compared ++ (Until 0 2 ∷ (met ++ constants))) 1 4 60 "A.GPU1,4:T>PU0,2:Ta1#0/1;#1/2;"
          "A.GPU1,60:T>PU0,2:Ta1#0/1;#1/2;" (omega arith) (omega arith) refl refl refl refl;
      inside =
          lengthened (false ∷ []) (whole ++ (Until 1 4 ∷ compared)) (met ++ constants) 0 2 10 "A.GPU1,4:T>PU0,2:Ta1#0/1;#1/2;"
          "A.GPU1,4:T>PU0,10:Ta1#0/1;#1/2;" (omega arith) (omega arith) refl refl refl refl;
    }
