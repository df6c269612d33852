-- `question::late_rows` meets its contract: rows 9, 10 and 11 are asked in the order of their numbers.
use Prim.Native.Nat.{ℕ}
use mathlib.Core.Bool.{true, false}
use mathlib.Core.List.{List}
use mathlib.Core.Path.{◌≡◌, sym, ap, ◌∙◌}
use native.Mathlib.Omega.{arith}
use lib.ListN.{length}
use Rattle.model.specs.Layout.{fields_of}
use Rattle.meaning.specs.Lists.{every}
use Rattle.meaning.specs.Size.{exceeds}
use Rattle.trees.specs.Listed.{formula_nodes}
use Rattle.question.specs.Contract.{label_right}
use Rattle.question.specs.Working.{FileOfModel, TextOfSentence}
use Rattle.question.proofs.Pair.{states_few, letters_few, count_few, stands}
use Rattle.question.proofs.Stages.{labels_same, size_same, tuples_same, gives_9, gives_10, gives_11, gives_none}
use Rattle.question.proofs.late_rows.Goals.{After-exceeds, Else-not-labels_right}
use Rattle.question.proofs.late_rows.Goals as goal

pub shared_ref_as_front-labels_right : goal.shared_ref_as_front-labels_right
shared_ref_as_front-labels_right c = let few = count_few c.requires.sentence in omega (arith, few)

pub returns-then-not-labels_right : goal.returns-then-not-labels_right
returns-then-not-labels_right c = record {
  each = λ file text a b.
      gives_9 a b (sym (labels_same a b) ∙ sym c.labels_right.ensures ∙ c.if-not-labels_right.true);
}

-- what the first test says where it is left
right : (c : Else-not-labels_right) (file text : List ℕ) → (a : FileOfModel file c.args.m.now) →
    (b : TextOfSentence text c.args.s.now) →
    every (label_right (fields_of file).a) (formula_nodes b.body) ≡ true
right c file text a b = sym (labels_same a b) ∙ sym c.labels_right.ensures ∙ c.if-not-labels_right.false

pub exceeds-requires : goal.exceeds-requires
exceeds-requires c = letters_few c.requires.sentence

-- what the second test is of
sized : (c : After-exceeds) (file text : List ℕ) → (a : FileOfModel file c.args.m.now) → (b : TextOfSentence text c.args.s.now) →
    exceeds b.body (fields_of file).d (length b.prefix) ≡ c.exceeds.result
sized c file text a b =
    sym (size_same a b) ∙
    ap (λ (d : ℕ). exceeds b.body d c.args.s.now.letters) (sym c.from.ensures) ∙
    sym (c.exceeds.ensures b.body _ (stands b))

pub returns-then-exceeds : goal.returns-then-exceeds
returns-then-exceeds c = record {
  each = λ file text a b.
      gives_10 a b (right (goal.at.returns-then-exceeds c).Else-not-labels_right file text a b)
      (sized (goal.at.returns-then-exceeds c).After-exceeds file text a b ∙ c.if-exceeds.true);
}

-- and the second
small : (c : After-exceeds) → c.exceeds.result ≡ false → (file text : List ℕ) → (a : FileOfModel file c.args.m.now) →
    (b : TextOfSentence text c.args.s.now) → exceeds b.body (fields_of file).d (length b.prefix) ≡ false
small c e file text a b = sized c file text a b ∙ e

pub tuple_count-requires : goal.tuple_count-requires
tuple_count-requires c =
    let pre = c.requires in
    (states_few pre.model, letters_few pre.sentence)

pub returns-then-tuple_count-gt-TUPLES : goal.returns-then-tuple_count-gt-TUPLES
returns-then-tuple_count-gt-TUPLES c =
    let at = goal.at.returns-then-tuple_count-gt-TUPLES c in
    record {
      each = λ file text a b.
          let e = c.tuple_count.ensures in
          let t = tuples_same a b in
          gives_11 a b (right at.Else-not-labels_right file text a b)
          (small at.After-exceeds c.if-exceeds.false file text a b) (omega (arith, e, t, c.if-tuple_count-gt-TUPLES.true));
    }

pub returns : goal.returns
returns c =
    let at = goal.at.returns c in
    record {
      each = λ file text a b.
          let e = c.tuple_count.ensures in
          let t = tuples_same a b in
          gives_none a b (right at.Else-not-labels_right file text a b)
          (small at.After-exceeds c.if-exceeds.false file text a b) (omega (arith, e, t, c.if-tuple_count-gt-TUPLES.false));
    }
