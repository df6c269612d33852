-- `numerator::numerator` meets its contract: the refusal that the rows give, or the two values with the work area cleared.
use mathlib.Core.Path.{◌≡◌, ◌∙◌}
use native.Mathlib.Omega.{arith}
use borrow.Author.Rules.{rules}
use lib.ListN.{length}
use lib.Seq.{length-take-le}
use Rattle.std.specs.Prelude.{Ok, Err}
use Rattle.question.specs.Working.{Answerable}
use Rattle.question.proofs.Settled.{decided_so, answerable_so}
use Rattle.question.proofs.Cleared.{back_long, cleared_so}
use Rattle.numerator.proofs.Asking.{asks_wrong, asks_so, right_parts}
use Rattle.numerator.proofs.Answering.{refused_so, refused_15, refused_1, answered_so}
use Rattle.numerator.proofs.numerator.Goals.{After-counted-ratio, In_ok-asked}
use Rattle.numerator.proofs.numerator.Goals as goal

-- The facts of the question's result are found without the name of the call that stands between it and its `?`.
pub returns-in_err-asked : goal.returns-in_err-asked
returns-in_err-asked c =
    let x = c.in_err-asked.field-0.0 in
    let same : c.from_residual.result ≡ Err x = search rules in
    let was : c.question_of.result ≡ Err x = search rules in
    refused_so same (decided_so was c.question_of.ensures)

-- where there is no refusal, none of the question's rows applies
answerable : (c : In_ok-asked) → Answerable c.args.file.now c.args.text.now c.in_ok-asked.asked
answerable c =
    let was : c.question_of.result ≡ Ok c.in_ok-asked.asked = search rules in
    answerable_so was c.question_of.ensures

pub asks_right-requires : goal.asks_right-requires
asks_right-requires c = (answerable (goal.at.asks_right-requires c).In_ok-asked).ready

pub returns-then-not-asks_right : goal.returns-then-not-asks_right
returns-then-not-asks_right c =
    let y = answerable (goal.at.returns-then-not-asks_right c).In_ok-asked in
    refused_15 c.args.work.now y (asks_wrong c.asks_right.ensures y.sentence c.if-not-asks_right.true)

pub returns-then-work-asked : goal.returns-then-work-asked
returns-then-work-asked c =
    let y = answerable (goal.at.returns-then-work-asked c).In_ok-asked in
    let right = asks_so c.asks_right.ensures y.sentence c.if-not-asks_right.false in
    refused_1 c.args.work.now y (right_parts _ _ _ _ _ right) c.if-work-asked.true

pub counted-ratio-requires : goal.counted-ratio-requires
counted-ratio-requires c =
    let y = answerable (goal.at.counted-ratio-requires c).In_ok-asked in
    let right = asks_so c.asks_right.ensures y.ready.read.sentence c.if-not-asks_right.false in
    (record { ready = y.ready; right = right }, length-take-le c.in_ok-asked.asked.area c.args.work.now (omega arith) ∙ y.area)

-- the area's length is unchanged on return
back : (c : After-counted-ratio) → length c.counted-ratio.new.area ≡ c.in_ok-asked.asked.area
back c = c.counted-ratio.auto.area ∙ length-take-le c.in_ok-asked.asked.area c.args.work.now (omega arith)

pub zero-requires : goal.zero-requires
zero-requires c =
    let at = goal.at.zero-requires c in
    let long = back_long c.args.work.now c.counted-ratio.new.area (omega arith) (back at.After-counted-ratio) in
    omega (arith, long)

pub returns : goal.returns
returns c =
    let at = goal.at.returns c in
    let y = answerable at.In_ok-asked in
    let right = asks_so c.asks_right.ensures y.sentence c.if-not-asks_right.false in
    answered_so c.args.work.now y (right_parts _ _ _ _ _ right) (omega arith) c.counted-ratio.ensures
    (cleared_so c.args.work.now c.counted-ratio.new.area (omega arith) (back at.After-counted-ratio) c.zero.ensures)
