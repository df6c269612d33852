-- `verdict::verdict` meets its contract: the question's refusal, or the verdict with the work area cleared.
use mathlib.Core.Path.{◌≡◌, ◌∙◌}
use native.Mathlib.Omega.{arith}
use borrow.Author.Rules.{rules}
use lib.ListN.{length}
use lib.Seq.{length-take-le}
use Rattle.std.specs.Prelude.{Ok, Err}
use Rattle.question.specs.Working.{Answerable}
use Rattle.question.proofs.Settled.{decided_so, answerable_so}
use Rattle.question.proofs.Cleared.{back_long, cleared_so}
use Rattle.verdict.proofs.Answering.{refused_so, refused_1, answered_so}
use Rattle.verdict.proofs.verdict.Goals.{After-judged-holds, In_ok-asked}
use Rattle.verdict.proofs.verdict.Goals as goal

-- The facts of the question's result are found without the name of the call that stands between it and its `?`.
pub returns-in_err-asked : goal.returns-in_err-asked
returns-in_err-asked c =
    let x = c.in_err-asked.field-0.0 in
    let same : c.from_residual.result ≡ Err x = search rules in
    let was : c.question_of.result ≡ Err x = search rules in
    refused_so same (decided_so was c.question_of.ensures)

-- where there is no refusal, none of the question's rows applies
answerable : (c : In_ok-asked) → Answerable c.args.file.now c.args.text.now c.in_ok-asked.asked
answerable c =
    let was : c.question_of.result ≡ Ok c.in_ok-asked.asked = search rules in
    answerable_so was c.question_of.ensures

pub returns-then-work-asked : goal.returns-then-work-asked
returns-then-work-asked c = refused_1 (answerable (goal.at.returns-then-work-asked c).In_ok-asked) c.if-work-asked.true

pub judged-holds-requires : goal.judged-holds-requires
judged-holds-requires c =
    let y = answerable (goal.at.judged-holds-requires c).In_ok-asked in
    (y.ready, length-take-le c.in_ok-asked.asked.area c.args.work.now (omega arith) ∙ y.area)

-- the area's length is unchanged on return
back : (c : After-judged-holds) → length c.judged-holds.new.area ≡ c.in_ok-asked.asked.area
back c = c.judged-holds.auto.area ∙ length-take-le c.in_ok-asked.asked.area c.args.work.now (omega arith)

pub zero-requires : goal.zero-requires
zero-requires c =
    let at = goal.at.zero-requires c in
    let long = back_long c.args.work.now c.judged-holds.new.area (omega arith) (back at.After-judged-holds) in
    omega (arith, long)

pub returns : goal.returns
returns c =
    let at = goal.at.returns c in
    answered_so (answerable at.In_ok-asked) (omega arith) c.judged-holds.ensures
    (cleared_so c.args.work.now c.judged-holds.new.area (omega arith) (back at.After-judged-holds) c.zero.ensures)
