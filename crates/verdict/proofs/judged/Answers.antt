-- `verdict::judged` meets its contract: the layer of the body, then the descent over it.
use mathlib.Core.Path.{◌∙◌}
use Rattle.question.proofs.Settled.{d_few, variables_few}
use Rattle.verdict.proofs.Judging.{formula_ready, descent_ready, judged_so}
use Rattle.verdict.proofs.judged.Goals as goal

pub filled_rows-requires : goal.filled_rows-requires
filled_rows-requires c = d_few c.requires.0

pub state_formula-requires : goal.state_formula-requires
state_formula-requires c =
    let pre = c.requires in
    formula_ready pre.0 c.setting.ensures c.filled_rows.ensures pre.1

pub shared_ref_as_front-letters : goal.shared_ref_as_front-letters
shared_ref_as_front-letters c = variables_few c.requires.0 c.setting.ensures

pub holds_from-requires : goal.holds_from-requires
holds_from-requires c =
    let pre = c.requires in
    descent_ready pre.0 c.setting.ensures c.filled_rows.ensures (c.state_formula.auto.work ∙ pre.1)

pub returns : goal.returns
returns c = record {
  each = λ text b.
      let pre = c.requires in
      judged_so pre.0 c.setting.ensures c.filled_rows.ensures c.state_formula.ensures c.holds_from.ensures b;
}
