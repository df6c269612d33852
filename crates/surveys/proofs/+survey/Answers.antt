-- `survey` meets its contract, by what the node wants.
use mathlib.Core.Path.{refl, sym, ap, ◌∙◌}
use Rattle.surveys.specs.Surveys.{layers_of_two}
use Rattle.surveys.proofs.Surveying.{surveyed_none, surveyed_one, surveyed_both}
use Rattle.surveys.proofs.+survey.Goals as goal

pub returns-in-Nothing : goal.returns-in-Nothing
returns-in-Nothing t c = surveyed_none _ _ _ c.if-at-ge64.false refl refl (sym c.in-Nothing.ensures)

pub returns-in-One : goal.returns-in-One
returns-in-One t c = surveyed_one _ _ _ c.if-at-ge64.false c.survey.ensures (sym c.in-One.ensures)

pub returns-in-Two : goal.returns-in-Two
returns-in-Two t c =
    surveyed_both _ _ _ c.if-at-ge64.false c.survey-first.ensures c.survey-second.ensures refl
    (c.of_two.ensures ∙ ap (layers_of_two _) c.need_of-both.ensures) (sym c.in-Two.ensures)
