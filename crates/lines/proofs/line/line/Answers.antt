-- `line::line` meets its contract, by the cases of the answer. Assumes nothing.
use mathlib.Core.Path.{sym, ap, ◌∙◌}
use Rattle.std.specs.Prelude.{Ok}
use Rattle.lines.specs.Lines.{line_of}
use Rattle.lines.proofs.line.line.Goals as goal

pub returns-in-Ok-true-clause-out_after : goal.returns-in-Ok-true-clause-out_after
unfolding line_of
returns-in-Ok-true-clause-out_after c = sym (ap line_of (c.in-Ok-true.is ∙ ap Ok c.in-Ok-true.field-0-test))

pub returns-in-Ok-false-clause-out_after : goal.returns-in-Ok-false-clause-out_after
unfolding line_of
returns-in-Ok-false-clause-out_after c = sym (ap line_of (c.in-Ok-false.is ∙ ap Ok c.in-Ok-false.field-0-test))

pub returns-in-Err-clause-out_after : goal.returns-in-Err-clause-out_after
unfolding line_of
returns-in-Err-clause-out_after c = c.refused_line.ensures.out_after ∙ sym (ap line_of c.in-Err.is)
