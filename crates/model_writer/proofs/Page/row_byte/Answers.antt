-- `Page::row_byte` meets its contract: two marks, then the rows, then zeros.
use Prim.Native.Nat.{◌≤◌}
use mathlib.Core.Path.{ap, sym, ◌∙◌}
use native.Mathlib.Omega.{arith}
use Rattle.model.specs.declared.Model.{Model}
use Rattle.model.specs.Layout.{row_byte}
use Rattle.model.proofs.Standing.{row_rest, row_end}
use Rattle.model_writer.proofs.Page.row_byte.Goals.{In_default, Start}
use Rattle.model_writer.proofs.Page.row_byte.Goals as goal

-- the model of the rows at hand
abbrev fields : Start → Model
fields c = c.args.self.model.now

-- past the two marks
past : (c : In_default) → 2 ≤ c.args.j
past c = omega arith

pub returns-in-0 : goal.returns-in-0
unfolding row_byte
returns-in-0 c = sym (ap (row_byte (fields (goal.at.returns-in-0 c).Start) _) c.in-0.is)

pub returns-in-1 : goal.returns-in-1
unfolding row_byte
returns-in-1 c = sym (ap (row_byte (fields (goal.at.returns-in-1 c).Start) _) c.in-1.is)

pub returns-then-j-lt-ROWS_END : goal.returns-then-j-lt-ROWS_END
unfolding row_byte
returns-then-j-lt-ROWS_END c =
    let at = goal.at.returns-then-j-lt-ROWS_END c in
    c.weight_byte.ensures
    ∙ sym (row_rest (fields at.Start) _ _ (past at.In_default) c.if-j-lt-ROWS_END.true)

pub returns-else-j-lt-ROWS_END : goal.returns-else-j-lt-ROWS_END
unfolding row_byte
returns-else-j-lt-ROWS_END c = sym (row_end (fields (goal.at.returns-else-j-lt-ROWS_END c).Start) _ _ c.if-j-lt-ROWS_END.false)
