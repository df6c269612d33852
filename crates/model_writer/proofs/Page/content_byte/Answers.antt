-- `Page::content_byte` meets its contract: block 0 is the head.
use Prim.Native.Nat.{ℕ}
use mathlib.Core.Path.{ap, sym, ◌∙◌}
use native.Mathlib.Omega.{arith}
use Rattle.model.specs.declared.Model.{Model}
use Rattle.model.specs.Layout.{head_byte, row_byte, content_byte}
use Rattle.model.proofs.Standing.{content_head, content_row}
use Rattle.model_writer.proofs.Page.content_byte.Goals.{Start}
use Rattle.model_writer.proofs.Page.content_byte.Goals as goal

-- the model of the fields at hand
abbrev fields : Start → Model
fields c = c.args.self.model.now

pub returns-then-i-eq0 : goal.returns-then-i-eq0
unfolding head_byte
returns-then-i-eq0 c =
    let m = fields (goal.at.returns-then-i-eq0 c).Start in
    let j = c.args.j in
    c.head_byte.ensures ∙ sym (content_head m j) ∙ ap (λ (i : ℕ). content_byte m i j) (sym c.if-i-eq0.true)

pub returns-else-i-eq0 : goal.returns-else-i-eq0
unfolding row_byte
returns-else-i-eq0 c =
    let a = c.args in
    c.row_byte.ensures ∙ sym (content_row (fields (goal.at.returns-else-i-eq0 c).Start) a.i a.j (omega arith))
