-- `model_reader::laid::laid_out` meets its contract: the fields, the number of blocks, and every block.
use mathlib.Core.Bool.{Bool, true, ◌&&◌}
use mathlib.Core.Path.{◌≡◌, ap, ap₂, sym, ◌∙◌}
use native.Mathlib.Omega.{arith}
use borrow.Author.Tests.{eq-eqb, ne_eqb}
use lib.Dec.{eqb}
use Rattle.counting.specs.Below.{every_below}
use Rattle.block.specs.Block.{byte_of, blocks_in}
use Rattle.model.specs.declared.Model.{Model}
use Rattle.model.specs.Layout.{content_byte, blocks}
use Rattle.model.specs.Rules.{fields_right, laid_out}
use Rattle.model.proofs.Rightness.{states_few}
use Rattle.model_reader.proofs.laid.laid_out.Goals.{Else-not-fields_right}
use Rattle.model_reader.proofs.laid.laid_out.Goals as goal

-- past the first test the fields are right
right : (c : Else-not-fields_right) → fields_right c.args.m.now ≡ true
right c = sym c.fields_right.ensures ∙ c.if-not-fields_right.false

pub returns-then-not-fields_right : goal.returns-then-not-fields_right
unfolding laid_out
returns-then-not-fields_right c =
    let a = c.args in
    sym (ap (λ (b : Bool). b && eqb (blocks_in a.file.now) (blocks a.m.now.n) && every_below (blocks_in a.file.now)
    (λ i. every_below 510 (λ j. eqb (byte_of a.file.now i j) (content_byte a.m.now i j))))
    (sym c.fields_right.ensures ∙ c.if-not-fields_right.true))

pub returns-then-blocks-wanted : goal.returns-then-blocks-wanted
unfolding laid_out
returns-then-blocks-wanted c =
    let a = c.args in
    sym (ap₂ (λ (b e : Bool). b && e && every_below (blocks_in a.file.now)
    (λ i. every_below 510 (λ j. eqb (byte_of a.file.now i j) (content_byte a.m.now i j))))
    (right (goal.at.returns-then-blocks-wanted c).Else-not-fields_right) (ne_eqb _ _ c.if-blocks-wanted.true))

pub blocks_laid-requires : goal.blocks_laid-requires
blocks_laid-requires c = omega (arith, states_few _ (right (goal.at.blocks_laid-requires c).Else-not-fields_right))

pub returns : goal.returns
unfolding laid_out
returns c =
    let a = c.args in
    let standing : Model → Bool =
    λ m. every_below (blocks_in a.file.now) (λ i. every_below 510 (λ j. eqb (byte_of a.file.now i j) (content_byte m i j))) in
    c.blocks_laid.ensures ∙ ap standing (sym c.requires) ∙
    sym (ap₂ (λ (b e : Bool). b && e && standing a.m.now) (right (goal.at.returns c).Else-not-fields_right)
    (eq-eqb _ _ c.if-blocks-wanted.false))
