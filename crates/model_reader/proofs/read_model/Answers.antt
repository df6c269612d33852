-- `model_reader::read_model` meets its contract: the rows are tested in the order of their numbers.
use mathlib.Core.Bool.{true}
use mathlib.Core.Path.{◌≡◌, refl, ap, sym, ◌∙◌}
use Rattle.std.specs.Prelude.{Ok}
use Rattle.refusal.specs.declared.Refusal.TheVariants.{Length, Check, Layout, Rows}
use Rattle.block.specs.Block.{checks_right}
use Rattle.model.specs.declared.Model.{Model}
use Rattle.model.specs.Layout.{fields_of}
use Rattle.model.specs.Rules.{length_right, laid_out, rows_right}
use Rattle.model.proofs.Answer.{number_2, number_3, number_4, number_5, number_0, read_refused, read_done}
use Rattle.model_reader.proofs.read_model.Goals.{After-laid_out, After-rows_right}
use Rattle.model_reader.proofs.read_model.Goals.{Else-not-checks_right, Else-not-laid_out, Else-not-length_right}
use Rattle.model_reader.proofs.read_model.Goals as goal

-- what the tests say of the file
long : (c : Else-not-length_right) → length_right c.args.file.now ≡ true
long c = sym c.length_right.ensures ∙ c.if-not-length_right.false

checked : (c : Else-not-checks_right) → checks_right c.args.file.now ≡ true
checked c = sym c.checks_right.ensures ∙ c.if-not-checks_right.false

laid : (c : After-laid_out) →
    let file = c.args.file.now in
    laid_out file (fields_of file) ≡ c.laid_out.result
laid c =
    let file = c.args.file.now in
    ap (λ (m : Model). laid_out file m) (sym c.fields_of-model.ensures) ∙ sym c.laid_out.ensures

standing : (c : Else-not-laid_out) →
    let file = c.args.file.now in
    laid_out file (fields_of file) ≡ true
standing c =
    let file = c.args.file.now in
    ap (λ (m : Model). laid_out file m) (sym c.fields_of-model.ensures) ∙ sym c.laid_out.ensures ∙ c.if-not-laid_out.false

adding : (c : After-rows_right) →
    rows_right (fields_of c.args.file.now) ≡
    c.rows_right.result
adding c = ap rows_right (sym c.fields_of-model.ensures) ∙ sym c.rows_right.ensures

pub returns-then-not-length_right : goal.returns-then-not-length_right
returns-then-not-length_right c =
    let file = c.args.file.now in
    read_refused file Length (number_2 file (sym c.length_right.ensures ∙ c.if-not-length_right.true)) refl

pub returns-then-not-checks_right : goal.returns-then-not-checks_right
returns-then-not-checks_right c =
    let file = c.args.file.now in
    read_refused file Check (number_3 file (long (goal.at.returns-then-not-checks_right c).Else-not-length_right)
    (sym c.checks_right.ensures ∙ c.if-not-checks_right.true)) refl

pub returns-then-not-laid_out : goal.returns-then-not-laid_out
returns-then-not-laid_out c =
    let at = goal.at.returns-then-not-laid_out c in
    let file = c.args.file.now in
    read_refused file Layout (number_4 file (long at.Else-not-length_right) (checked at.Else-not-checks_right)
    (laid at.After-laid_out ∙ c.if-not-laid_out.true)) refl

pub returns-then-not-rows_right : goal.returns-then-not-rows_right
returns-then-not-rows_right c =
    let at = goal.at.returns-then-not-rows_right c in
    let file = c.args.file.now in
    read_refused file Rows
    (number_5 file (long at.Else-not-length_right) (checked at.Else-not-checks_right) (standing at.Else-not-laid_out)
    (adding at.After-rows_right ∙ c.if-not-rows_right.true)) refl

pub returns : goal.returns
returns c =
    let at = goal.at.returns c in
    let file = c.args.file.now in
    read_done file (number_0 file (long at.Else-not-length_right) (checked at.Else-not-checks_right) (standing at.Else-not-laid_out)
    (adding at.After-rows_right ∙ c.if-not-rows_right.false)) (ap Ok c.fields_of-model.ensures)
