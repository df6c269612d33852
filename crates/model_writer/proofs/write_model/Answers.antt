-- `model_writer::write_model` meets its contract: the rows are tested in the order of their numbers, and nothing is written
-- before the last.
use mathlib.Core.Bool.{true}
use mathlib.Core.Path.{◌≡◌, refl, ap, sym, ◌∙◌}
use native.Mathlib.Omega.{arith}
use lib.ListN.{length}
use Rattle.std.specs.Prelude.{Ok}
use Rattle.refusal.specs.declared.Refusal.TheVariants.{Layout, Rows, Room}
use Rattle.refusal.proofs.Listed.{writes_refused, writes_done}
use Rattle.model.specs.Layout.{blocks, file_of}
use Rattle.model.specs.Rules.{fields_right, rows_right}
use Rattle.model.specs.Contract.{record_number}
use Rattle.model.proofs.Answer.{record_4, record_5, record_14, record_0, record_rows_ascend}
use Rattle.model.proofs.Rightness.{states_few}
use Rattle.model.proofs.Written.{length_blocks}
use Rattle.model_writer.proofs.write_model.Goals.{Else-not-fields_right, Else-not-rows_right}
use Rattle.model_writer.proofs.write_model.Goals as goal

-- what the tests say of the record
right : (c : Else-not-fields_right) → fields_right c.args.m.now ≡ true
right c = sym c.fields_right.ensures ∙ c.if-not-fields_right.false

adding : (c : Else-not-rows_right) → rows_right c.args.m.now ≡ true
adding c = sym c.rows_right.ensures ∙ c.if-not-rows_right.false

pub returns-then-not-fields_right : goal.returns-then-not-fields_right
unfolding record_number
returns-then-not-fields_right c =
    let a = c.args in
    writes_refused (record_rows_ascend a.m.now (length a.out.now)) (file_of a.m.now) Layout
    (record_4 a.m.now (length a.out.now) (sym c.fields_right.ensures ∙ c.if-not-fields_right.true)) refl refl

pub returns-then-not-rows_right : goal.returns-then-not-rows_right
unfolding record_number
returns-then-not-rows_right c =
    let a = c.args in
    writes_refused (record_rows_ascend a.m.now (length a.out.now)) (file_of a.m.now) Rows
    (record_5 a.m.now (length a.out.now) (right (goal.at.returns-then-not-rows_right c).Else-not-fields_right)
    (sym c.rows_right.ensures ∙ c.if-not-rows_right.true)) refl refl

pub returns-then-out-size : goal.returns-then-out-size
unfolding record_number
returns-then-out-size c =
    let at = goal.at.returns-then-out-size c in
    let a = c.args in
    writes_refused (record_rows_ascend a.m.now (length a.out.now)) (file_of a.m.now) Room
    (record_14 a.m.now (length a.out.now) (right at.Else-not-fields_right) (adding at.Else-not-rows_right) c.if-out-size.true)
    refl refl

pub write_blocks-requires : goal.write_blocks-requires
write_blocks-requires c =
    let few = states_few c.args.m.now (right (goal.at.write_blocks-requires c).Else-not-fields_right) in
    (omega arith, omega arith)

pub shape_of-out : goal.shape_of-out
shape_of-out c = c.write_blocks.auto.out

pub returns : goal.returns
unfolding record_number
returns c =
    let at = goal.at.returns c in
    let a = c.args in
    let m = a.m.now in
    let size = length_blocks m (blocks m.n) in
    writes_done (record_rows_ascend m (length a.out.now)) (file_of m)
    (record_0 m (length a.out.now) (right at.Else-not-fields_right) (adding at.Else-not-rows_right) (omega arith))
    (ap Ok (sym size)) c.write_blocks.ensures
