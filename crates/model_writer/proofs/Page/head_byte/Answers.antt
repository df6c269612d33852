-- `Page::head_byte` meets its contract: the start byte by byte, then the masks.
use Prim.Native.Nat.{◌≤◌}
use mathlib.Core.Path.{ap, sym, ◌∙◌}
use native.Mathlib.Omega.{arith}
use Rattle.model.specs.declared.Model.{Model}
use Rattle.model.specs.Layout.{head_byte}
use Rattle.model.proofs.Rightness.{states_few, labels_few, version_few}
use Rattle.model.proofs.Standing.{head_rest}
use Rattle.model_writer.proofs.Bytes.{byte_0, byte_1, byte_2, byte_3}
use Rattle.model_writer.proofs.Page.head_byte.Goals.{In_default, Start}
use Rattle.model_writer.proofs.Page.head_byte.Goals as goal

-- the model of the fields at hand
abbrev fields : Start → Model
fields c = c.args.self.model.now

-- past the start
past : (c : In_default) → 8 ≤ c.args.j
past c = omega arith

pub overflow_sub-j : goal.overflow_sub-j
overflow_sub-j c = past (goal.at.overflow_sub-j c).In_default

-- N, A and the version of right fields are bytes
pub overflow_cast-result : goal.overflow_cast-result
overflow_cast-result c = omega (arith, states_few _ c.args.self.right)

pub overflow_cast-result-in-2 : goal.overflow_cast-result-in-2
overflow_cast-result-in-2 c = omega (arith, labels_few _ c.args.self.right)

pub overflow_cast-result-in-3 : goal.overflow_cast-result-in-3
overflow_cast-result-in-3 c = omega (arith, version_few _ c.args.self.right)

pub returns-in-0 : goal.returns-in-0
unfolding head_byte
returns-in-0 c = sym (ap (head_byte (fields (goal.at.returns-in-0 c).Start)) c.in-0.is)

pub returns-in-1 : goal.returns-in-1
unfolding head_byte
returns-in-1 c = sym (ap (head_byte (fields (goal.at.returns-in-1 c).Start)) c.in-1.is)

pub returns-in-2 : goal.returns-in-2
unfolding head_byte
returns-in-2 c = sym (ap (head_byte (fields (goal.at.returns-in-2 c).Start)) c.in-2.is)

pub returns-in-3 : goal.returns-in-3
unfolding head_byte
returns-in-3 c = sym (ap (head_byte (fields (goal.at.returns-in-3 c).Start)) c.in-3.is)

pub returns-in-4 : goal.returns-in-4
unfolding head_byte
returns-in-4 c =
    byte_0 c.args.self.model.now.d c.to_le_bytes.ensures ∙
    sym (ap (head_byte (fields (goal.at.returns-in-4 c).Start)) c.in-4.is)

pub returns-in-5 : goal.returns-in-5
unfolding head_byte
returns-in-5 c =
    byte_1 c.args.self.model.now.d c.to_le_bytes.ensures ∙
    sym (ap (head_byte (fields (goal.at.returns-in-5 c).Start)) c.in-5.is)

pub returns-in-6 : goal.returns-in-6
unfolding head_byte
returns-in-6 c =
    byte_2 c.args.self.model.now.d c.to_le_bytes.ensures ∙
    sym (ap (head_byte (fields (goal.at.returns-in-6 c).Start)) c.in-6.is)

pub returns-in-7 : goal.returns-in-7
unfolding head_byte
returns-in-7 c =
    byte_3 c.args.self.model.now.d c.to_le_bytes.ensures ∙
    sym (ap (head_byte (fields (goal.at.returns-in-7 c).Start)) c.in-7.is)

pub returns-in_default : goal.returns-in_default
unfolding head_byte
returns-in_default c =
    let at = goal.at.returns-in_default c in
    c.mask_byte.ensures ∙ sym (head_rest (fields at.Start) _ (past at.In_default))
