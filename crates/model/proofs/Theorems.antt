-- What a reader of document 01 asks of the two calls, said of their definitions: the number given is the smallest that
-- applies, the contracts leave one result, and both round trips.
use Prim.Native.Nat.{ℕ, ◌*◌, ◌≤◌}
use mathlib.Core.Bool.{true, not}
use mathlib.Core.List.{List, []}
use mathlib.Core.Path.{◌≡◌, sym, ap, ◌∙◌}
use native.Mathlib.Omega.{arith}
use borrow.Author.Tests.{not-false, ltb-false}
use lib.Dec.{ltb}
use lib.ListN.{length}
use Rattle.std.specs.Prelude.{Result}
use Rattle.refusal.specs.declared.Refusal.{Refusal}
use Rattle.refusal.specs.Rows.{Given}
use Rattle.refusal.proofs.Ensuring.{one_reading as one_reading-of}
use Rattle.refusal.proofs.Laws.{smallest, none_here}
use Rattle.block.specs.Block.{checks_right}
use Rattle.model.specs.declared.Model.{Model}
use Rattle.model.specs.Layout.{Shaped, blocks, fields_of, file_of}
use Rattle.model.specs.Rules.{length_right, fields_right, laid_out, rows_right}
use Rattle.model.specs.Contract.{file_rows, file_number, record_rows, record_number, ReadModelEnsures}
use Rattle.model.proofs.Answer.{record_0, file_rows_ascend, record_rows_ascend}
use Rattle.model.proofs.Rightness.{laid_fields}
use Rattle.model.proofs.Roundtrip.{written_back, fields_written, file_written}
use Rattle.model.proofs.Written.{length_blocks}

-- ---- the smallest number that applies

pub read_smallest : (file : List ℕ) → Given (file_rows file) (file_number file)
unfolding file_number
read_smallest file = smallest (file_rows_ascend file)

pub write_smallest : (m : Model) (room : ℕ) → Given (record_rows m room) (record_number m room)
unfolding record_number
write_smallest m room = smallest (record_rows_ascend m room)

-- ---- one result

pub one_reading : (file : List ℕ) {r r' : Result Model Refusal} → ReadModelEnsures file r → ReadModelEnsures file r' → r ≡ r'
one_reading file = one_reading-of (λ m m' p q. p ∙ sym q)

-- ---- what an accepted file, and an accepted record, is

pub record Accepted (file : List ℕ) : Type 0 where
  pub long : length_right file ≡ true
  pub checks : checks_right file ≡ true
  pub laid : laid_out file (fields_of file) ≡ true
  pub sums : rows_right (fields_of file) ≡ true

pub accepted : (file : List ℕ) → file_number file ≡ 0 → Accepted file
unfolding file_number
accepted file e =
    let two = none_here 1 (not (length_right file)) _ e in
    let three = none_here 2 (not (checks_right file)) _ two.1 in
    let four = none_here 3 (not (laid_out file (fields_of file))) _ three.1 in
    let five = none_here 4 (not (rows_right (fields_of file))) [] four.1 in
    record { long = not-false _ two.0; checks = not-false _ three.0; laid = not-false _ four.0; sums = not-false _ five.0 }

pub record RecordAccepted (m : Model) (room : ℕ) : Type 0 where
  pub fields : fields_right m ≡ true
  pub sums : rows_right m ≡ true
  pub fits : 512 * blocks m.n ≤ room

pub record_accepted : (m : Model) (room : ℕ) → record_number m room ≡ 0 → RecordAccepted m room
unfolding record_number
record_accepted m room e =
    let four = none_here 3 (not (fields_right m)) _ e in
    let five = none_here 4 (not (rows_right m)) _ four.1 in
    let last = none_here 13 (ltb room (512 * blocks m.n)) [] five.1 in
    record { fields = not-false _ four.0; sums = not-false _ five.0; fits = ltb-false room (512 * blocks m.n) last.0 }

-- ---- both round trips

-- writing what was read gives the same bytes
pub write_of_read : (file : List ℕ) → file_number file ≡ 0 → file_of (fields_of file) ≡ file
write_of_read file e =
    let a = accepted file e in
    written_back file a.long a.checks (fields_of file) a.laid

-- and an output with room for them is not refused
pub write_of_read_fits : (file : List ℕ) (room : ℕ) → file_number file ≡ 0 → length file ≤ room → record_number (fields_of file) room ≡ 0
write_of_read_fits file room e h =
    let a = accepted file e in
    let size = length_blocks (fields_of file) (blocks (fields_of file).n) in
    let same = ap length (write_of_read file e) in
    record_0 (fields_of file) room (laid_fields file (fields_of file) a.laid) a.sums (omega arith)

-- reading what was written gives the same model, and no refusal
pub read_of_write : (m : Model) (room : ℕ) → Shaped m → record_number m room ≡ 0 →
    (file_number (file_of m) ≡ 0) × (fields_of (file_of m) ≡ m)
read_of_write m room shaped e =
    let w = record_accepted m room e in
    (file_written m w.fields w.sums shaped, fields_written m w.fields w.sums shaped)
