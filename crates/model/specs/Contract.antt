-- Document 01's table of refusals, for read model (2, 3, 4, 5) and write model (4, 5, 14), and what the two calls ensure. A row
-- here is a row of that table.
use Rattle.std.specs.Prelude.{ℕ, ◌*◌, not, List, [], ◌∷◌, ◌≡◌, ltb, length, Result}
use Rattle.refusal.specs.Rows.{Row, first, Applies}
use Rattle.refusal.specs.declared.Refusal.{Refusal}
use Rattle.refusal.specs.Answers.{Reads, Writes}
use Rattle.block.specs.Block.{checks_right}
use Rattle.model.specs.declared.Model.{Model}
use Rattle.model.specs.Layout.{fields_of, blocks, file_of}
use Rattle.model.specs.Rules.{fields_right, rows_right, length_right, laid_out}

-- the rows 2 to 5 of a model file
abbrev pub file_rows : List ℕ → List Row
file_rows file =
    record { number = 2; applies = not (length_right file) } ∷
    record { number = 3; applies = not (checks_right file) } ∷
    record { number = 4; applies = not (laid_out file (fields_of file)) } ∷
    record { number = 5; applies = not (rows_right (fields_of file)) } ∷
    []

-- the number that a model file is refused with, 0 where it is accepted
unfoldable pub file_number : List ℕ → ℕ
file_number file = first (file_rows file)

-- what read model ensures of the file and what it answers: the fields of an accepted file
abbrev pub ReadModelEnsures : List ℕ → Result Model Refusal → Type 0
ReadModelEnsures file = Reads (λ n. Applies n (file_rows file)) (λ m. m ≡ fields_of file)

-- ---- the rows of write model, for a record and an output of `room` bytes

-- the rows 4, 5 and 14 of a record
abbrev pub record_rows : Model → ℕ → List Row
record_rows m room =
    record { number = 4; applies = not (fields_right m) } ∷
    record { number = 5; applies = not (rows_right m) } ∷
    record { number = 14; applies = ltb room (512 * blocks m.n) } ∷
    []

-- the number that a record is refused with, 0 where it is written
unfoldable pub record_number : Model → ℕ → ℕ
record_number m room = first (record_rows m room)

-- what write model ensures of the record, the output before and after, and of what it returns: the file of the model stands at
-- the front
abbrev pub WriteModelEnsures : Model → (before after : List ℕ) → Result ℕ Refusal → Type 0
WriteModelEnsures m before = Writes (record_rows m (length before)) (file_of m) before
