-- The rows of merge (document 01's table: 2 to 5, 12, 13 and 14), and what merge writes.
use Rattle.std.specs.Prelude.{ℕ, not, List, [], ◌∷◌, ◌++◌, ltb, length, Result}
use Rattle.refusal.specs.Rows.{Row, first}
use Rattle.refusal.specs.declared.Refusal.{Refusal}
use Rattle.refusal.specs.Answers.{Writes}
use Rattle.model.specs.declared.Model.{Model}
use Rattle.model.specs.Layout.{fields_of, file_of}
use Rattle.model.specs.Contract.{file_rows}
use Rattle.groups.specs.Groups.{grouping_right, groups_alike, merged_model}

-- the rows 12, 13 and 14, for the model of an accepted file, a grouping and an output of `room` bytes
abbrev pub group_rows : Model → List ℕ → ℕ → List Row
group_rows m grouping room =
    record { number = 12; applies = not (grouping_right m.n grouping) } ∷
    record { number = 13; applies = not (groups_alike m grouping) } ∷
    record { number = 14; applies = ltb room (length (file_of (merged_model m grouping))) } ∷
    []

-- the rows of merge
abbrev pub merge_rows : (file grouping : List ℕ) (room : ℕ) → List Row
merge_rows file grouping room = file_rows file ++ group_rows (fields_of file) grouping room

-- the number that merge refuses with, 0 where it writes
unfoldable pub merge_number : (file grouping : List ℕ) (room : ℕ) → ℕ
merge_number file grouping room = first (merge_rows file grouping room)

-- what merge writes: the file of the merged model
abbrev pub merged_file : (file grouping : List ℕ) → List ℕ
merged_file file grouping = file_of (merged_model (fields_of file) grouping)

-- what merge ensures of the model file, the grouping, the output before and after, and of what it returns: the file of the merged
-- model stands at the front
abbrev pub MergeEnsures : (file grouping before after : List ℕ) → Result ℕ Refusal → Type 0
MergeEnsures file grouping before = Writes (merge_rows file grouping (length before)) (merged_file file grouping) before
