-- The number that merge gives, test by test.
use Prim.Native.Nat.{ℕ, ◌≤◌, ◌<◌}
use mathlib.Core.Bool.{true, false, not}
use mathlib.Core.List.{List, [], ◌∷◌}
use mathlib.Core.Path.{◌≡◌, refl, sym, ap, ◌∙◌}
use native.Mathlib.Omega.{arith}
use lib.Dec.{ltb}
use Rattle.refusal.specs.Rows.{Row, first, Ascending}
use Rattle.refusal.proofs.Laws.{in_order, first_here, first_later}
use Rattle.refusal.proofs.Joined.{joined_refused, joined_accepted}
use Rattle.model.specs.declared.Model.{Model}
use Rattle.model.specs.Layout.{blocks, fields_of}
use Rattle.model.specs.Rules.{fields_right, rows_right}
use Rattle.model.specs.Contract.{file_rows, file_number, record_number}
use Rattle.model.proofs.Answer.{file_rows_ascend, record_0}
use Rattle.model.proofs.Rightness.{states_few}
use Rattle.model.proofs.Written.{length_blocks}
use Rattle.groups.specs.Groups.{grouping_right, groups_alike, merged_model}
use Rattle.merge.specs.Contract.{group_rows, merge_rows, merge_number}
use Rattle.merge.proofs.Merging.{fields_merged, rows_merged}

-- ---- the rows stand in the order of their numbers

pub group_rows_ascend : (m : Model) (grouping : List ℕ) (room : ℕ) → Ascending 0 (group_rows m grouping room)
group_rows_ascend m grouping room = in_order 0 (group_rows m grouping room) refl

pub merge_rows_ascend : (file grouping : List ℕ) (room : ℕ) → Ascending 0 (merge_rows file grouping room)
merge_rows_ascend file grouping room = in_order 0 (merge_rows file grouping room) refl

-- ---- of the model of an accepted file

module _ (m : Model) (grouping : List ℕ) (room : ℕ) where
  pub groups_12 : grouping_right m.n grouping ≡ false → first (group_rows m grouping room) ≡ 12
  groups_12 e = first_here 12 _ (ap not e)

  pub groups_13 : grouping_right m.n grouping ≡ true → groups_alike m grouping ≡ false →
      first (group_rows m grouping room) ≡ 13
  groups_13 a e = first_later 12 _ (ap not a) ∙ first_here 13 _ (ap not e)

  -- what is left is the output's row, as the writer has it
  pub groups_14 : fields_right m ≡ true → rows_right m ≡ true → grouping_right m.n grouping ≡ true →
      groups_alike m grouping ≡ true → record_number (merged_model m grouping) room ≡ first (group_rows m grouping room)
  unfolding record_number
  groups_14 fields adds a e =
      let merged = merged_model m grouping in
      let last : ℕ → List Row = λ size. record { number = 14; applies = ltb room size } ∷ [] in
      first_later 4 _ (ap not (fields_merged m grouping fields a)) ∙
      first_later 5 _ (ap not (rows_merged m grouping fields a e adds)) ∙
      ap (λ (size : ℕ). first (last size)) (sym (length_blocks merged (blocks merged.n))) ∙
      sym (first_later 12 _ (ap not a) ∙ first_later 13 _ (ap not e))

  -- an output of 3,072 bytes has room for every merged file
  pub enough_room : fields_right m ≡ true → rows_right m ≡ true → grouping_right m.n grouping ≡ true →
      groups_alike m grouping ≡ true → 3072 ≤ room → first (group_rows m grouping room) ≡ 0
  enough_room fields adds a e big =
      let right = fields_merged m grouping fields a in
      let few = states_few (merged_model m grouping) right in
      sym (groups_14 fields adds a e) ∙
      record_0 (merged_model m grouping) room right (rows_merged m grouping fields a e adds) (omega arith)

-- ---- of a file

module _ (file grouping : List ℕ) (room : ℕ) where
  pub file_refused : (k : ℕ) → 0 < k → file_number file ≡ k → merge_number file grouping room ≡ k
  unfolding file_number merge_number
  file_refused = joined_refused (file_rows file) (group_rows (fields_of file) grouping room)

  pub file_accepted : file_number file ≡ 0 → merge_number file grouping room ≡ first (group_rows (fields_of file) grouping room)
  unfolding file_number merge_number
  file_accepted e =
      joined_accepted (file_rows_ascend file) (group_rows (fields_of file) grouping room) e
