-- Document 01's starred line on merging M2 holds of the definitions, said of the files.
use Prim.Native.Nat.{ℕ}
use mathlib.Core.Bool.{true, false}
use mathlib.Core.List.{List, [], ◌∷◌}
use mathlib.Core.Path.{◌≡◌, refl, ap, ◌∙◌}
use native.Mathlib.Omega.{arith}
use lib.ListN.{length}
use Rattle.counting.specs.Below.{sum_below, every_below, table}
use Rattle.counting.proofs.Laws.{length_table, table_at}
use Rattle.refusal.specs.Rows.{first}
use Rattle.model.specs.declared.Model.{Model}
use Rattle.model.specs.Layout.{Shaped, file_of}
use Rattle.model.specs.Rules.{fields_right, rows_right}
use Rattle.model.proofs.Roundtrip.{fields_written, file_written}
use Rattle.meaning.specs.Lists.{below, there_is, total, Each, nothing, further}
use Rattle.meaning.specs.Merging.{weight_into, member}
use Rattle.chain.specs.Of.{filled_weight}
use Rattle.groups.specs.Groups.{over_all, grouping_right, groups_alike, merged_model}
use Rattle.merge.specs.Contract.{group_rows, merge_number, merged_file}
use Rattle.meaning.specs.Examples.{Sketch, M2, M2merged, merges, lines}
use Rattle.merge.specs.Examples.{model_of_sketch, MergeMet}
use Rattle.merge.proofs.Numbers.{file_accepted, groups_12, groups_13, enough_room}
use Rattle.merge.proofs.Shape.{shaped}

-- ---- merging the file of a record is merging the record

module _ (m : Model) (fields : fields_right m ≡ true) (adds : rows_right m ≡ true) (long : Shaped m) (grouping : List ℕ) where
  number_of : (room : ℕ) → merge_number (file_of m) grouping room ≡ first (group_rows m grouping room)
  number_of room =
      file_accepted (file_of m) grouping room (file_written m fields adds long) ∙
      ap (λ (x : Model). first (group_rows x grouping room)) (fields_written m fields adds long)

  file_of_merged : merged_file (file_of m) grouping ≡ file_of (merged_model m grouping)
  file_of_merged = ap (λ (x : Model). file_of (merged_model x grouping)) (fields_written m fields adds long)

-- ---- M2

-- the model that the document calls so, and what it merges to
abbrev model_m2 : Model
model_m2 = model_of_sketch M2

abbrev model_m2merged : Model
model_m2merged = model_of_sketch M2merged

fields_model_m2 : fields_right model_m2 ≡ true
unfolding model_of_sketch M2 fields_right every_below table
fields_model_m2 = refl

adds_model_m2 : rows_right model_m2 ≡ true
unfolding model_of_sketch M2 rows_right every_below table sum_below
adds_model_m2 = refl

long_model_m2 : Shaped model_m2
unfolding model_of_sketch M2
long_model_m2 =
    shaped model_m2 fields_model_m2 adds_model_m2 (length_table 32 _) (length_table 32 _)
    (λ s l. ap length (table_at 32 _ [] s l) ∙ length_table 32 _)

-- 0 1 1 and 0 1 2 pass rows 12 and 13, 0 0 1 passes 12 only, 0 2 2 does not pass 12
grouped_0_1_1 : grouping_right model_m2.n (0 ∷ 1 ∷ 1 ∷ []) ≡ true
unfolding model_of_sketch M2 grouping_right every_below over_all there_is below
grouped_0_1_1 = refl

alike_0_1_1 : groups_alike model_m2 (0 ∷ 1 ∷ 1 ∷ []) ≡ true
unfolding model_of_sketch M2 groups_alike every_below over_all table weight_into total below filled_weight
alike_0_1_1 = refl

grouped_0_0_1 : grouping_right model_m2.n (0 ∷ 0 ∷ 1 ∷ []) ≡ true
unfolding model_of_sketch M2 grouping_right every_below over_all there_is below
grouped_0_0_1 = refl

unlike_0_0_1 : groups_alike model_m2 (0 ∷ 0 ∷ 1 ∷ []) ≡ false
unfolding model_of_sketch M2 groups_alike every_below over_all table weight_into total below filled_weight
unlike_0_0_1 = refl

unused_0_2_2 : grouping_right model_m2.n (0 ∷ 2 ∷ 2 ∷ []) ≡ false
unfolding model_of_sketch M2 grouping_right every_below over_all there_is below
unused_0_2_2 = refl

grouped_0_1_2 : grouping_right model_m2.n (0 ∷ 1 ∷ 2 ∷ []) ≡ true
unfolding model_of_sketch M2 grouping_right every_below over_all there_is below
grouped_0_1_2 = refl

alike_0_1_2 : groups_alike model_m2 (0 ∷ 1 ∷ 2 ∷ []) ≡ true
unfolding model_of_sketch M2 groups_alike every_below over_all table weight_into total below filled_weight
alike_0_1_2 = refl

-- what the two merge to
merged_0_1_1 : merged_model model_m2 (0 ∷ 1 ∷ 1 ∷ []) ≡ model_m2merged
unfolding merged_model model_of_sketch M2 M2merged every_below table weight_into member below total over_all filled_weight
merged_0_1_1 = refl

merged_0_1_2 : merged_model model_m2 (0 ∷ 1 ∷ 2 ∷ []) ≡ model_m2
unfolding merged_model model_of_sketch M2 every_below table weight_into member below total over_all filled_weight
merged_0_1_2 = refl

-- a claim from the facts of the record
number_model_m2 : (grouping : List ℕ) → merge_number (file_of model_m2) grouping 3072 ≡ first (group_rows model_m2 grouping 3072)
number_model_m2 grouping = number_of model_m2 fields_model_m2 adds_model_m2 long_model_m2 grouping 3072

merging_model_m2 : (grouping : List ℕ) (result : Sketch) → grouping_right model_m2.n grouping ≡ true → groups_alike model_m2 grouping ≡
    true →
    merged_model model_m2 grouping ≡ model_of_sketch result → MergeMet (merges M2 grouping result)
unfolding MergeMet
merging_model_m2 grouping result grouped alike e = (
  number_model_m2 grouping ∙ enough_room model_m2 grouping 3072 fields_model_m2 adds_model_m2 grouped alike (omega arith),
  file_of_merged model_m2 fields_model_m2 adds_model_m2 long_model_m2 grouping ∙ ap file_of e,
)

-- what the table claims of merging agrees with the definitions: four lines speak of it, the sixteenth first
pub examples : Each MergeMet (length lines) lines
unfolding MergeMet lines
examples =
    further tt (further tt (further tt (further tt (further tt (further tt (further tt (further tt (further tt (further tt
    (further tt (further tt (further tt (further tt (further tt
    (further (merging_model_m2 (0 ∷ 1 ∷ 1 ∷ []) M2merged grouped_0_1_1 alike_0_1_1 merged_0_1_1)
    (further tt (further tt
    (further (number_model_m2 (0 ∷ 0 ∷ 1 ∷ []) ∙ groups_13 model_m2 (0 ∷ 0 ∷ 1 ∷ []) 3072 grouped_0_0_1 unlike_0_0_1)
    (further (number_model_m2 (0 ∷ 2 ∷ 2 ∷ []) ∙ groups_12 model_m2 (0 ∷ 2 ∷ 2 ∷ []) 3072 unused_0_2_2)
    (further (merging_model_m2 (0 ∷ 1 ∷ 2 ∷ []) M2 grouped_0_1_2 alike_0_1_2 merged_0_1_2)
    (further tt (further tt (further tt (further tt (further tt (further tt (further tt (further tt nothing))))))))))))))))))))))))))))
