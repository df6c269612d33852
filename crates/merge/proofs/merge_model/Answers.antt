-- `merge::merge_model` meets its contract: the rows are tested in the order of their numbers, and what the writer is
-- given is the merged model.
use Prim.Native.Nat.{ℕ, ◌≤◌}
use mathlib.Core.Bool.{true}
use mathlib.Core.List.{List, []}
use mathlib.Core.Path.{◌≡◌, refl, sym, ap, ap₂, subst, ◌∙◌}
use native.Mathlib.Omega.{arith}
use lib.ListN.{length, get_or}
use Rattle.counting.specs.Below.{sum_below, every_below}
use Rattle.refusal.specs.declared.Refusal.TheVariants.{Grouping, Alike}
use Rattle.refusal.specs.Answers.{Writes}
use Rattle.model.specs.declared.Model.{Model}
use Rattle.model.specs.Layout.{model_of, file_of}
use Rattle.model.specs.Contract.{record_rows, record_number}
use Rattle.model.proofs.Answer.{record_rows_ascend}
use Rattle.model.proofs.Rightness as right
use Rattle.chain.specs.Of.{filled_rows}
use Rattle.groups.specs.Groups.{group_of, group_count, is_used, member_of, grouping_right, groups_alike, merged_model}
use Rattle.groups.specs.Working.{pair_alike, masks_of_groups, rows_of_groups}
use Rattle.groups.proofs.Grouped.{as_long, all_used}
use Rattle.merge.proofs.Merging.{few}
use Rattle.merge.proofs.Built.{totals_of, row_small, alike_built, model_built}
use Rattle.merge.proofs.Numbers.{group_rows_ascend, groups_12, groups_13, groups_14}
use Rattle.refusal.proofs.Listed.{writes_refused, rows_changed}
use Rattle.merge.proofs.merge_model.Goals.{After-group_count-count, After-model_of_groups-merged, After-states_alike}
use Rattle.merge.proofs.merge_model.Goals.{After-totals_of-totals, Else-not-grouping_right}
use Rattle.merge.proofs.merge_model.Goals as goal

-- what the tests say
grouped : (c : Else-not-grouping_right) →
    let a = c.args in
    grouping_right a.m.now.n a.grouping.now ≡ true
grouped c = sym c.grouping_right.ensures ∙ c.if-not-grouping_right.false

-- the count and the totals
counted : (c : After-group_count-count) →
    c.group_count-count.result ≡ group_count c.args.grouping.now
counted c = c.group_count-count.ensures.0

totalled : (c : After-totals_of-totals) →
    let a = c.args in
    c.totals_of-totals.result ≡ totals_of (filled_rows a.m.now) a.grouping.now a.m.now.n
totalled c =
    let a = c.args in
    c.totals_of-totals.ensures ∙ ap (λ (rows : List (List ℕ)). totals_of rows a.grouping.now a.m.now.n) c.filled_rows-rows.ensures

tested : (c : After-states_alike) →
    let a = c.args in
    c.totals_of-totals.result ≡ totals_of (filled_rows a.m.now) a.grouping.now a.m.now.n →
    c.group_count-count.result ≡ group_count a.grouping.now →
    grouping_right a.m.now.n a.grouping.now ≡ true →
    c.states_alike.result ≡ groups_alike a.m.now a.grouping.now
tested c total count right =
    let a = c.args in
    c.states_alike.ensures ∙
    ap₂
    (λ (totals : List (List ℕ)) (count : ℕ).
    every_below a.m.now.n
    (λ s. pair_alike a.m.now.masks totals count s (member_of a.m.now.n a.grouping.now (group_of a.grouping.now s))))
    total count ∙
    alike_built a.m.now a.grouping.now c.requires.0 right

pub returns-then-not-grouping_right : goal.returns-then-not-grouping_right
returns-then-not-grouping_right c =
    let a = c.args in
    writes_refused (group_rows_ascend a.m.now a.grouping.now (length a.out.now)) (file_of (merged_model a.m.now a.grouping.now)) Grouping
    (groups_12 a.m.now a.grouping.now (length a.out.now)
    (sym c.grouping_right.ensures ∙ c.if-not-grouping_right.true)) refl refl

pub filled_rows-rows-requires : goal.filled_rows-rows-requires
filled_rows-rows-requires c =
    omega (arith, right.total_few c.args.m.now c.requires.0)

pub totals_of-totals-requires : goal.totals_of-totals-requires
totals_of-totals-requires c =
    let a = c.args in (
      right.states_few a.m.now c.requires.0,
      λ s l.
          subst (λ (rows : List (List ℕ)). sum_below a.m.now.n (λ t. get_or (get_or rows s []) t 0) ≤ 65535)
          (sym c.filled_rows-rows.ensures)
          (row_small a.m.now c.requires.0 c.requires.1 s l),
    )

pub states_alike-requires : goal.states_alike-requires
states_alike-requires c =
    let at = goal.at.states_alike-requires c in
    let a = c.args in
    let states = right.states_few a.m.now c.requires.0 in
    let groups = few a.m.now a.grouping.now c.requires.0 (grouped at.Else-not-grouping_right) in
    let count = counted at.After-group_count-count in
    (omega arith, omega arith, as_long a.m.now.n a.grouping.now (grouped at.Else-not-grouping_right))

pub returns-then-not-states_alike : goal.returns-then-not-states_alike
returns-then-not-states_alike c =
    let at = goal.at.returns-then-not-states_alike c in
    let a = c.args in
    writes_refused (group_rows_ascend a.m.now a.grouping.now (length a.out.now)) (file_of (merged_model a.m.now a.grouping.now)) Alike
    (groups_13 a.m.now a.grouping.now (length a.out.now) (grouped at.Else-not-grouping_right)
    (sym (tested at.After-states_alike (totalled at.After-totals_of-totals) (counted at.After-group_count-count)
    (grouped at.Else-not-grouping_right)) ∙ c.if-not-states_alike.true))
    refl refl

pub model_of_groups-merged-requires : goal.model_of_groups-merged-requires
model_of_groups-merged-requires c =
    let at = goal.at.model_of_groups-merged-requires c in
    let a = c.args in
    let states = right.states_few a.m.now c.requires.0 in
    let long = as_long a.m.now.n a.grouping.now (grouped at.Else-not-grouping_right) in
    let groups = few a.m.now a.grouping.now c.requires.0 (grouped at.Else-not-grouping_right) in
    let count = counted at.After-group_count-count in (
      omega arith,
      omega arith,
      subst (λ (k : ℕ). every_below k (is_used a.grouping.now) ≡ true) (sym count)
          (all_used a.m.now.n a.grouping.now (grouped at.Else-not-grouping_right)),
    )

-- what the writer is given
built : (c : After-model_of_groups-merged) →
    let a = c.args in
    c.totals_of-totals.result ≡ totals_of (filled_rows a.m.now) a.grouping.now a.m.now.n →
    c.group_count-count.result ≡ group_count a.grouping.now →
    grouping_right a.m.now.n a.grouping.now ≡ true →
    c.model_of_groups-merged.result ≡ merged_model a.m.now a.grouping.now
built c total count right =
    let a = c.args in
    c.model_of_groups-merged.ensures ∙
    ap₂
    (λ (totals : List (List ℕ)) (count : ℕ).
    model_of count a.m.now.a a.m.now.d a.m.now.version (masks_of_groups a.m.now.masks a.grouping.now count)
    (rows_of_groups totals a.grouping.now count))
    total count ∙
    model_built a.m.now a.grouping.now c.requires.0 right

pub returns : goal.returns
unfolding record_number
returns c =
    let at = goal.at.returns c in
    let a = c.args in
    let room = length a.out.now in
    let merged = merged_model a.m.now a.grouping.now in
    let last = c.write_model.new.out in
    let r = c.write_model.result in
    let alike = sym (tested at.After-states_alike (totalled at.After-totals_of-totals) (counted at.After-group_count-count)
    (grouped at.Else-not-grouping_right)) ∙ c.if-not-states_alike.false in
    rows_changed (record_rows_ascend merged room) (group_rows_ascend a.m.now a.grouping.now room)
    (groups_14 a.m.now a.grouping.now room c.requires.0 c.requires.1 (grouped at.Else-not-grouping_right) alike)
    (subst (λ (m : Model). Writes (record_rows m room) (file_of m) a.out.now last r)
    (built at.After-model_of_groups-merged (totalled at.After-totals_of-totals) (counted at.After-group_count-count)
    (grouped at.Else-not-grouping_right)) c.write_model.ensures)
