-- What the code builds is what the definitions say: the totals of the states into the groups, the test of the groups, and
-- the merged model.
use Prim.Native.Nat.{ℕ, ◌≤◌, ◌<◌}
use mathlib.Core.Bool.{Bool, true, cond, ◌&&◌}
use mathlib.Core.List.{List, []}
use mathlib.Core.Path.{◌≡◌, sym, ap, ap₂, ◌∙◌}
use native.Mathlib.Decide.{dec_lt}
use native.Mathlib.Nat.{le_trans, le_of_eq}
use native.Mathlib.Omega.{arith}
use borrow.Author.Tests.{lt-ltb, le-ltb, ne_eqb}
use lib.Dec.{ltb, eqb}
use lib.ListN.{length, get_or}
use Rattle.counting.specs.Below.{sum_below, every_below, table}
use Rattle.counting.specs.Entries.{cell}
use Rattle.counting.proofs.Laws.{table_at, table_is, table_same, length_table, every_same, sum_zero, sum_same}
use Rattle.model.specs.declared.Model.{Model}
use Rattle.model.specs.Layout.{mask_of, model_of}
use Rattle.model.specs.Rules.{fields_right, rows_right}
use Rattle.meaning.specs.Merging.{weight_into}
use Rattle.chain.specs.Of.{filled_weight, chain_of, filled_rows}
use Rattle.meaning.proofs.Sums.{total_sum}
use Rattle.chain.proofs.Totals.{sum_first}
use Rattle.chain.proofs.Filling.{filled_cell}
use Rattle.model.proofs.Rightness as right
use Rattle.chain.proofs.Right as chain
use Rattle.groups.specs.Groups.{group_of, group_count, grouping_right, member_of, groups_alike, merged_model}
use Rattle.groups.specs.Working.{pair_alike, masks_of_groups, rows_of_groups}
use Rattle.groups.proofs.Grouped.{as_long, grouping_is, member_of_group}
use Rattle.merge.proofs.Merging.{few}
use Rattle.groups.proofs.Stability.{first_alike}

-- the totals of the states into the groups, over the states below n
abbrev pub totals_of : List (List ℕ) → List ℕ → ℕ → List (List ℕ)
totals_of rows grouping n =
    table 32 (λ s. table 32 (λ h. sum_below n (λ t. cond (eqb (group_of grouping t) h) (get_or (get_or rows s []) t 0) 0)))

-- a model's row after filling is no more than 65,535
module _ (m : Model) (fields : fields_right m ≡ true) (adds : rows_right m ≡ true) where
  pub row_small : (s : ℕ) → s < 32 → sum_below m.n (cell (filled_rows m) s) ≤ 65535
  row_small s l = go (dec_lt s m.n)
    where
      states : m.n ≤ 32
      states = right.states_few m fields

      filled : sum_below m.n (cell (filled_rows m) s) ≡ sum_below m.n (filled_weight m s)
      filled = sum_same m.n (λ t k. filled_cell m s t l (omega (arith, states)))

      go : Dec (s < m.n) → sum_below m.n (cell (filled_rows m) s) ≤ 65535
      go (yes k) =
          le_trans
          (le_of_eq
          (filled ∙
          sym
          (sum_first m.n 32 (filled_weight m s) (right.states_few m fields)
          (λ t past k. chain.column_zero m fields s t l k past)) ∙
          chain.row_at m fields adds s k))
          (right.total_few m fields)
      go (no past) =
          let none = sum_zero m.n {f = filled_weight m s} (λ t k. chain.row_zero m fields s t l (omega (arith, states)) (omega arith)) in
          omega (arith, filled, none)

module _ (m : Model) (grouping : List ℕ) (fields : fields_right m ≡ true) where
  abbrev sum_into : ℕ → ℕ → ℕ
  sum_into s h = sum_below m.n (λ t. cond (eqb (group_of grouping t) h) (cell (filled_rows m) s t) 0)

  -- a total of the code is a weight into a group
  total_is : (s h : ℕ) → s < 32 → h < 32 →
      get_or (get_or (totals_of (filled_rows m) grouping m.n) s []) h 0 ≡ weight_into (chain_of m) (group_of grouping) s h
  unfolding weight_into
  total_is s h l k =
      ap (λ (row : List ℕ). get_or row h 0)
      (table_at 32 (λ s. table 32 (sum_into s)) [] s l) ∙
      table_at 32 (sum_into s) 0 h k ∙
      sum_same m.n
      (λ t small.
      let states = right.states_few m fields in
      ap (λ (x : ℕ). cond (eqb (group_of grouping t) h) x 0) (filled_cell m s t l (omega (arith, states, small)))) ∙
      sym (total_sum m.n (λ t. cond (eqb (group_of grouping t) h) (filled_weight m s t) 0))

  module _ (grouped : grouping_right m.n grouping ≡ true) where
    -- the code's test of the groups is row 13's
    pub alike_built :
        every_below m.n
        (λ s.
        pair_alike m.masks (totals_of (filled_rows m) grouping m.n) (group_count grouping) s
        (member_of m.n grouping (group_of grouping s))) ≡
        groups_alike m grouping
    alike_built =
        every_same m.n
        (λ s l.
        let states = right.states_few m fields in
        let first = member_of m.n grouping (group_of grouping s) in
        let small = (member_of_group (chain_of m) grouping grouped (group_of grouping s)
        ((grouping_is (chain_of m) grouping grouped).inside s l)).0 in
        ap (λ (b : Bool). eqb (mask_of m s) (mask_of m first) && b)
        (every_same (group_count grouping)
        (λ h w.
        let groups = few m grouping fields grouped in
        ap₂ eqb (total_is s h (omega arith) (omega arith)) (total_is first h (omega arith) (omega arith))))) ∙
        first_alike m grouping grouped

    -- into a number that is no group's nothing leads
    into_none : (s h : ℕ) → group_count grouping ≤ h → weight_into (chain_of m) (group_of grouping) s h ≡ 0
    unfolding weight_into
    into_none s h past =
        total_sum m.n (λ t. cond (eqb (group_of grouping t) h) (filled_weight m s t) 0) ∙
        sum_zero m.n
        (λ t l.
        let small = (grouping_is (chain_of m) grouping grouped).inside t l in
        ap (λ (b : Bool). cond b (filled_weight m s t) 0) (ne_eqb (group_of grouping t) h (λ e. omega arith)))

    -- the row of a group, number by number
    row_built : (g : ℕ) → g < 32 →
        cond (ltb g (group_count grouping))
        (get_or (totals_of (filled_rows m) grouping m.n) (member_of m.n grouping g) []) (table 32 (λ h. 0)) ≡
        table 32
        (λ h.
        cond (ltb g (group_count grouping) && ltb h (group_count grouping))
        (weight_into (chain_of m) (group_of grouping) (member_of m.n grouping g) h) 0)
    row_built g l = go (dec_lt g (group_count grouping))
      where
        M : ℕ
        M = group_count grouping

        first : ℕ
        first = member_of m.n grouping g

        own : List ℕ
        own = get_or (totals_of (filled_rows m) grouping m.n) (member_of m.n grouping g) []

        into : ℕ → ℕ
        into h = weight_into (chain_of m) (group_of grouping) (member_of m.n grouping g) h

        column : (h : ℕ) → Dec (h < M) → into h ≡ cond (true && ltb h M) (into h) 0
        column h (yes k) = ap (λ (b : Bool). cond b (into h) 0) (sym (lt-ltb h M k))
        column h (no past) =
            let none = into_none (member_of m.n grouping g) h (omega arith) in
            none ∙ ap (λ (b : Bool). cond b (into h) 0) (sym (le-ltb h M (omega arith)))

        go : Dec (g < M) → cond (ltb g M) own (table 32 (λ h. 0)) ≡ table 32 (λ h. cond (ltb g M && ltb h M) (into h) 0)
        go (yes k) =
            let states = right.states_few m fields in
            let below-32 = (member_of_group (chain_of m) grouping grouped g k).0 in
            ap (λ (b : Bool). cond b own (table 32 (λ h. 0))) (lt-ltb g M k) ∙
            table_is 32 into 0 own
            (ap length (table_at 32 (λ s. table 32 (sum_into s)) [] first (omega arith)) ∙ length_table 32 _)
            (λ h small. total_is first h (omega arith) small) ∙
            table_same 32 into (λ h. cond (ltb g M && ltb h M) (into h) 0) 0
            (λ h small. column h (dec_lt h M) ∙ ap (λ (b : Bool). cond (b && ltb h M) (into h) 0) (sym (lt-ltb g M k)))
        go (no past) =
            ap (λ (b : Bool). cond b own (table 32 (λ h. 0))) (le-ltb g M (omega arith)) ∙
            table_same 32 (λ h. 0) (λ h. cond (ltb g M && ltb h M) (into h) 0) 0
            (λ h small. ap (λ (b : Bool). cond (b && ltb h M) (into h) 0) (sym (le-ltb g M (omega arith))))

    -- the model that the code builds is the merged model
    pub model_built :
        model_of (group_count grouping) m.a m.d m.version (masks_of_groups m.masks grouping (group_count grouping))
        (rows_of_groups (totals_of (filled_rows m) grouping m.n) grouping (group_count grouping)) ≡
        merged_model m grouping
    unfolding merged_model
    model_built =
        let M = group_count grouping in
        let totals = totals_of (filled_rows m) grouping m.n in
        let long = as_long m.n grouping grouped in
        let masks = ap (λ (n : ℕ). table 32 (λ g. cond (ltb g M) (get_or m.masks (member_of n grouping g) 0) 0)) long in
        let rows =
        ap (λ (n : ℕ). table 32 (λ g. cond (ltb g M) (get_or totals (member_of n grouping g) []) (table 32 (λ h. 0)))) long ∙
        table_same 32 _
        (λ g.
        table 32
        (λ h. cond (ltb g M && ltb h M) (weight_into (chain_of m) (group_of grouping) (member_of m.n grouping g) h) 0))
        [] row_built in
        λ i. record { n = M; a = m.a; d = m.d; version = m.version; masks = masks i; weights = rows i }
