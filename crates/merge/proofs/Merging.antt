-- The merged model is right: it describes a merged chain of the model's chain, its fields are as the layout asks, and its
-- rows add up to D.
use Prim.Native.Nat.{ℕ, ◌≤◌, ◌<◌, ◌^◌}
use mathlib.Core.Bool.{Bool, true, false, cond, ◌&&◌, ◌||◌}
use mathlib.Core.List.{List, []}
use mathlib.Core.Path.{◌≡◌, refl, sym, ap, ap₂, ◌∙◌}
use native.Mathlib.Decide.{dec_lt}
use native.Mathlib.Omega.{arith}
use borrow.Author.Tests.{lt-ltb, le-ltb, le-leb, lt-leb, eq-eqb}
use lib.Dec.{ltb, leb, eqb}
use lib.ListN.{get_or}
use Rattle.counting.specs.Below.{sum_below, every_below, table}
use Rattle.counting.proofs.Laws.{table_at, every_all, and_true, not_second}
use Rattle.model.specs.declared.Model.{Model}
use Rattle.model.specs.Layout.{mask_of, weight_of}
use Rattle.model.specs.Rules.{numbers_right, mask_right, weight_right, fields_right, adds_up, halted, rows_right}
use Rattle.meaning.specs.Chain.{Chain, Sound}
use Rattle.meaning.specs.Merging.{weight_into, Merged}
use Rattle.meaning.proofs.Merging.{sound_merged}
use Rattle.chain.specs.Of.{bit, filled_weight, chain_of}
use Rattle.meaning.proofs.Sums.{total_sum}
use Rattle.chain.proofs.Totals.{sum_first}
use Rattle.chain.proofs.Filling.{filled_other, weighed_goes, past_goes}
use Rattle.model.proofs.Rightness as right
use Rattle.chain.proofs.Right as chain
use Rattle.groups.specs.Groups.{group_of, group_count, member_of, grouping_right, groups_alike, merged_model}
use Rattle.groups.proofs.Grouped.{grouping_is, count_few, member_of_group}
use Rattle.groups.proofs.Stability.{alike_is}

-- ---- the merged model, number by number

module _ (m : Model) (grouping : List ℕ) where
  abbrev into : ℕ → ℕ → ℕ
  into g h = weight_into (chain_of m) (group_of grouping) (member_of m.n grouping g) h

  pub mask_merged : (g : ℕ) → g < 32 →
      mask_of (merged_model m grouping) g ≡ cond (ltb g (group_count grouping)) (mask_of m (member_of m.n grouping g)) 0
  unfolding merged_model
  mask_merged g l = table_at 32 (λ g. cond (ltb g (group_count grouping)) (mask_of m (member_of m.n grouping g)) 0) 0 g l

  pub weight_merged : (g h : ℕ) → g < 32 → h < 32 →
      weight_of (merged_model m grouping) g h ≡ cond (ltb g (group_count grouping) && ltb h (group_count grouping)) (into g h) 0
  unfolding merged_model
  weight_merged g h l k =
      ap (λ (row : List ℕ). get_or row h 0)
      (table_at 32
      (λ g. table 32 (λ h. cond (ltb g (group_count grouping) && ltb h (group_count grouping)) (into g h) 0)) [] g l) ∙
      table_at 32 (λ h. cond (ltb g (group_count grouping) && ltb h (group_count grouping)) (into g h) 0) 0 h k

  -- of a group and from M on
  pub mask_in : (g : ℕ) → g < 32 → g < group_count grouping →
      mask_of (merged_model m grouping) g ≡ mask_of m (member_of m.n grouping g)
  mask_in g l k =
      mask_merged g l ∙
      ap (λ (b : Bool). cond b (mask_of m (member_of m.n grouping g)) 0) (lt-ltb g (group_count grouping) k)

  mask_out : (g : ℕ) → g < 32 → group_count grouping ≤ g → mask_of (merged_model m grouping) g ≡ 0
  mask_out g l k =
      mask_merged g l ∙
      ap (λ (b : Bool). cond b (mask_of m (member_of m.n grouping g)) 0) (le-ltb g (group_count grouping) k)

  pub weight_in : (g h : ℕ) → g < 32 → h < 32 → g < group_count grouping → h < group_count grouping →
      weight_of (merged_model m grouping) g h ≡ into g h
  weight_in g h l k p q =
      weight_merged g h l k ∙
      ap (λ (b : Bool). cond b (into g h) 0) (and_true (lt-ltb g (group_count grouping) p) (lt-ltb h (group_count grouping) q))

  weight_out : (g h : ℕ) → g < 32 → h < 32 → (ltb g (group_count grouping) && ltb h (group_count grouping)) ≡ false →
      weight_of (merged_model m grouping) g h ≡ 0
  weight_out g h l k e = weight_merged g h l k ∙ ap (λ (b : Bool). cond b (into g h) 0) e

-- a test that is not met leaves the second of an 'or', and a number that is 0 is 0
or_zero : (b : Bool) (x : ℕ) → (b ≡ false → x ≡ 0) → (b || eqb x 0) ≡ true
or_zero true x h = refl
or_zero false x h = eq-eqb x 0 (h refl)

module _ (m : Model) (grouping : List ℕ) (fields : fields_right m ≡ true) (grouped : grouping_right m.n grouping ≡ true) where
  pub few : group_count grouping ≤ 32
  few =
      let a = count_few (chain_of m) grouping grouped in
      let b = right.states_few m fields in
      omega arith

  pub some : 1 ≤ group_count grouping
  some =
      let a = right.states_some m fields in
      let b = (grouping_is (chain_of m) grouping grouped).inside 0 (omega arith) in
      omega arith

  -- ---- it is a merged chain

  module _ (alike : groups_alike m grouping ≡ true) where
    -- the chain of the merged model's rows as they stand
    abbrev standing : Chain
    standing =
        record {
          N = group_count grouping;
          D = m.d;
          weight = weight_of (merged_model m grouping);
          label = λ l g. bit l (mask_of (merged_model m grouping) g);
        }

    -- it is a merged chain of the model's chain
    merged_standing : Merged (chain_of m) (group_of grouping) standing
    merged_standing =
        let group = group_of grouping in
        let is = grouping_is (chain_of m) grouping grouped in
        let a = alike_is m grouping alike in
        let small = few in
        record {
          grouping = is;
          same_d = refl;
          labels = λ s l b.
              let in_group = is.inside s l in
              let first = member_of_group (chain_of m) grouping grouped (group s) in_group in
              ap (bit b)
              (mask_in m grouping (group s) (omega arith) in_group ∙
              a.masks (member_of m.n grouping (group s)) s first.0 l first.1);
          weights = λ s l h k.
              let in_group = is.inside s l in
              let first = member_of_group (chain_of m) grouping grouped (group s) in_group in
              weight_in m grouping (group s) h (omega arith) (omega arith) in_group k ∙
              a.weights (member_of m.n grouping (group s)) s first.0 l first.1 h k;
        }

    module _ (adds : rows_right m ≡ true) where
      -- its rows add up to D, over all 32 columns,
      columns : (g : ℕ) → g < group_count grouping → sum_below 32 (weight_of (merged_model m grouping) g) ≡ m.d
      unfolding Sound
      columns g k =
          let small = few in
          sum_first (group_count grouping) 32 (weight_of (merged_model m grouping) g) few
          (λ h past low.
          weight_out m grouping g h (omega arith) low
          (not_second (ltb g (group_count grouping)) (le-ltb h (group_count grouping) past))) ∙
          sym (total_sum (group_count grouping) (weight_of (merged_model m grouping) g)) ∙
          sound_merged (chain_of m) (group_of grouping) standing merged_standing (chain.sound_right m fields adds) g k

      -- so that none of its states is halted,
      pub goes : (g : ℕ) → halted (merged_model m grouping) g ≡ false
      unfolding merged_model
      goes g = by (dec_lt g (group_count grouping))
        where
          by : Dec (g < group_count grouping) → halted (merged_model m grouping) g ≡ false
          by (yes k) =
              let whole = columns g k in
              let low = right.total_some m fields in
              weighed_goes (merged_model m grouping) g (omega (arith, whole, low))
          by (no past) = past_goes (merged_model m grouping) g (omega arith)

      -- and filling changes nothing:
      stays : (g h : ℕ) → filled_weight (merged_model m grouping) g h ≡ weight_of (merged_model m grouping) g h
      stays g h = filled_other (merged_model m grouping) g h (goes g)

      -- the model of the groups describes a merged chain of the model's chain
      pub merged_chain : Merged (chain_of m) (group_of grouping) (chain_of (merged_model m grouping))
      unfolding merged_model
      merged_chain =
          let is = merged_standing in
          record {
            grouping = is.grouping;
            same_d = refl;
            labels = is.labels;
            weights = λ s l h k. stays (group_of grouping s) h ∙ is.weights s l h k;
          }

      -- and its rows are right
      pub rows_merged : rows_right (merged_model m grouping) ≡ true
      unfolding rows_right merged_model
      rows_merged =
          every_all 32
          (λ s. leb (group_count grouping) s || adds_up (merged_model m grouping) s || halted (merged_model m grouping) s)
          (λ s l. row s (dec_lt s (group_count grouping)))
        where
          row : (s : ℕ) → Dec (s < group_count grouping) →
              (leb (group_count grouping) s || adds_up (merged_model m grouping) s || halted (merged_model m grouping) s) ≡ true
          row s (no past) =
              ap (λ (b : Bool). b || adds_up (merged_model m grouping) s || halted (merged_model m grouping) s)
              (le-leb (group_count grouping) s (omega arith))
          row s (yes k) =
              ap₂ (λ (a b : Bool). a || b || halted (merged_model m grouping) s) (lt-leb (group_count grouping) s k)
              (eq-eqb (sum_below 32 (weight_of (merged_model m grouping) s)) m.d (columns s k))

  -- ---- its fields are as the layout asks

  -- M is 1..32, and A, D and the version are the model's
  numbers_merged : numbers_right (merged_model m grouping) ≡ true
  unfolding merged_model
  numbers_merged =
      and_true
      (and_true
      (and_true (and_true (le-leb 1 (group_count grouping) some) (le-leb (group_count grouping) 32 few))
      (and_true (le-leb 1 m.a (right.labels_some m fields)) (le-leb m.a 16 (right.labels_few m fields))))
      (and_true (le-leb 1 m.d (right.total_some m fields)) (le-leb m.d 65535 (right.total_few m fields))))
      (le-leb m.version 1 (right.version_few m fields))

  -- a group's mask is a state's
  masks_merged : (g : ℕ) → g < 32 → mask_right (merged_model m grouping) g ≡ true
  unfolding merged_model
  masks_merged g l = go (dec_lt g (group_count grouping))
    where
      go : Dec (g < group_count grouping) → mask_right (merged_model m grouping) g ≡ true
      go (yes k) =
          let first = member_of_group (chain_of m) grouping grouped g k in
          let states = right.states_few m fields in
          ap₂ (λ (b : Bool) (x : ℕ). b && ltb x (2 ^ m.a) || eqb x 0)
          (lt-ltb g (group_count grouping) k ∙ sym (lt-ltb (member_of m.n grouping g) m.n first.0))
          (mask_in m grouping g l k) ∙
          right.mask_at_right m fields (member_of m.n grouping g) (omega arith)
      go (no past) =
          or_zero (ltb g (group_count grouping) && ltb (mask_of (merged_model m grouping) g) (2 ^ m.a))
          (mask_of (merged_model m grouping) g) (λ e. mask_out m grouping g l (omega arith))

  -- columns and rows from M on are zero
  weights_merged : (g h : ℕ) → g < 32 → h < 32 → weight_right (merged_model m grouping) g h ≡ true
  unfolding merged_model
  weights_merged g h l k =
      or_zero (ltb g (group_count grouping) && ltb h (group_count grouping)) (weight_of (merged_model m grouping) g h)
      (weight_out m grouping g h l k)

  pub fields_merged : fields_right (merged_model m grouping) ≡ true
  unfolding fields_right
  fields_merged =
      and_true (and_true numbers_merged (every_all 32 (mask_right (merged_model m grouping)) masks_merged))
      (every_all 32 (λ g. every_below 32 (weight_right (merged_model m grouping) g))
      (λ g l. every_all 32 (weight_right (merged_model m grouping) g) (λ h k. weights_merged g h l k)))
