-- The grouping 0, 1, 2, .., each state by itself: it is never refused, and gives the filled file back, which is the same file where no
-- state is halted.
use Prim.Native.Nat.{ℕ, ◌≤◌, ◌<◌, ◌^◌}
use mathlib.Core.Bool.{Bool, true, false, cond, not, ◌&&◌, ◌||◌}
use mathlib.Core.List.{List, []}
use mathlib.Core.Path.{◌≡◌, refl, sym, ap, ap₂, ◌∙◌}
use native.Mathlib.Decide.{dec_lt, ℕ_discrete}
use native.Mathlib.Nat.{le_trans, le_of_eq}
use native.Mathlib.Omega.{arith}
use borrow.Author.Tests.{ltb-true, lt-ltb, le-ltb, eqb-true, eq-eqb, ne_eqb}
use lib.Dec.{ltb, eqb}
use lib.ListN.{length, get_or}
use Rattle.counting.proofs.Laws.{table_at, table_is, table_same, length_table, left_of, right_of}
use Rattle.refusal.proofs.Laws.{first_later, first_none}
use Rattle.model.specs.declared.Model.{Model}
use Rattle.model.specs.Layout.{mask_of, fields_of, blocks, file_of}
use Rattle.model.specs.Rules.{fields_right, halted}
use Rattle.model.specs.Contract.{file_number}
use Rattle.model.proofs.Rightness.{mask_at_right}
use Rattle.model.proofs.Theorems.{write_of_read}
use Rattle.model.proofs.Written.{length_blocks}
use Rattle.meaning.specs.Lists.{below}
use Rattle.meaning.specs.Merging.{weight_into, Grouping}
use Rattle.meaning.proofs.Merging.{pick}
use Rattle.meaning.proofs.Sums.{total_same}
use Rattle.meaning.proofs.Tests.{below_member}
use Rattle.chain.specs.Of.{filled_weight, chain_of, filled_model, filled_file}
use Rattle.chain.proofs.Accepted.{fields_are_right}
use Rattle.chain.proofs.Filling.{filled_other}
use Rattle.chain.proofs.Right.{filled_past}
use Rattle.groups.specs.Groups.{group_of, each_alone, group_count, grouping_right, groups_alike, member_of, merged_model}
use Rattle.merge.specs.Contract.{merge_number, merged_file}
use Rattle.groups.proofs.Grouped.{count_is, grouping_is_right}
use Rattle.groups.proofs.Members.{member_first}
use Rattle.merge.proofs.Numbers.{file_accepted}
use Rattle.groups.proofs.Stability.{is_alike}

-- the order of a comparison
eqb_turn : (a b : ℕ) → eqb a b ≡ eqb b a
eqb_turn a b = go (ℕ_discrete a b)
  where
    go : Dec (a ≡ b) → eqb a b ≡ eqb b a
    go (yes e) = eq-eqb a b e ∙ sym (eq-eqb b a (sym e))
    go (no d) = ne_eqb a b d ∙ sym (ne_eqb b a (λ e. d (sym e)))

module _ (m : Model) where
  group_own : (s : ℕ) → s < m.n → group_of (each_alone m.n) s ≡ s
  group_own s l = table_at m.n (λ s. s) 0 s l

  alone : Grouping (chain_of m) (group_of (each_alone m.n)) m.n
  alone =
      record {
        inside = λ s l.
            let e = group_own s l in
            omega arith;
        used = λ g l. (g, l, group_own g l);
      }

  -- there are as many groups as states
  count_own : group_count (each_alone m.n) ≡ m.n
  count_own = count_is (chain_of m) (each_alone m.n) m.n (length_table m.n (λ s. s)) alone

  -- rows 12 and 13 do not apply
  pub grouped_own : grouping_right m.n (each_alone m.n) ≡ true
  grouped_own = grouping_is_right (chain_of m) (each_alone m.n) m.n (length_table m.n (λ s. s)) alone

  one : (s t : ℕ) → s < m.n → t < m.n → group_of (each_alone m.n) s ≡ group_of (each_alone m.n) t → s ≡ t
  one s t l k e = sym (group_own s l) ∙ e ∙ group_own t k

  pub alike_own : groups_alike m (each_alone m.n) ≡ true
  alike_own =
      is_alike m (each_alone m.n)
      (record {
        masks = λ s t l k e. ap (mask_of m) (one s t l k e);
        weights = λ s t l k e h w.
            ap (λ (x : ℕ). weight_into (chain_of m) (group_of (each_alone m.n)) x h) (one s t l k e);
      })

  -- a state is its group's only member
  member_own : (g : ℕ) → g < m.n → member_of m.n (each_alone m.n) g ≡ g
  member_own g l =
      member_first (group_of (each_alone m.n)) g
      (record {
        within = omega arith;
        before = λ k less e.
            let p = group_own k (omega arith) in
            omega arith;
        found = λ less. group_own g l;
      })
      l

  -- the weight into its group is the weight to it
  into_own : (s h : ℕ) → h < m.n → weight_into (chain_of m) (group_of (each_alone m.n)) s h ≡ filled_weight m s h
  unfolding weight_into
  into_own s h l =
      total_same _ (λ t. cond (eqb h t) (filled_weight m s t) 0) (below m.n)
      (λ t w.
      ap (λ (b : Bool). cond b (filled_weight m s t) 0)
      (ap (λ (x : ℕ). eqb x h) (group_own t (below_member m.n w)) ∙ eqb_turn t h)) ∙
      pick (filled_weight m s) h m.n l

  module _ (fields : fields_right m ≡ true) where
    -- its mask, and 0 from N on
    mask_own : (g : ℕ) → g < 32 → Dec (g < m.n) →
        mask_of m g ≡ cond (ltb g (group_count (each_alone m.n))) (mask_of m (member_of m.n (each_alone m.n) g)) 0
    mask_own g l (yes k) =
        sym
        (ap₂ (λ (b : Bool) (s : ℕ). cond b (mask_of m s) 0)
        (ap (ltb g) count_own ∙ lt-ltb g m.n k) (member_own g k))
    mask_own g l (no past) =
        let out = le-ltb g m.n (omega arith) in
        eqb-true (mask_of m g) 0
        (ap (λ (b : Bool). b && ltb (mask_of m g) (2 ^ m.a) || eqb (mask_of m g) 0) (sym out) ∙ mask_at_right m fields g l) ∙
        sym (ap (λ (b : Bool). cond b (mask_of m (member_of m.n (each_alone m.n) g)) 0) (ap (ltb g) count_own ∙ out))

    -- its weights, and 0 from N on
    weight_own : (g h : ℕ) → g < 32 → h < 32 → (b : Bool) → (ltb g m.n && ltb h m.n) ≡ b →
        filled_weight m g h ≡
        cond (ltb g (group_count (each_alone m.n)) && ltb h (group_count (each_alone m.n)))
        (weight_into (chain_of m) (group_of (each_alone m.n)) (member_of m.n (each_alone m.n) g) h) 0
    weight_own g h l k b e =
        let into = weight_into (chain_of m) (group_of (each_alone m.n)) (member_of m.n (each_alone m.n) g) h in
        go b e ∙ sym (ap (λ (b : Bool). cond b into 0) (ap (λ (n : ℕ). ltb g n && ltb h n) count_own ∙ e))
      where
        go : (b : Bool) → (ltb g m.n && ltb h m.n) ≡ b →
            filled_weight m g h ≡ cond b (weight_into (chain_of m) (group_of (each_alone m.n)) (member_of m.n (each_alone m.n) g) h) 0
        go false e = filled_past m fields g h l k e
        go true e =
            let p = ltb-true g m.n (left_of (ltb g m.n) (ltb h m.n) e) in
            let q = ltb-true h m.n (right_of (ltb g m.n) (ltb h m.n) e) in
            sym
            (ap (λ (s : ℕ). weight_into (chain_of m) (group_of (each_alone m.n)) s h) (member_own g p) ∙ into_own g h q)

    -- the merged model is the filled model
    pub model_own : length m.masks ≡ 32 → merged_model m (each_alone m.n) ≡ filled_model m
    unfolding merged_model
    model_own masks-long =
        let n = count_own in
        let masks = sym (table_is 32 _ 0 m.masks masks-long (λ g l. mask_own g l (dec_lt g m.n))) in
        let rows =
        sym
        (table_same 32 _ _ []
        (λ g l. table_same 32 _ _ 0 (λ h k. weight_own g h l k (ltb g m.n && ltb h m.n) refl))) in
        λ i. record { n = n i; a = m.a; d = m.d; version = m.version; masks = masks i; weights = rows i }

-- where no state is halted, filling changes nothing
filled_none : (m : Model) → length m.weights ≡ 32 → ((s : ℕ) → s < 32 → length (get_or m.weights s []) ≡ 32) →
    ((s : ℕ) → halted m s ≡ false) → filled_model m ≡ m
filled_none m rows_long row-long none =
    let rows =
    table_is 32 _ [] m.weights rows_long
    (λ s l. table_is 32 _ 0 (get_or m.weights s []) (row-long s l) (λ t k. sym (filled_other m s t (none s)))) in
    λ i. record { n = m.n; a = m.a; d = m.d; version = m.version; masks = m.masks; weights = sym rows i }

-- the file of a model with its rows filled is as long as the model's file
filled_long : (m : Model) → length (file_of (filled_model m)) ≡ length (file_of m)
filled_long m = length_blocks (filled_model m) (blocks m.n) ∙ sym (length_blocks m (blocks m.n))

-- where no state is halted, the filled file of an accepted file is the file itself
pub unfilled : (file : List ℕ) → file_number file ≡ 0 → ((s : ℕ) → halted (fields_of file) s ≡ false) → filled_file file ≡ file
unfolding fields_of
unfilled file accepted none =
    ap file_of
    (filled_none (fields_of file) (length_table 32 _) (λ s l. ap length (table_at 32 _ [] s l) ∙ length_table 32 _) none) ∙
    write_of_read file accepted

module _ (file : List ℕ) (accepted : file_number file ≡ 0) where
  -- 0, 1, 2, .. gives the filled file back,
  pub own_file : merged_file file (each_alone (fields_of file).n) ≡ filled_file file
  unfolding fields_of
  own_file = ap file_of (model_own (fields_of file) (fields_are_right file accepted) (length_table 32 _))

  -- which is as long as the file,
  pub own_long : length (merged_file file (each_alone (fields_of file).n)) ≡ length file
  own_long = ap length own_file ∙ filled_long (fields_of file) ∙ ap length (write_of_read file accepted)

  -- and an output with room for it is not refused
  pub own_fits : (room : ℕ) → length file ≤ room → merge_number file (each_alone (fields_of file).n) room ≡ 0
  own_fits room fits =
      let m = fields_of file in
      let grouping = each_alone m.n in
      file_accepted file grouping room accepted ∙
      first_later 12 _ (ap not (grouped_own m)) ∙
      first_later 13 _ (ap not (alike_own m)) ∙
      first_later 14 _ (le-ltb room (length (merged_file file grouping)) (le_trans (le_of_eq own_long) fits)) ∙
      first_none
