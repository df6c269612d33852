-- What row 13 means: where it does not apply, two states of one group have one mask, so the same labels, and the same
-- weight into every group; and where that is so the row does not apply.
use Prim.Native.Nat.{ℕ, ◌<◌}
use mathlib.Core.Bool.{Bool, true, false, not, ◌||◌, true≢false}
use mathlib.Core.List.{List}
use mathlib.Core.Path.{◌≡◌, refl, sym, ap, ◌∙◌}
use borrow.Author.Tests.{eqb-true, eq-eqb}
use lib.Dec.{eqb}
use Rattle.counting.specs.Below.{every_below}
use Rattle.counting.proofs.Laws.{left_of, right_of, every_at, every_all, and_true, same_truth}
use Rattle.model.specs.declared.Model.{Model}
use Rattle.model.specs.Layout.{mask_of}
use Rattle.meaning.specs.Merging.{weight_into, Stable}
use Rattle.chain.specs.Of.{bit, chain_of}
use Rattle.groups.specs.Groups.{group_of, group_count, grouping_right, member_of, alike, groups_alike}
use Rattle.groups.proofs.Grouped.{grouping_is, member_of_group}

-- 'if a then b' as a test
unless : (a b : Bool) → (not a || b) ≡ true → a ≡ true → b ≡ true
unless true b e h = e
unless false b e h = absurd (true≢false (sym h))

given : (a b : Bool) → (a ≡ true → b ≡ true) → (not a || b) ≡ true
given true b h = h refl
given false b h = refl

module _ (m : Model) (grouping : List ℕ) where
  -- no two states of a group differ in mask or in weight into some group
  pub record StatesAlike : Type 0 where
    pub masks : (s t : ℕ) → s < m.n → t < m.n → group_of grouping s ≡ group_of grouping t → mask_of m s ≡ mask_of m t
    pub weights : (s t : ℕ) → s < m.n → t < m.n → group_of grouping s ≡ group_of grouping t →
        (h : ℕ) → h < group_count grouping →
        weight_into (chain_of m) (group_of grouping) s h ≡ weight_into (chain_of m) (group_of grouping) t h

  abbrev same_weight : ℕ → ℕ → ℕ → Bool
  same_weight s t h = eqb (weight_into (chain_of m) (group_of grouping) s h) (weight_into (chain_of m) (group_of grouping) t h)

  pair : groups_alike m grouping ≡ true → (s t : ℕ) → s < m.n → t < m.n → group_of grouping s ≡ group_of grouping t →
      alike m grouping s t ≡ true
  unfolding groups_alike
  pair e s t l k same =
      unless (eqb (group_of grouping s) (group_of grouping t)) (alike m grouping s t)
      (every_at m.n (λ t. not (eqb (group_of grouping s) (group_of grouping t)) || alike m grouping s t)
      (every_at m.n
      (λ s. every_below m.n (λ t. not (eqb (group_of grouping s) (group_of grouping t)) || alike m grouping s t)) e s l) t k)
      (eq-eqb (group_of grouping s) (group_of grouping t) same)

  -- two states that are alike have one mask, and the same weight into every group
  alike_mask : (s t : ℕ) → alike m grouping s t ≡ true → mask_of m s ≡ mask_of m t
  alike_mask s t e =
      eqb-true (mask_of m s) (mask_of m t)
      (left_of (eqb (mask_of m s) (mask_of m t)) (every_below (group_count grouping) (same_weight s t)) e)

  alike_weight : (s t : ℕ) → alike m grouping s t ≡ true → (h : ℕ) → h < group_count grouping →
      weight_into (chain_of m) (group_of grouping) s h ≡ weight_into (chain_of m) (group_of grouping) t h
  alike_weight s t e h w =
      eqb-true (weight_into (chain_of m) (group_of grouping) s h) (weight_into (chain_of m) (group_of grouping) t h)
      (every_at (group_count grouping) (same_weight s t)
      (right_of (eqb (mask_of m s) (mask_of m t)) (every_below (group_count grouping) (same_weight s t)) e) h w)

  -- row 13 does not apply
  pub alike_is : groups_alike m grouping ≡ true → StatesAlike
  alike_is e =
      record {
        masks = λ s t l k same. alike_mask s t (pair e s t l k same);
        weights = λ s t l k same h w. alike_weight s t (pair e s t l k same) h w;
      }

  -- and only then
  pub is_alike : StatesAlike → groups_alike m grouping ≡ true
  unfolding groups_alike
  is_alike a =
      every_all m.n _
      (λ s l.
      every_all m.n _
      (λ t k.
      given (eqb (group_of grouping s) (group_of grouping t)) (alike m grouping s t)
      (λ e.
      let same = eqb-true (group_of grouping s) (group_of grouping t) e in
      and_true (eq-eqb (mask_of m s) (mask_of m t) (a.masks s t l k same))
      (every_all (group_count grouping) (same_weight s t)
      (λ h w.
      eq-eqb (weight_into (chain_of m) (group_of grouping) s h) (weight_into (chain_of m) (group_of grouping) t h)
      (a.weights s t l k same h w))))))

  -- so the grouping is stable, as the meaning has it
  pub stable : groups_alike m grouping ≡ true → Stable (chain_of m) (group_of grouping) (group_count grouping)
  stable e =
      let a = alike_is e in
      record { labels = λ s t l k same b. ap (bit b) (a.masks s t l k same); weights = a.weights }

  -- it is enough that each state is like the first of its group
  pub first_alike : grouping_right m.n grouping ≡ true →
      every_below m.n (λ s. alike m grouping s (member_of m.n grouping (group_of grouping s))) ≡ groups_alike m grouping
  first_alike grouped = same_truth (every_below m.n like) (groups_alike m grouping)
      (λ h.
      is_alike
      (record {
        masks = λ s t l k same. mask h s l ∙ ap (λ g. mask_of m (first g)) same ∙ sym (mask h t k);
        weights = λ s t l k same j w. weight h s l j w ∙ ap (λ g. into (first g) j) same ∙ sym (weight h t k j w);
      }))
      (λ h.
      every_all m.n like
      (λ s l.
      let own = member_of_group (chain_of m) grouping grouped (group_of grouping s)
      ((grouping_is (chain_of m) grouping grouped).inside s l) in
      pair h s (first (group_of grouping s)) l own.0 (sym own.1)))
    where
      first : ℕ → ℕ
      first g = member_of m.n grouping g

      into : ℕ → ℕ → ℕ
      into s h = weight_into (chain_of m) (group_of grouping) s h

      like : ℕ → Bool
      like s = alike m grouping s (member_of m.n grouping (group_of grouping s))

      mask : every_below m.n like ≡ true → (s : ℕ) → s < m.n → mask_of m s ≡ mask_of m (first (group_of grouping s))
      mask h s l = alike_mask s (first (group_of grouping s)) (every_at m.n like h s l)

      weight : every_below m.n like ≡ true → (s : ℕ) → s < m.n → (j : ℕ) → j < group_count grouping →
          into s j ≡ into (first (group_of grouping s)) j
      weight h s l j w = alike_weight s (first (group_of grouping s)) (every_at m.n like h s l) j w
