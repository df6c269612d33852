-- Refusals 12 and 13 in document 00's words: of an accepted model, 12 exactly if the grouping does not give each state one
-- group with every group number used; and where it does, 13 exactly if two states of one group differ in labels or in
-- their weight into some group.
use Prim.Native.Nat.{ℕ}
use mathlib.Core.Bool.{Bool, true, false, not}
use mathlib.Core.List.{List, [], ◌∷◌}
use mathlib.Core.Logic.{◌↔◌}
use mathlib.Core.Path.{◌≡◌, refl, sym, ap, subst, ◌∙◌}
use native.Mathlib.Omega.{arith}
use lib.ListN.{length}
use Rattle.refusal.specs.Rows.{first}
use Rattle.refusal.proofs.Laws.{first_later}
use Rattle.model.specs.declared.Model.{Model}
use Rattle.model.specs.Layout.{mask_of, fields_of}
use Rattle.model.specs.Rules.{fields_right}
use Rattle.model.specs.Contract.{file_number}
use Rattle.model.proofs.Rightness.{states_few}
use Rattle.meaning.specs.Merging.{Grouping, Stable}
use Rattle.chain.specs.Of.{chain_of}
use Rattle.chain.proofs.Bits.{bits_same}
use Rattle.chain.proofs.Accepted.{fields_are_right}
use Rattle.groups.specs.Groups.{group_of, group_count, grouping_right, groups_alike}
use Rattle.merge.specs.Contract.{merge_number}
use Rattle.groups.proofs.Grouped.{as_long, grouping_is, grouping_is_right, count_is}
use Rattle.merge.proofs.Numbers.{file_accepted, groups_12, groups_13}
use Rattle.merge.proofs.Shape.{mask_two}
use Rattle.groups.proofs.Stability.{is_alike, stable}

-- a stable grouping passes row 13: states with the same labels have one mask
pub stable_alike : (m : Model) (grouping : List ℕ) → fields_right m ≡ true →
    Stable (chain_of m) (group_of grouping) (group_count grouping) → groups_alike m grouping ≡ true
stable_alike m grouping fields st =
    let few = states_few m fields in
    is_alike m grouping
    (record {
      masks = λ s t l k e.
          bits_same 16 (mask_of m s) (mask_of m t) (mask_two m fields s (omega arith)) (mask_two m fields t (omega arith))
          (λ b. st.labels s t l k e b);
      weights = st.weights;
    })

-- no later row has the number of an earlier one
not_12 : (a b : Bool) → first (record { number = 13; applies = a } ∷ record { number = 14; applies = b } ∷ []) ≡ 12 → ⊥
unfolding first
not_12 true b e = omega arith
not_12 false true e = omega arith
not_12 false false e = omega arith

not_13 : (b : Bool) → first (record { number = 14; applies = b } ∷ []) ≡ 13 → ⊥
unfolding first
not_13 true e = omega arith
not_13 false e = omega arith

module _ (file grouping : List ℕ) (room : ℕ) (accepted : file_number file ≡ 0) where
  -- 12 exactly if there is no M for which each state has one of the groups 0..M−1 and every group number is used
  pub refused_12 : (merge_number file grouping room ≡ 12) ↔
      ((M : ℕ) → length grouping ≡ (fields_of file).n → Grouping (chain_of (fields_of file)) (group_of grouping) M → ⊥)
  refused_12 = (
    λ e M long is.
        not_12 _ _
        (sym (first_later 12 _ (ap not (grouping_is_right (chain_of (fields_of file)) grouping M long is))) ∙
        sym (file_accepted file grouping room accepted) ∙ e),
    λ h. look h (grouping_right (fields_of file).n grouping) refl,
  )
    where
      look : ((M : ℕ) → length grouping ≡ (fields_of file).n → Grouping (chain_of (fields_of file)) (group_of grouping) M → ⊥) →
          (b : Bool) → grouping_right (fields_of file).n grouping ≡ b → merge_number file grouping room ≡ 12
      look h true p =
          absurd
          (h (group_count grouping) (as_long (fields_of file).n grouping p) (grouping_is (chain_of (fields_of file)) grouping p))
      look h false p = file_accepted file grouping room accepted ∙ groups_12 (fields_of file) grouping room p

  -- and where there is one, 13 exactly if two states of one group differ in labels or in their weight into some group
  pub refused_13 : (M : ℕ) → length grouping ≡ (fields_of file).n → Grouping (chain_of (fields_of file)) (group_of grouping) M →
      (merge_number file grouping room ≡ 13) ↔ (Stable (chain_of (fields_of file)) (group_of grouping) M → ⊥)
  refused_13 M long is = (
    λ e st.
        not_13 _
        (sym
        (first_later 12 _ (ap not grouped) ∙
        first_later 13 _
        (ap not
        (stable_alike m grouping (fields_are_right file accepted)
        (subst (λ (k : ℕ). Stable (chain_of m) (group_of grouping) k) (sym count) st)))) ∙
        sym (file_accepted file grouping room accepted) ∙ e),
    λ h. look h (groups_alike m grouping) refl,
  )
    where
      m : Model
      m = fields_of file

      count : group_count grouping ≡ M
      count = count_is (chain_of (fields_of file)) grouping M long is

      grouped : grouping_right (fields_of file).n grouping ≡ true
      grouped = grouping_is_right (chain_of (fields_of file)) grouping M long is

      look : (Stable (chain_of (fields_of file)) (group_of grouping) M → ⊥) → (b : Bool) → groups_alike (fields_of file) grouping ≡ b →
          merge_number file grouping room ≡ 13
      look h true p =
          absurd
          (h
          (subst (λ (k : ℕ). Stable (chain_of (fields_of file)) (group_of grouping) k) count
          (stable (fields_of file) grouping p)))
      look h false p =
          file_accepted file grouping room accepted ∙ groups_13 (fields_of file) grouping room grouped p
