-- Row 13's test and document 00's words agree (`settled`): a grouping is stable, or two states of one group differ in labels or in
-- their weight into some group; and not both (`stable_differ`).
use Prim.Native.Nat.{ℕ, zero, suc, ◌<◌}
use mathlib.Core.Bool.{Bool, true, false, not, ◌&&◌, ◌||◌, true≢false}
use mathlib.Core.List.{List}
use mathlib.Core.Logic.{◌⊎◌, inl, inr}
use mathlib.Core.Path.{◌≡◌, refl, sym, subst, ◌∙◌}
use native.Mathlib.Omega.{arith}
use borrow.Author.Tests.{eqb-true, eqb-false}
use lib.Dec.{eqb}
use Rattle.counting.specs.Below.{every_below}
use Rattle.model.specs.declared.Model.{Model}
use Rattle.model.specs.Layout.{mask_of}
use Rattle.model.specs.Rules.{fields_right}
use Rattle.model.proofs.Rightness.{states_few}
use Rattle.meaning.specs.Chain.{Chain}
use Rattle.meaning.specs.Merging.{weight_into, Stable}
use Rattle.chain.specs.Of.{chain_of}
use Rattle.chain.proofs.Bits.{bits_same}
use Rattle.groups.specs.Groups.{group_of, group_count, alike, groups_alike}
use Rattle.merge.proofs.Shape.{mask_two}
use Rattle.groups.proofs.Stability.{stable}
use Rattle.demands.specs.Demands.{Differ, in_labels, in_weight}

-- the part of a conjunction that fails, where the other is met
first_fails : (a b : Bool) → (a && b) ≡ false → b ≡ true → a ≡ false
first_fails true b e p = sym p ∙ e
first_fails false b e p = refl

second_fails : (a b : Bool) → (a && b) ≡ false → a ≡ true → b ≡ false
second_fails true b e p = e
second_fails false b e p = absurd (true≢false (sym p))

-- 'if a then b' fails where a is met and b fails
unless_left : (a b : Bool) → (not a || b) ≡ false → a ≡ true
unless_left true b e = refl
unless_left false b e = absurd (true≢false e)

unless_right : (a b : Bool) → (not a || b) ≡ false → b ≡ false
unless_right true b e = e
unless_right false b e = absurd (true≢false e)

-- a number below n that fails the test, where not every number meets it
some_fails : (n : ℕ) (test : ℕ → Bool) → every_below n test ≡ false → (k : ℕ) × (k < n) × (test k ≡ false)
unfolding every_below
some_fails zero test e = absurd (true≢false e)
some_fails (suc n) test e = by (some_fails n test) (test n) refl
  where
    by : (every_below n test ≡ false → (k : ℕ) × (k < n) × (test k ≡ false)) → (b : Bool) → test n ≡ b →
        (k : ℕ) × (k < suc n) × (test k ≡ false)
    by before false p = (n, omega arith, p)
    by before true p =
        let r = before (first_fails (every_below n test) (test n) e p) in
        let less = r.1 in
        (r.0, omega arith, r.2)

-- a grouping that fails the test has two states of one group that differ
differ_so : (m : Model) (grouping : List ℕ) → fields_right m ≡ true → groups_alike m grouping ≡ false →
    Differ (chain_of m) (group_of grouping) (group_count grouping)
unfolding groups_alike
differ_so m grouping fields e = by (eqb (mask_of m s) (mask_of m t)) refl
  where
    few : m.n < 33
    few = let h = states_few m fields in omega arith

    first : (k : ℕ) × (k < m.n) ×
        (every_below m.n (λ t. not (eqb (group_of grouping k) (group_of grouping t)) || alike m grouping k t) ≡ false)
    first = some_fails m.n (λ s. every_below m.n (λ t. not (eqb (group_of grouping s) (group_of grouping t)) || alike m grouping s t)) e

    s : ℕ
    s = first.0

    second : (k : ℕ) × (k < m.n) × ((not (eqb (group_of grouping s) (group_of grouping k)) || alike m grouping s k) ≡ false)
    second = some_fails m.n (λ t. not (eqb (group_of grouping s) (group_of grouping t)) || alike m grouping s t) first.2

    t : ℕ
    t = second.0

    together : group_of grouping s ≡ group_of grouping t
    together = eqb-true _ _ (unless_left (eqb (group_of grouping s) (group_of grouping t)) (alike m grouping s t) second.2)

    by : (b : Bool) → eqb (mask_of m s) (mask_of m t) ≡ b → Differ (chain_of m) (group_of grouping) (group_count grouping)
    by false p =
        in_labels s t first.1 second.1 together
        (λ same.
        eqb-false _ _ p
        (bits_same 16 (mask_of m s) (mask_of m t) (mask_two m fields s (omega (arith, few, first.1)))
        (mask_two m fields t (omega (arith, few, second.1))) same))
    by true p =
        let test : ℕ → Bool = λ h. eqb (weight_into (chain_of m) (group_of grouping) s h)
        (weight_into (chain_of m) (group_of grouping) t h) in
        let third = some_fails (group_count grouping) test
        (second_fails (eqb (mask_of m s) (mask_of m t)) (every_below (group_count grouping) test)
        (unless_right (eqb (group_of grouping s) (group_of grouping t)) (alike m grouping s t) second.2) p) in
        in_weight s t first.1 second.1 together third.0 third.1 (eqb-false _ _ third.2)

-- no two states of one group of a stable grouping differ
pub stable_differ : {c : Chain} {group : ℕ → ℕ} {M : ℕ} → Stable c group M → Differ c group M → ⊥
stable_differ st (in_labels s t l k e d) = d (st.labels s t l k e)
stable_differ st (in_weight s t l k e h less d) = d (st.weights s t l k e h less)

-- one of the two
pub settled : (m : Model) (grouping : List ℕ) → fields_right m ≡ true → (M : ℕ) → group_count grouping ≡ M →
    Stable (chain_of m) (group_of grouping) M ⊎ Differ (chain_of m) (group_of grouping) M
settled m grouping fields M count = by (groups_alike m grouping) refl
  where
    by : (b : Bool) → groups_alike m grouping ≡ b → Stable (chain_of m) (group_of grouping) M ⊎ Differ (chain_of m) (group_of grouping) M
    by true p = inl (subst (λ (k : ℕ). Stable (chain_of m) (group_of grouping) k) count (stable m grouping p))
    by false p = inr (subst (λ (k : ℕ). Differ (chain_of m) (group_of grouping) k) count (differ_so m grouping fields p))
