-- The room that a node's evaluation has, of its operands' needs.
use Prim.Native.Nat.{ℕ, suc, ◌+◌, ◌-◌, ◌*◌, ◌≤◌, ◌<◌, max}
use mathlib.Core.Bool.{Bool, true, false, cond}
use mathlib.Core.Path.{◌≡◌, refl}
use native.Mathlib.Nat.{le_trans, mul-le-mul_right}
use native.Mathlib.Omega.{arith}
use borrow.Author.Tests.{eqb-true, eqb-false}
use lib.Dec.{eqb}
use Rattle.meaning.specs.Tree.{Formula, always, labelled, negation, both, compare}
use Rattle.meaning.specs.Tree.{Expression, probability, constant, sum, difference, product}
use Rattle.meaning.specs.Tree.{PathFormula, next, until}
use Rattle.trees.specs.Need.{paired, need, need_in, need_from}

-- what holds of one more than equal needs, and of the larger of others, holds of the need of both
paired_case : (a b : ℕ) (P : ℕ → Type 0) → (a ≡ b → P (suc a)) → ((a ≡ b → ⊥) → P (max a b)) → P (paired a b)
paired_case a b P same other = go (eqb a b) refl
  where
    go : (t : Bool) → eqb a b ≡ t → P (cond t (suc a) (max a b))
    go true e = same (eqb-true a b e)
    go false e = other (eqb-false a b e)

-- it is no smaller than the first need
pub paired_first : (a b : ℕ) → a ≤ paired a b
paired_first a b = paired_case a b (λ x. a ≤ x) (λ e. omega arith) (λ e. omega arith)

-- nor than the second
pub paired_second : (a b : ℕ) → b ≤ paired a b
paired_second a b = paired_case a b (λ x. b ≤ x) (λ e. omega arith) (λ e. omega arith)

-- it is larger than the second, where that is the smaller one
pub paired_smaller : (a b : ℕ) → b ≤ a → b + 1 ≤ paired a b
paired_smaller a b h = paired_case a b (λ x. b + 1 ≤ x) (λ e. omega arith) (λ e. omega arith)

-- and than the first, where that is
pub paired_smaller_first : (a b : ℕ) → a < b → a + 1 ≤ paired a b
paired_smaller_first a b h =
    let p = paired_second a b in
    omega (arith, h)

-- two operands need two layers
pub paired_two : (a b : ℕ) → 1 ≤ a → 1 ≤ b → 2 ≤ paired a b
paired_two a b p q = paired_case a b (λ x. 2 ≤ x) (λ e. omega arith) (λ e. omega arith)

mutual
  unfolding need need_in need_from

  -- every state formula needs a layer
  pub need_some : (f : Formula) → 1 ≤ need f
  need_some always = omega arith
  need_some (labelled l i) = omega arith
  need_some (negation f) = need_some f
  need_some (both f g) = le_trans (need_some f) (paired_first (need f) (need g))
  need_some (compare r a b) = le_trans (need_in_some a) (paired_first (need_in a) (need_in b))

  -- every expression
  pub need_in_some : (a : Expression) → 1 ≤ need_in a
  need_in_some (probability w) = need_from_some w
  need_in_some (constant a b) = omega arith
  need_in_some (sum a b) = le_trans (need_in_some a) (paired_first (need_in a) (need_in b))
  need_in_some (difference a b) = le_trans (need_in_some a) (paired_first (need_in a) (need_in b))
  need_in_some (product a b) = le_trans (need_in_some a) (paired_first (need_in a) (need_in b))

  -- every path
  pub need_from_some : (w : PathFormula) → 1 ≤ need_from w
  need_from_some (next f) = need_some f
  need_from_some (until k1 k2 f g) = omega arith

-- what is needed of the layers, at T numbers a layer
pub room_of : {k m : ℕ} (T : ℕ) {long : ℕ} → k ≤ m → m * T ≤ long → k * T ≤ long
room_of T h room = le_trans (mul-le-mul_right T h) room

-- the same past the front layer
pub room_past : (k : ℕ) {m : ℕ} (T : ℕ) {long : ℕ} → k + 1 ≤ m → m * T ≤ long → k * T ≤ long - T
room_past k T {long} h room =
    let p : (k + 1) * T ≤ long = room_of T h room in
    omega arith
