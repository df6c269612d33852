-- Fractions of which one has both numbers of the other, times one factor: sums, differences and products of such fractions are such
-- fractions, and comparisons have the same answers.
use Prim.Native.Nat.{ℕ, zero, suc, ◌+◌, ◌*◌, ◌≤◌}
use mathlib.Core.Bool.{◌&&◌}
use mathlib.Core.Path.{◌≡◌, refl, sym, ap, ap₂, ◌∙◌}
use native.Mathlib.Nat.{mul_comm, mul-mul-mul_comm, mul-one, one-le-mul, le_refl, zero-lt-suc, not-suc-le-zero}
use native.Mathlib.Nat.{mul-le-mul_right, mul-lt-mul_of_pos_right, le_of_mul-le-mul_right, lt_of_mul-lt-mul_right}
use native.Mathlib.Omega.{arith}
use borrow.Author.Tests.{leb-true, le-leb}
use lib.Dec.{leb}
use lib.IntN.{ℤ, pos, negsuc, neg_ℤ, one, ◌+ℤ◌, ◌*ℤ◌, neg_ℤ-neg_ℤ, zero-*ℤ, *ℤ-zero, *ℤ-one, *ℤ_comm, suc_ℤ-*ℤ, +ℤ_assoc, +ℤ_comm}
use lib.Signed.{lt_z, le_z}
use Rattle.counting.proofs.Laws.{same_truth}
use Rattle.meaning.specs.Tree.{Relation, less, at_most, equal, at_least, greater}
use Rattle.meaning.specs.Meaning.{Fraction, add_f, sub_f, mul_f, related, compared}

-- a negative factor makes the product negative
mul_neg_left : (u w : ℤ) → neg_ℤ u *ℤ w ≡ neg_ℤ (u *ℤ w)
mul_neg_left (pos zero) w = zero-*ℤ w ∙ ap neg_ℤ (sym (zero-*ℤ w))
mul_neg_left (pos (suc a)) (pos b) = refl
mul_neg_left (pos (suc a)) (negsuc b) = sym (neg_ℤ-neg_ℤ (pos (suc a * suc b)))
mul_neg_left (negsuc a) (pos b) = sym (neg_ℤ-neg_ℤ (pos (suc a * b)))
mul_neg_left (negsuc a) (negsuc b) = refl

-- on the right too
mul_neg_right : (u w : ℤ) → u *ℤ neg_ℤ w ≡ neg_ℤ (u *ℤ w)
mul_neg_right u w = *ℤ_comm u (neg_ℤ w) ∙ mul_neg_left w u ∙ ap neg_ℤ (*ℤ_comm w u)

-- a factor of each of two numbers: both are factors of their product
scale_product : (u w : ℤ) (k l : ℕ) → (u *ℤ pos k) *ℤ (w *ℤ pos l) ≡ (u *ℤ w) *ℤ pos (k * l)
scale_product (pos a) (pos b) k l = ap pos (mul-mul-mul_comm a k b l)
scale_product (pos a) (negsuc b) k l =
    mul_neg_right (pos (a * k)) (pos (suc b * l)) ∙
    ap (λ (x : ℕ). neg_ℤ (pos x)) (mul-mul-mul_comm a k (suc b) l) ∙
    sym (mul_neg_left (pos (a * suc b)) (pos (k * l)))
scale_product (negsuc a) (pos b) k l =
    mul_neg_left (pos (suc a * k)) (pos (b * l)) ∙
    ap (λ (x : ℕ). neg_ℤ (pos x)) (mul-mul-mul_comm (suc a) k b l) ∙
    sym (mul_neg_left (pos (suc a * b)) (pos (k * l)))
scale_product (negsuc a) (negsuc b) k l =
    mul_neg_left (pos (suc a * k)) (neg_ℤ (pos (suc b * l))) ∙
    ap neg_ℤ (mul_neg_right (pos (suc a * k)) (pos (suc b * l))) ∙
    neg_ℤ-neg_ℤ (pos (suc a * k * (suc b * l))) ∙
    ap pos (mul-mul-mul_comm (suc a) k (suc b) l)

-- one time more
scale_more : (u : ℤ) (k : ℕ) → u *ℤ pos (suc k) ≡ u *ℤ pos k +ℤ u
scale_more u k = *ℤ_comm u (pos (suc k)) ∙ suc_ℤ-*ℤ (pos k) u ∙ ap (λ x. x +ℤ u) (*ℤ_comm (pos k) u)

-- a factor of both numbers is one of their sum
scale_sum : (u w : ℤ) (k : ℕ) → (u +ℤ w) *ℤ pos k ≡ u *ℤ pos k +ℤ w *ℤ pos k
scale_sum u w zero = *ℤ-zero (u +ℤ w) ∙ sym (ap₂ ◌+ℤ◌ (*ℤ-zero u) (*ℤ-zero w))
scale_sum u w (suc k) =
    scale_more (u +ℤ w) k ∙
    ap (λ x. x +ℤ (u +ℤ w)) (scale_sum u w k) ∙
    between (u *ℤ pos k) (w *ℤ pos k) ∙
    sym (ap₂ ◌+ℤ◌ (scale_more u k) (scale_more w k))
  where
    between : (x y : ℤ) → (x +ℤ y) +ℤ (u +ℤ w) ≡ (x +ℤ u) +ℤ (y +ℤ w)
    between x y =
        +ℤ_assoc x y (u +ℤ w) ∙
        ap (λ z. x +ℤ z) (sym (+ℤ_assoc y u w) ∙ ap (λ z. z +ℤ w) (+ℤ_comm y u) ∙ +ℤ_assoc u y w) ∙
        sym (+ℤ_assoc x u (y +ℤ w))

-- two tests of order that ask the same have one answer
leb_same : (a b x y : ℕ) → (a ≤ b → x ≤ y) → (x ≤ y → a ≤ b) → leb x y ≡ leb a b
leb_same a b x y f g = same_truth (leb x y) (leb a b) (λ e. le-leb a b (g (leb-true x y e))) (λ e. le-leb x y (f (leb-true a b e)))

module _ (k : ℕ) where
  -- a negative number times k + 1
  scale_negsuc : (a : ℕ) → negsuc a *ℤ pos (suc k) ≡ negsuc (a * suc k + k)
  scale_negsuc a =
      let e : suc a * suc k ≡ suc (a * suc k + k) = omega arith in
      ap (λ (x : ℕ). neg_ℤ (pos x)) e

  -- two numbers times k + 1 are in the order of the numbers
  scale_le : (u w : ℤ) → le_z (u *ℤ pos (suc k)) (w *ℤ pos (suc k)) ≡ le_z u w
  scale_le (pos a) (pos b) =
      leb_same a b (a * suc k) (b * suc k) (λ h. mul-le-mul_right (suc k) h) (λ h. le_of_mul-le-mul_right h (zero-lt-suc k))
  scale_le (pos a) (negsuc b) = ap (λ x. le_z (pos (a * suc k)) x) (scale_negsuc b)
  scale_le (negsuc a) (pos b) = ap (λ x. le_z x (pos (b * suc k))) (scale_negsuc a)
  scale_le (negsuc a) (negsuc b) =
      ap₂ le_z (scale_negsuc a) (scale_negsuc b) ∙
      leb_same b a (b * suc k + k) (a * suc k + k)
      (λ h. omega (arith, mul-le-mul_right (suc k) h)) (λ h. le_of_mul-le-mul_right {k = suc k} (omega arith) (zero-lt-suc k))

  -- the strict order too
  scale_lt : (u w : ℤ) → lt_z (u *ℤ pos (suc k)) (w *ℤ pos (suc k)) ≡ lt_z u w
  scale_lt (pos a) (pos b) =
      leb_same (suc a) b (suc (a * suc k)) (b * suc k)
      (λ h. mul-lt-mul_of_pos_right h (zero-lt-suc k)) (λ h. lt_of_mul-lt-mul_right (suc k) h)
  scale_lt (pos a) (negsuc b) = ap (λ x. lt_z (pos (a * suc k)) x) (scale_negsuc b)
  scale_lt (negsuc a) (pos b) = ap (λ x. lt_z x (pos (b * suc k))) (scale_negsuc a)
  scale_lt (negsuc a) (negsuc b) =
      ap₂ lt_z (scale_negsuc a) (scale_negsuc b) ∙
      leb_same (suc b) a (suc (b * suc k + k)) (a * suc k + k)
      (λ h. omega (arith, mul-lt-mul_of_pos_right h (zero-lt-suc k))) (λ h. lt_of_mul-lt-mul_right (suc k) (omega arith))

-- so a factor of both sides changes no answer
scale_related : (r : Relation) (k : ℕ) → 1 ≤ k → (u w : ℤ) → related r (u *ℤ pos k) (w *ℤ pos k) ≡ related r u w
unfolding related
scale_related r zero h u w = absurd (not-suc-le-zero h)
scale_related less (suc k) h u w = scale_lt k u w
scale_related at_most (suc k) h u w = scale_le k u w
scale_related equal (suc k) h u w = ap₂ ◌&&◌ (scale_le k u w) (scale_le k w u)
scale_related at_least (suc k) h u w = scale_le k w u
scale_related greater (suc k) h u w = scale_lt k w u

-- the first fraction has both numbers of the second, times one factor
pub record Scaled (x y : Fraction) : Type 0 where
  pub by : ℕ
  pub positive : 1 ≤ by
  pub top : x.top ≡ y.top *ℤ pos by
  pub bottom : x.bottom ≡ y.bottom * by

-- a fraction has its own numbers, once
pub scaled_self : (x : Fraction) → Scaled x x
unfolding one
scaled_self x = record { by = 1; positive = le_refl 1; top = sym (*ℤ-one x.top); bottom = sym (mul-one x.bottom) }

-- a cross product of two has both factors
cross_left : {x x' y y' : Fraction} (p : Scaled x x') (q : Scaled y y') →
    x.top *ℤ pos y.bottom ≡ (x'.top *ℤ pos y'.bottom) *ℤ pos (p.by * q.by)
cross_left {x' = x'} {y' = y'} p q =
    ap₂ (λ u (k : ℕ). u *ℤ pos k) p.top q.bottom ∙ scale_product x'.top (pos y'.bottom) p.by q.by

module _ {x x' y y' : Fraction} (p : Scaled x x') (q : Scaled y y') where
  -- and so has the other one
  cross_right : y.top *ℤ pos x.bottom ≡ (y'.top *ℤ pos x'.bottom) *ℤ pos (p.by * q.by)
  cross_right = cross_left q p ∙ ap (λ (k : ℕ). (y'.top *ℤ pos x'.bottom) *ℤ pos k) (mul_comm q.by p.by)

  -- what stands over the product of both denominators has both factors if its numerator has
  over_both : (top top' : ℤ) → top ≡ top' *ℤ pos (p.by * q.by) →
      Scaled (record { top = top; bottom = x.bottom * y.bottom }) (record { top = top'; bottom = x'.bottom * y'.bottom })
  over_both top top' e =
      record {
        by = p.by * q.by;
        positive = one-le-mul p.positive q.positive;
        top = e;
        bottom = ap₂ (λ (k l : ℕ). k * l) p.bottom q.bottom ∙ mul-mul-mul_comm x'.bottom p.by y'.bottom q.by;
      }

  -- the sum
  pub add_scaled : Scaled (add_f x y) (add_f x' y')
  unfolding add_f
  add_scaled =
      over_both _ _
      (ap₂ ◌+ℤ◌ (cross_left p q) cross_right ∙
      sym (scale_sum (x'.top *ℤ pos y'.bottom) (y'.top *ℤ pos x'.bottom) (p.by * q.by)))

  -- the difference
  pub sub_scaled : Scaled (sub_f x y) (sub_f x' y')
  unfolding sub_f
  sub_scaled =
      let w = y'.top *ℤ pos x'.bottom in
      over_both _ _
      (ap₂ ◌+ℤ◌ (cross_left p q) (ap neg_ℤ cross_right ∙ sym (mul_neg_left w (pos (p.by * q.by)))) ∙
      sym (scale_sum (x'.top *ℤ pos y'.bottom) (neg_ℤ w) (p.by * q.by)))

  -- the product
  pub mul_scaled : Scaled (mul_f x y) (mul_f x' y')
  unfolding mul_f
  mul_scaled = over_both _ _ (ap₂ ◌*ℤ◌ p.top q.top ∙ scale_product x'.top y'.top p.by q.by)

  -- comparisons have the same answer
  pub compared_scaled : (r : Relation) → compared r x y ≡ compared r x' y'
  unfolding compared
  compared_scaled r =
      ap₂ (related r) (cross_left p q) cross_right ∙ scale_related r (p.by * q.by) (one-le-mul p.positive q.positive) _ _

-- and both are the same fraction: their numbers, multiplied crosswise
pub same_fraction : {x x' : Fraction} → Scaled x x' → x.top *ℤ pos x'.bottom ≡ x'.top *ℤ pos x.bottom
same_fraction {x' = x'} p = cross_left p (scaled_self x') ∙ sym (cross_right p (scaled_self x'))
