-- Capping commutes with products, sums and the test for too large.
use Prim.Native.Nat.{ℕ, zero, suc, ◌+◌, ◌*◌, ◌^◌, ◌≤◌}
use mathlib.Core.Path.{◌≡◌, sym, ap, ◌∙◌}
use native.Mathlib.Decide.{dec_le}
use native.Mathlib.Nat.{pow-suc, mul_comm}
use native.Mathlib.Numerals.{add-one}
use native.Mathlib.Omega.{arith}
use borrow.Author.Tests.{lt-ltb}
use lib.Dec.{ltb}
use Rattle.meaning.specs.Size.{size_limit, too_large}
use Rattle.capped.specs.Capping.{capped}

pub capped_small : (x : ℕ) → x ≤ (size_limit + 1) → capped x ≡ x
unfolding capped
capped_small x h = omega arith

pub capped_large : (x : ℕ) → (size_limit + 1) ≤ x → capped x ≡ (size_limit + 1)
unfolding capped
capped_large x h = omega arith

pub capped_bound : (x : ℕ) → capped x ≤ (size_limit + 1)
unfolding capped
capped_bound x = omega arith

pub capped_result : (r x : ℕ) → r ≡ capped x → r ≤ (size_limit + 1)
capped_result r x e = omega (arith, e, capped_bound x)

-- a capped factor is as good as the number
absorbs : (x y : ℕ) → (size_limit + 1) ≤ x → capped ((size_limit + 1) * y) ≡ capped (x * y)
absorbs x zero h =
    let e : (size_limit + 1) * zero ≡ x * zero = omega arith in
    ap capped e
absorbs x (suc y) h = capped_large ((size_limit + 1) * suc y) (omega arith) ∙ sym (capped_large (x * suc y) (omega arith))

capped_left : (x y : ℕ) → capped (capped x * y) ≡ capped (x * y)
capped_left x y = by (dec_le x (size_limit + 1))
  where
    by : Dec (x ≤ (size_limit + 1)) → capped (capped x * y) ≡ capped (x * y)
    by (yes h) = ap (λ (z : ℕ). capped (z * y)) (capped_small x h)
    by (no h) =
        let l : (size_limit + 1) ≤ x = omega arith in
        ap (λ (z : ℕ). capped (z * y)) (capped_large x l) ∙ absorbs x y l

pub capped_times : (x y : ℕ) → capped (capped x * capped y) ≡ capped (x * y)
capped_times x y =
    capped_left x (capped y) ∙ (ap capped (mul_comm x (capped y)) ∙ (capped_left y x ∙ ap capped (mul_comm y x)))

pub capped_plus : (x y : ℕ) → capped (capped x + capped y) ≡ capped (x + y)
unfolding capped
capped_plus x y = omega arith

pub capped_too : (x : ℕ) → too_large (capped x) ≡ too_large x
unfolding too_large
capped_too x = by (dec_le x size_limit)
  where
    by : Dec (x ≤ size_limit) → ltb size_limit (capped x) ≡ ltb size_limit x
    by (yes h) = ap (ltb size_limit) (capped_small x (omega arith))
    by (no h) =
        let l : (size_limit + 1) ≤ x = omega arith in
        lt-ltb size_limit (capped x) (omega (arith, capped_large x l)) ∙ sym (lt-ltb size_limit x (omega arith))

-- one factor more
pub capped_power : (b i r : ℕ) → r ≡ capped (b ^ i) → capped (r * b) ≡ capped (b ^ (i + 1))
capped_power b i r e =
    ap (λ (z : ℕ). capped (z * b)) e ∙ (capped_left (b ^ i) b ∙ ap capped (sym (rw add-one (pow-suc b i))))
