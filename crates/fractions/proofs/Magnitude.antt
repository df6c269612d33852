-- Signed numbers on the machine: a numerator within 2^62 fits, is read back as it is, and its code is its own.
use Prim.Native.Nat.{ℕ, zero, suc, ◌+◌, ◌-◌, ◌^◌, ◌≤◌, ◌<◌}
use mathlib.Core.Bool.{Bool, true, false, cond}
use mathlib.Core.Path.{◌≡◌, refl, sym, ap, ap₂, subst, ◌∙◌}
use native.Mathlib.Nat.{le_refl}
use native.Mathlib.Omega.{arith}
use borrow.Author.Tests.{lt-ltb, le-ltb, ltb-true, ltb-false}
use lib.Dec.{ltb}
use lib.IntN.{ℤ, pos, negsuc, neg_ℤ, nat_abs}
use lib.Signed.{mag}
use mir.Syntax.{w64}
use mir.Val.{Fits, SFits, to_z, of_z}
use mir.Facts.{to_z-of_z}
use Rattle.meaning.specs.Size.{size_limit}
use Rattle.fractions.specs.Codes.{upper_half, coded, decoded, Small}

-- a number of size at most 2^62 fits
mag_le : (z : ℤ) → mag z ≤ nat_abs z
mag_le (pos n) = le_refl n
mag_le (negsuc n) = omega arith

pub small_fits : (z : ℤ) → nat_abs z ≤ size_limit → SFits w64 z
small_fits z h = record { sfits = omega (arith, mag_le z) }

-- an operation on numbers that were read back fits
pub op_fits : (op : ℤ → ℤ → ℤ) {a b a' b' : ℤ} → a' ≡ a → b' ≡ b → SFits w64 (op a b) → SFits w64 (op a' b')
op_fits op p q h = subst (λ (z : ℤ). SFits w64 z) (sym (ap₂ op p q)) h

neg_fits : (n : ℕ) → n < upper_half → SFits w64 (neg_ℤ (pos n))
neg_fits zero h = record { sfits = h }
neg_fits (suc n) h = record { sfits = omega arith }

-- what a code stands for is read back as it is
decoded_fits : (x : ℕ) → x < 2 ^ 64 → SFits w64 (decoded x)
decoded_fits x h = here (ltb x upper_half) refl
  where
    here : (b : Bool) → ltb x upper_half ≡ b → SFits w64 (cond b (pos x) (neg_ℤ (pos (x - upper_half))))
    here true e = record { sfits = ltb-true x upper_half e }
    here false e =
        let l = ltb-false x upper_half e in
        neg_fits (x - upper_half) (omega arith)

pub decoded_reads : {z : ℤ} {x : ℕ} → Fits w64 x → z ≡ decoded x → to_z w64 (of_z w64 z) ≡ decoded x
decoded_reads {x = x} h e = ap (λ (z : ℤ). to_z w64 (of_z w64 z)) e ∙ to_z-of_z (decoded_fits x h.fits)

-- what is coded is decoded
pub decoded_coded : (z : ℤ) → Small z → decoded (coded z) ≡ z
decoded_coded (pos n) h =
    let size = h.size in
    ap (λ b. cond b (pos n) (neg_ℤ (pos (n - upper_half)))) (lt-ltb n upper_half (omega arith))
decoded_coded (negsuc n) h =
    ap (λ b. cond b (pos (upper_half + suc n)) (neg_ℤ (pos (upper_half + suc n - upper_half))))
    (le-ltb (upper_half + suc n) upper_half (omega arith)) ∙
    ap (λ (x : ℕ). neg_ℤ (pos x)) e
  where
    e : upper_half + suc n - upper_half ≡ suc n
    e = omega arith
