-- What the size rule's bound gives the operations: each cross product and each result is within 2^62.
use Prim.Native.Nat.{ℕ, ◌+◌, ◌≤◌}
use mathlib.Core.Path.{◌≡◌, refl, sym, ap, ap₂, subst, subst₂, ◌∙◌}
use native.Mathlib.Nat.{le_trans, le_of_eq}
use native.Mathlib.Omega.{arith}
use lib.IntN.{ℤ, pos, nat_abs, ◌*ℤ◌}
use mir.Syntax.{w64}
use mir.Val.{SFits, to_z, of_z}
use mir.Facts.{to_z-of_z}
use Rattle.meaning.specs.Meaning.{add_f, sub_f, mul_f}
use Rattle.meaning.specs.Size.{size_limit, Size, add_s, mul_s}
use Rattle.meaning.proofs.Magnitude.{abs_mul, abs_add, abs_diff}
use Rattle.fractions.specs.declared.Operation.{Operation}
use Rattle.fractions.specs.declared.Operation.TheVariants.{Sum, Difference, Product}
use Rattle.fractions.specs.declared.Making.{Making}
use Rattle.fractions.specs.Codes.{Small, CrossFits}
use Rattle.fractions.specs.Operations.{over, operated, sized, OperandsFit, CrossesFit, MakingFits}
use Rattle.fractions.proofs.Magnitude.{small_fits, op_fits}

-- a result is read back as what its contract says
pub back : {z z' : ℤ} → z' ≡ z → nat_abs z ≤ size_limit → to_z w64 (of_z w64 z') ≡ z
back {z} e h = ap (λ (x : ℤ). to_z w64 (of_z w64 x)) e ∙ to_z-of_z (small_fits z h)

-- ---- a cross product

pub cross_size : {a : ℤ} {d : ℕ} → CrossFits a d → nat_abs (a *ℤ pos d) ≤ size_limit
cross_size {a} {d} h = le_trans (le_of_eq (abs_mul a (pos d))) h.size

-- of a number as it is read back: it is asked for, and comes back as what it is
module _ {a : ℤ} {d : ℕ} (h : CrossFits a d) (fits : SFits w64 a) where
  pub cross_asked : CrossFits (to_z w64 (of_z w64 a)) d
  cross_asked = subst (λ x. CrossFits x d) (sym (to_z-of_z fits)) h

  pub cross_back : {z : ℤ} → z ≡ to_z w64 (of_z w64 a) *ℤ pos d → to_z w64 (of_z w64 z) ≡ a *ℤ pos d
  cross_back e = back (e ∙ ap (λ x. x *ℤ pos d) (to_z-of_z fits)) (cross_size h)

-- what is made of two of them is made of what they are
pub crosses_back : {A : Type 0} (f : ℤ → ℤ → A) {a b x y : ℤ} {d1 d2 : ℕ} → CrossesFit a d1 b d2 →
    SFits w64 a → SFits w64 b → x ≡ to_z w64 (of_z w64 a) *ℤ pos d2 → y ≡ to_z w64 (of_z w64 b) *ℤ pos d1 →
    f (to_z w64 (of_z w64 x)) (to_z w64 (of_z w64 y)) ≡ f (a *ℤ pos d2) (b *ℤ pos d1)
crosses_back f h fits-a fits-b p q = ap₂ f (cross_back h.first fits-a p) (cross_back h.second fits-b q)

-- ---- an operation

-- the bound, by what the size rule makes of the sizes
pub bound_by : {op : Operation} {a b : ℤ} {d1 d2 : ℕ} {f : Size → Size → Size} → OperandsFit op a d1 b d2 →
    sized op ≡ f → (f (record { d = d1; m = nat_abs a }) (record { d = d2; m = nat_abs b })).m ≤ size_limit
bound_by {a = a} {b = b} {d1 = d1} {d2 = d2} fits e =
    subst (λ g. (g (record { d = d1; m = nat_abs a }) (record { d = d2; m = nat_abs b })).m ≤ size_limit) e fits.bound

-- the two cross products of a sum or a difference: each fits, and so do both together
pub record Crossed (a : ℤ) (d1 : ℕ) (b : ℤ) (d2 : ℕ) : Type 0 where
  pub each : CrossesFit a d1 b d2
  pub both : nat_abs (a *ℤ pos d2) + nat_abs (b *ℤ pos d1) ≤ size_limit

crossed : {op : Operation} {a b : ℤ} {d1 d2 : ℕ} → OperandsFit op a d1 b d2 → sized op ≡ add_s → Crossed a d1 b d2
unfolding add_s
crossed {a = a} {b = b} {d1 = d1} {d2 = d2} fits e =
    let bound = bound_by fits e in
    record {
      each = record {
        first = record { small = fits.right; size = omega arith };
        second = record { small = fits.left; size = omega arith };
      };
      both = omega (arith, abs_mul a (pos d2), abs_mul b (pos d1));
    }

pub sum_crossed : {a b : ℤ} {d1 d2 : ℕ} → OperandsFit Sum a d1 b d2 → Crossed a d1 b d2
unfolding sized
sum_crossed fits = crossed fits refl

pub difference_crossed : {a b : ℤ} {d1 d2 : ℕ} → OperandsFit Difference a d1 b d2 → Crossed a d1 b d2
unfolding sized
difference_crossed fits = crossed fits refl

-- the result is as small
pub operated_small : (op : Operation) {a b : ℤ} {d1 d2 : ℕ} → OperandsFit op a d1 b d2 →
    Small (operated op (over a d1) (over b d2)).top
unfolding operated add_f sub_f mul_f sized mul_s
operated_small Sum {a} {b} {d1} {d2} fits =
    record { size = le_trans (abs_add (a *ℤ pos d2) (b *ℤ pos d1)) (sum_crossed fits).both }
operated_small Difference {a} {b} {d1} {d2} fits =
    record { size = le_trans (abs_diff (a *ℤ pos d2) (b *ℤ pos d1)) (difference_crossed fits).both }
operated_small Product {a} {b} fits = record { size = le_trans (le_of_eq (abs_mul a b)) fits.bound }

-- what fits an operation fits it by the name that is known
pub fits_by : {op known : Operation} {a b : ℤ} {d1 d2 : ℕ} → OperandsFit op a d1 b d2 → op ≡ known → OperandsFit known a d1 b d2
fits_by {a = a} {b = b} {d1 = d1} {d2 = d2} fits e = subst (λ o. OperandsFit o a d1 b d2) e fits

-- what is made of two numbers as they are read back fits, where it is as small as that of what they are
pub made_fits : (f : ℤ → ℤ → ℤ) {a b x y : ℤ} → x ≡ a → y ≡ b → nat_abs (f a b) ≤ size_limit → SFits w64 (f x y)
made_fits f {a} {b} p q small = op_fits f p q (small_fits (f a b) small)

-- and is read back as what it is, by the operation
pub operated_back : {op known : Operation} {z a b : ℤ} {d1 d2 : ℕ} → OperandsFit op a d1 b d2 → op ≡ known →
    z ≡ (operated known (over a d1) (over b d2)).top → to_z w64 (of_z w64 z) ≡ (operated op (over a d1) (over b d2)).top
operated_back {op} {a = a} {b = b} {d1 = d1} {d2 = d2} fits e p =
    back (p ∙ sym (ap (λ o. (operated o (over a d1) (over b d2)).top) e)) (operated_small op fits).size

-- at the making that is known, and of two numbers as they are read back, the same fits and the same is made
module _ (d1 d2 : ℕ) {making known : Making} {a b a' b' : ℤ} (e : making ≡ known) (p : a' ≡ a) (q : b' ≡ b) where
  pub fits_as : MakingFits making d1 d2 a b → MakingFits known d1 d2 a' b'
  fits_as h = subst₂ (MakingFits known d1 d2) (sym p) (sym q) (subst (λ m. MakingFits m d1 d2 a b) e h)
