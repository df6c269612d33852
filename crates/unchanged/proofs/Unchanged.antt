-- T-02's theorem: with only the variables that occur in a path stepping, no value, no verdict and no answer of the base is lost.
use Prim.Native.Nat.{ℕ, suc, ◌-◌, ◌*◌, ◌^◌, ◌≤◌, ◌<◌}
use mathlib.Core.Bool.{Bool, false, not, ◌&&◌, ◌||◌}
use mathlib.Core.List.{List, [], ◌∷◌}
use mathlib.Core.Path.{◌≡◌, refl, sym, ap, ap₂, ◌∙◌, subst}
use native.Mathlib.Nat.{add-le-add, le_refl, le_trans, mul-le-mul, mul-one, one-le-pow, pow-le-pow_right}
use borrow.Author.Tests.{ltb-false, le-ltb}
use lib.IntN.{pos}
use lib.ListN.{length}
use Rattle.meaning.specs.Lists.{below, nothing, further}
use Rattle.meaning.specs.Chain.{Chain, Sound, Tuple, Inside}
use Rattle.meaning.specs.Tree.{Formula, always, labelled, negation, both, compare}
use Rattle.meaning.specs.Tree.{Expression, probability, constant, sum, difference, product}
use Rattle.meaning.specs.Tree.{PathFormula, next, until, Letter, for_all, exists}
use Rattle.meaning.specs.Named.{occurs, occurs_from, count, named, v}
use Rattle.meaning.specs.Meaning.{steps_of, beside, denominator, holds, value, numerator, ranges, ranged, verdict}
use Rattle.meaning.specs.Size.{Size, add_s, mul_s, size, size_limit, too_large, large_size, large_cross, exceeds, exceeds_in, exceeds_from}
use Rattle.unchanged.specs.Base as Base
use Rattle.unchanged.specs.Unchanged.{shrunk, ValuesUnchanged, four_starts, NowAnswered}
use Rattle.meaning.proofs.Tests.{every_same, there_is_same, or_left, or_right, below_member}
use Rattle.meaning.proofs.Named.{named_length}
use Rattle.meaning.proofs.Looking.{alike_named, halves, holds_looks}
use Rattle.unchanged.proofs.Fewer.{count_le, powers, until_fewer, next_fewer}
use Rattle.unchanged.proofs.Scaled.{Scaled, scaled_self, add_scaled, sub_scaled, mul_scaled, compared_scaled, same_fraction}

-- there are no more variables in a path than letters
v_le : (p : PathFormula) (n : ℕ) → v p n ≤ n
unfolding v
v_le p n = subst (λ (k : ℕ). v p n ≤ k) (named_length p n) (count_le (named p n))

-- the base's denominator is the new one times the power of D
denominator_shrunk : (p : PathFormula) (D n : ℕ) → Base.denominator p D n ≡ denominator p D n * shrunk p D n
unfolding Base.denominator denominator
denominator_shrunk (next f) D n =
    let p = next f in
    ap (λ (k : ℕ). D ^ k) (sym (mul-one n)) ∙
    powers D (v_le p n) 1 ∙
    ap (λ (k : ℕ). D ^ k * D ^ ((n - v p n) * 1)) (mul-one (v p n))
denominator_shrunk (until k1 k2 f g) D n = powers D (v_le (until k1 k2 f g) n) k2

module _ (c : Chain) (sound : Sound c) (positive : 1 ≤ c.D) (n : ℕ) where
  -- Every formula is met where the base's is, every value has the base's numbers but for a factor, and every numerator is the base's but
  -- for the power of D.
  mutual
    unfolding occurs v Base.holds holds

    holds_base : (f : Formula) {s : Tuple} → Inside c.N n s → Base.holds f c n s ≡ holds f c n s
    holds_base always i = refl
    holds_base (labelled l k) i = refl
    holds_base (negation f) i = ap not (holds_base f i)
    holds_base (both f g) i = ap₂ ◌&&◌ (holds_base f i) (holds_base g i)
    holds_base (compare r a b) i = compared_scaled (value_base a i) (value_base b i) r

    value_base : (a : Expression) {s : Tuple} → Inside c.N n s → Scaled (Base.value a c n s) (value a c n s)
    value_base (probability p) i =
        record {
          by = shrunk p c.D n;
          positive = one-le-pow ((n - v p n) * steps_of p) c.D positive;
          top = ap pos (numerator_base p i);
          bottom = denominator_shrunk p c.D n;
        }
    value_base (constant a b) i = scaled_self _
    value_base (sum a b) i = add_scaled (value_base a i) (value_base b i)
    value_base (difference a b) i = sub_scaled (value_base a i) (value_base b i)
    value_base (product a b) i = mul_scaled (value_base a i) (value_base b i)

    numerator_base : (p : PathFormula) {s : Tuple} → Inside c.N n s → Base.numerator p c n s ≡ numerator p c n s * shrunk p c.D n
    numerator_base (next f) {s} i =
        let p = next f in
        next_fewer c sound (named p n) (named_length p n) (λ t. Base.holds f c n t) (beside (named p n) s (λ t. holds f c n t))
        (λ t j. holds_base f j ∙ holds_looks c n f (alike_named p i j)) i
    numerator_base (until k1 k2 f g) {s} i =
        let p = until k1 k2 f g in
        until_fewer c sound (named p n) (named_length p n) (λ t. Base.holds f c n t) (λ t. Base.holds g c n t)
        (beside (named p n) s (λ t. holds f c n t)) (beside (named p n) s (λ t. holds g c n t))
        (λ t j. holds_base f j ∙ holds_looks c n f (halves (λ k. occurs (suc k) f) (λ k. occurs (suc k) g) (alike_named p i j)).0)
        (λ t j. holds_base g j ∙ holds_looks c n g (halves (λ k. occurs (suc k) f) (λ k. occurs (suc k) g) (alike_named p i j)).1)
        k1 k2 i

-- ---- the size rule

-- a size no larger than another
record NoLarger (x y : Size) : Type 0 where
  d : x.d ≤ y.d
  m : x.m ≤ y.m

module _ {x x' y y' : Size} (p : NoLarger x x') (q : NoLarger y y') where
  -- a sum's size
  add_smaller : NoLarger (add_s x y) (add_s x' y')
  unfolding add_s
  add_smaller = record { d = mul-le-mul p.d q.d; m = add-le-add (mul-le-mul p.m q.d) (mul-le-mul q.m p.d) }

  -- a product's size
  mul_smaller : NoLarger (mul_s x y) (mul_s x' y')
  unfolding mul_s
  mul_smaller = record { d = mul-le-mul p.d q.d; m = mul-le-mul p.m q.m }

-- what is no larger than a number that is not too large is not too large
small : {x y : ℕ} → x ≤ y → too_large y ≡ false → too_large x ≡ false
unfolding too_large
small {x} {y} h e = le-ltb size_limit x (le_trans h (ltb-false size_limit y e))

-- where neither of two tests is met, neither of two others is, if each of them is met only where its own one of the first is
neither : (a b : Bool) {x y : Bool} → (a ≡ false → x ≡ false) → (b ≡ false → y ≡ false) → (a || b) ≡ false → (x || y) ≡ false
neither a b f g e = ap₂ ◌||◌ (f (or_left a b e)) (g (or_right a b e))

-- the same of three
none : (a b c : Bool) {x y z : Bool} → (a ≡ false → x ≡ false) → (b ≡ false → y ≡ false) → (c ≡ false → z ≡ false) →
    (a || b || c) ≡ false → (x || y || z) ≡ false
none a b c f g h = neither (a || b) c (neither a b f g) h

-- a size no larger than one that is not too large
small_size : {x y : Size} → NoLarger x y → large_size y ≡ false → large_size x ≡ false
unfolding large_size
small_size {x} {y} p = neither (too_large y.d) (too_large y.m) (small p.d) (small p.m)

-- and the cross products of two such sizes
small_cross : {x x' y y' : Size} → NoLarger x x' → NoLarger y y' → large_cross x' y' ≡ false → large_cross x y ≡ false
unfolding large_cross
small_cross {x} {x'} {y} {y'} p q =
    neither (too_large (x'.m * y'.d)) (too_large (y'.m * x'.d)) (small (mul-le-mul p.m q.d)) (small (mul-le-mul q.m p.d))

module _ (D : ℕ) (positive : 1 ≤ D) (n : ℕ) where
  -- a path's denominator is no larger than the base's
  denominator_smaller : (p : PathFormula) → denominator p D n ≤ Base.denominator p D n
  unfolding denominator Base.denominator
  denominator_smaller (next f) = pow-le-pow_right positive (v_le (next f) n)
  denominator_smaller (until k1 k2 f g) = pow-le-pow_right positive (mul-le-mul (v_le (until k1 k2 f g) n) (le_refl k2))

  -- so no expression's size is larger
  size_smaller : (a : Expression) → NoLarger (size a D n) (Base.size a D n)
  unfolding size Base.size
  size_smaller (probability p) = record { d = denominator_smaller p; m = denominator_smaller p }
  size_smaller (constant a b) = record { d = le_refl b; m = le_refl a }
  size_smaller (sum a b) = add_smaller (size_smaller a) (size_smaller b)
  size_smaller (difference a b) = add_smaller (size_smaller a) (size_smaller b)
  size_smaller (product a b) = mul_smaller (size_smaller a) (size_smaller b)

  -- and what the base lets through is let through
  mutual
    unfolding exceeds Base.exceeds

    exceeds_base : (f : Formula) → Base.exceeds f D n ≡ false → exceeds f D n ≡ false
    exceeds_base always e = refl
    exceeds_base (labelled l i) e = refl
    exceeds_base (negation f) e = exceeds_base f e
    exceeds_base (both f g) e = neither (Base.exceeds f D n) (Base.exceeds g D n) (λ h. exceeds_base f h) (λ h. exceeds_base g h) e
    exceeds_base (compare r a b) e =
        none (Base.exceeds_in a D n) (Base.exceeds_in b D n) (large_cross (Base.size a D n) (Base.size b D n))
        (λ h. exceeds_in_base a h) (λ h. exceeds_in_base b h) (small_cross (size_smaller a) (size_smaller b)) e

    exceeds_in_base : (a : Expression) → Base.exceeds_in a D n ≡ false → exceeds_in a D n ≡ false
    exceeds_in_base (probability p) e =
        neither (Base.exceeds_from p D n) (large_size (Base.size (probability p) D n))
        (λ h. exceeds_from_base p h) (small_size (size_smaller (probability p))) e
    exceeds_in_base (constant a b) e = small_size (size_smaller (constant a b)) e
    exceeds_in_base (sum a b) e =
        none (Base.exceeds_in a D n) (Base.exceeds_in b D n) (large_size (Base.size (sum a b) D n))
        (λ h. exceeds_in_base a h) (λ h. exceeds_in_base b h) (small_size (size_smaller (sum a b))) e
    exceeds_in_base (difference a b) e =
        none (Base.exceeds_in a D n) (Base.exceeds_in b D n) (large_size (Base.size (difference a b) D n))
        (λ h. exceeds_in_base a h) (λ h. exceeds_in_base b h) (small_size (size_smaller (difference a b))) e
    exceeds_in_base (product a b) e =
        none (Base.exceeds_in a D n) (Base.exceeds_in b D n) (large_size (Base.size (product a b) D n))
        (λ h. exceeds_in_base a h) (λ h. exceeds_in_base b h) (small_size (size_smaller (product a b))) e

    exceeds_from_base : (p : PathFormula) → Base.exceeds_from p D n ≡ false → exceeds_from p D n ≡ false
    exceeds_from_base (next f) e = exceeds_base f e
    exceeds_from_base (until k1 k2 f g) e =
        neither (Base.exceeds f D n) (Base.exceeds g D n) (λ h. exceeds_base f h) (λ h. exceeds_base g h) e

-- ---- the verdict

-- a letter over tests that agree at every state
ranges_same : (letter : Letter) (p q : ℕ → Bool) (N : ℕ) → ((s : ℕ) → s < N → p s ≡ q s) →
    ranges letter p (below N) ≡ ranges letter q (below N)
unfolding ranges
ranges_same for_all p q N h = every_same p q (below N) (λ s m. h s (below_member N m))
ranges_same exists p q N h = there_is_same p q (below N) (λ s m. h s (below_member N m))

-- a prefix over tests that agree at every tuple of as many states
ranged_same : (c : Chain) (letters : List Letter) (p q : Tuple → Bool) →
    ((s : Tuple) → Inside c.N (length letters) s → p s ≡ q s) → ranged c letters p ≡ ranged c letters q
unfolding ranged
ranged_same c [] p q h = h [] nothing
ranged_same c (letter ∷ letters) p q h =
    ranges_same letter _ _ c.N
    (λ s i. ranged_same c letters (λ ss. p (s ∷ ss)) (λ ss. q (s ∷ ss)) (λ ss w. h (s ∷ ss) (further i w)))

-- the theorem
pub values_unchanged : ValuesUnchanged
unfolding Base.verdict verdict
values_unchanged =
    record {
      values = λ c sound positive n.
          record {
            few = λ p. v_le p n;
            numerators = λ p i. numerator_base c sound positive n p i;
            denominators = λ p. denominator_shrunk p c.D n;
            fractions = λ a i. same_fraction (value_base c sound positive n a i);
            formulas = λ f i. holds_base c sound positive n f i;
            answered = λ body. exceeds_base c.D positive n body;
          };
      verdicts = λ c sound positive.
          record {
            verdicts = λ letters body. ranged_same c letters _ _ (λ s i. holds_base c sound positive (length letters) body i);
          };
    }

-- the sentence that the base refused
pub now_answered : NowAnswered
unfolding four_starts exceeds size denominator large_size large_cross too_large v count named occurs_from below
    Base.exceeds Base.size Base.denominator add_s mul_s
now_answered = record { before = refl; now = refl }
