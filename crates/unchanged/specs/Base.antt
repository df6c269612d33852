-- The meaning before T-02, for the theorem that no value changed and for nothing else: all n variables step in every path, used or not.
-- Document 01, 'Meaning', as it stands there. No call and no other definition reads this file.
use Rattle.std.specs.Prelude.{ℕ, ◌*◌, ◌^◌, Bool, true, false, not, ◌&&◌, ◌||◌, List, pos, length}
use Rattle.meaning.specs.Chain.{Chain, Tuple}
use Rattle.meaning.specs.Tree.{Formula, always, labelled, negation, both, compare}
use Rattle.meaning.specs.Tree.{Expression, probability, constant, sum, difference, product}
use Rattle.meaning.specs.Tree.{PathFormula, next, until, Letter}
use Rattle.meaning.specs.Meaning.{next_takes, until_takes, taken_weight, has_label, Fraction, add_f, sub_f, mul_f, compared, ranged}
use Rattle.meaning.specs.Size.{Size, add_s, mul_s, large_size, large_cross}

-- the denominator of a path: D^n for next, D^(n × k2) for until; all n variables step, used or not
unfoldable pub denominator : PathFormula → (D n : ℕ) → ℕ
denominator (next f) D n = D ^ n
denominator (until k1 k2 f g) D n = D ^ (n * k2)

-- state formulas, expressions and paths contain one another, so what they mean at a tuple is said of all three at once
unfoldable mutual
  -- the state formula is met at a tuple of n states
  pub holds : Formula → Chain → ℕ → Tuple → Bool
  holds always c n s = true
  holds (labelled l i) c n s = has_label c l i s
  holds (negation f) c n s = not (holds f c n s)
  holds (both f g) c n s = holds f c n s && holds g c n s
  holds (compare r a b) c n s = compared r (value a c n s) (value b c n s)

  -- the value of an expression there
  pub value : Expression → Chain → ℕ → Tuple → Fraction
  value (probability p) c n s = record { top = pos (numerator p c n s); bottom = denominator p c.D n }
  value (constant a b) c n s = record { top = pos a; bottom = b }
  value (sum a b) c n s = add_f (value a c n s) (value b c n s)
  value (difference a b) c n s = sub_f (value a c n s) (value b c n s)
  value (product a b) c n s = mul_f (value a c n s) (value b c n s)

  -- the numerator of a path there: the total weight of the runs taken that start at the tuple
  pub numerator : PathFormula → Chain → ℕ → Tuple → ℕ
  numerator (next f) c n s = taken_weight c n 1 (next_takes (λ t. holds f c n t)) s
  numerator (until k1 k2 f g) c n s =
      taken_weight c n k2 (until_takes (λ t. holds f c n t) (λ t. holds g c n t) k1 k2) s

-- the verdict on a sentence, its prefix and its body: true is 'holds', false is 'fails'
unfoldable pub verdict : Chain → List Letter → Formula → Bool
verdict c letters body = ranged c letters (holds body c (length letters))

-- ---- the size rule

-- each expression's d and m. P: d = m = its denominator; constant a/b: d = b, m = a
unfoldable pub size : Expression → (D n : ℕ) → Size
size (probability p) D n = record { d = denominator p D n; m = denominator p D n }
size (constant a b) D n = record { d = b; m = a }
size (sum a b) D n = add_s (size a D n) (size b D n)
size (difference a b) D n = add_s (size a D n) (size b D n)
size (product a b) D n = mul_s (size a D n) (size b D n)

-- some d, some m, or some comparison's m1 × d2 or m2 × d1 is above 2^62
unfoldable mutual
  -- in a state formula; refusal 10 is given exactly if it is so in the body
  pub exceeds : Formula → (D n : ℕ) → Bool
  exceeds always D n = false
  exceeds (labelled l i) D n = false
  exceeds (negation f) D n = exceeds f D n
  exceeds (both f g) D n = exceeds f D n || exceeds g D n
  exceeds (compare r a b) D n = exceeds_in a D n || exceeds_in b D n || large_cross (size a D n) (size b D n)

  -- in an expression, itself among them
  pub exceeds_in : Expression → (D n : ℕ) → Bool
  exceeds_in (probability p) D n = exceeds_from p D n || large_size (size (probability p) D n)
  exceeds_in (constant a b) D n = large_size (size (constant a b) D n)
  exceeds_in (sum a b) D n = exceeds_in a D n || exceeds_in b D n || large_size (size (sum a b) D n)
  exceeds_in (difference a b) D n = exceeds_in a D n || exceeds_in b D n || large_size (size (difference a b) D n)
  exceeds_in (product a b) D n = exceeds_in a D n || exceeds_in b D n || large_size (size (product a b) D n)

  -- in the formulas of a path
  pub exceeds_from : PathFormula → (D n : ℕ) → Bool
  exceeds_from (next f) D n = exceeds f D n
  exceeds_from (until k1 k2 f g) D n = exceeds f D n || exceeds g D n
