-- What a path takes, its numerator and denominator, the value of an expression, when a formula is met at a tuple and
-- when a sentence holds: document 01, 'Meaning', with T-02 of document 02, and source document 000, section 2.2.
use Rattle.std.specs.Prelude.{ℕ, zero, suc, ◌*◌, ◌^◌, Bool, true, false, cond, not, ◌&&◌}
use Rattle.std.specs.Prelude.{List, [], ◌∷◌, leb, ℤ, pos, ◌+ℤ◌, ◌-ℤ◌, ◌*ℤ◌, get_or, length}
use Rattle.std.specs.Int.Signed.{lt_z, le_z}
use Rattle.meaning.specs.Lists.{below, every, there_is, total}
use Rattle.meaning.specs.Chain.{Chain, Tuple, Run, run_weight, runs}
use Rattle.meaning.specs.Tree.{Relation, less, at_most, equal, at_least, greater}
use Rattle.meaning.specs.Tree.{Formula, always, labelled, negation, both, compare}
use Rattle.meaning.specs.Tree.{Expression, probability, constant, sum, difference, product}
use Rattle.meaning.specs.Tree.{PathFormula, next, until, Letter, for_all, exists}
use Rattle.meaning.specs.Named.{Some, named, v, chosen, placed}

-- position j of a run, counted from 0
unfoldable pub position : Run → ℕ → Tuple
position r j = get_or r j []

-- next takes a run whose position 1 meets the formula
unfoldable pub next_takes : (Tuple → Bool) → Run → Bool
next_takes meets r = meets (position r 1)

-- until with window k1..k2 takes a run having some j, k1 ≤ j ≤ k2, whose position j meets the second formula while
-- positions 0..j−1 all meet the first
unfoldable pub until_takes : (first second : Tuple → Bool) → (k1 k2 : ℕ) → Run → Bool
until_takes first second k1 k2 r =
    there_is
    (λ j. leb k1 j && (second (position r j) && every (λ i. first (position r i)) (below j)))
    (below (suc k2))

-- the total weight of the runs of k steps that start at the tuple and are taken, each run once
unfoldable pub taken_weight : Chain → ℕ → ℕ → (Run → Bool) → Tuple → ℕ
taken_weight c n k takes s = total (λ r. cond (takes r) (run_weight c r) 0) (runs c n k s)

-- the steps of the runs that a path speaks of: one for next, k2 for until
abbrev pub steps_of : PathFormula → ℕ
steps_of (next f) = 1
steps_of (until k1 k2 f g) = k2

-- a test of all variables' states, asked where some have the states t and the others those that they have in the tuple s
abbrev pub beside : Some → (s : Tuple) → (Tuple → Bool) → (t : Tuple) → Bool
beside those s meets t = meets (placed those s t)

-- the denominator of a path: D^v for next, D^(v × k2) for until; only the variables that occur in it step
unfoldable pub denominator : PathFormula → (D n : ℕ) → ℕ
denominator (next f) D n = D ^ v (next f) n
denominator (until k1 k2 f g) D n = D ^ (v (until k1 k2 f g) n * k2)

-- the state of variable i has label l; variables are numbered from 1, and a variable that the tuple lacks has none
unfoldable pub has_label : Chain → ℕ → ℕ → Tuple → Bool
has_label c l i [] = false
has_label c l zero (s ∷ ss) = false
has_label c l (suc zero) (s ∷ ss) = c.label l s
has_label c l (suc (suc i)) (s ∷ ss) = has_label c l (suc i) ss

-- a fraction: a whole number with sign over a whole number
pub record Fraction : Type 0 where
  pub top : ℤ
  pub bottom : ℕ

-- the sum of two fractions, over the product of their denominators
unfoldable pub add_f : Fraction → Fraction → Fraction
add_f x y = record { top = x.top *ℤ pos y.bottom +ℤ y.top *ℤ pos x.bottom; bottom = x.bottom * y.bottom }

-- their difference, over the same; it keeps its sign
unfoldable pub sub_f : Fraction → Fraction → Fraction
sub_f x y = record { top = x.top *ℤ pos y.bottom -ℤ y.top *ℤ pos x.bottom; bottom = x.bottom * y.bottom }

-- their product, over the same
unfoldable pub mul_f : Fraction → Fraction → Fraction
mul_f x y = record { top = x.top *ℤ y.top; bottom = x.bottom * y.bottom }

-- the five relations between two whole numbers
unfoldable pub related : Relation → ℤ → ℤ → Bool
related less a b = lt_z a b
related at_most a b = le_z a b
related equal a b = le_z a b && le_z b a
related at_least a b = le_z b a
related greater a b = lt_z b a

-- two fractions are compared by their cross products
unfoldable pub compared : Relation → Fraction → Fraction → Bool
compared r x y = related r (x.top *ℤ pos y.bottom) (y.top *ℤ pos x.bottom)

-- state formulas, expressions and paths contain one another, so what they mean at a tuple is said of all three at once
unfoldable mutual
  -- the state formula is met at a tuple of n states
  pub holds : Formula → Chain → ℕ → Tuple → Bool
  holds always c n s = true
  holds (labelled l i) c n s = has_label c l i s
  holds (negation f) c n s = not (holds f c n s)
  holds (both f g) c n s = holds f c n s && holds g c n s
  holds (compare r a b) c n s = compared r (value a c n s) (value b c n s)

  -- the value of an expression there
  pub value : Expression → Chain → ℕ → Tuple → Fraction
  value (probability p) c n s = record { top = pos (numerator p c n s); bottom = denominator p c.D n }
  value (constant a b) c n s = record { top = pos a; bottom = b }
  value (sum a b) c n s = add_f (value a c n s) (value b c n s)
  value (difference a b) c n s = sub_f (value a c n s) (value b c n s)
  value (product a b) c n s = mul_f (value a c n s) (value b c n s)

  -- the numerator of a path there: the total weight of the runs taken of its v variables, which start where these are in the tuple
  pub numerator : PathFormula → Chain → ℕ → Tuple → ℕ
  numerator (next f) c n s =
      taken_weight c (v (next f) n) 1
      (next_takes (beside (named (next f) n) s (λ t. holds f c n t)))
      (chosen (named (next f) n) s)
  numerator (until k1 k2 f g) c n s =
      taken_weight c (v (until k1 k2 f g) n) k2
      (until_takes
      (beside (named (until k1 k2 f g) n) s (λ t. holds f c n t))
      (beside (named (until k1 k2 f g) n) s (λ t. holds g c n t)) k1 k2)
      (chosen (named (until k1 k2 f g) n) s)

-- `A`: all of the states meet the test; `E`: some do
unfoldable pub ranges : Letter → (ℕ → Bool) → List ℕ → Bool
ranges for_all test states = every test states
ranges exists test states = there_is test states

-- each letter of the prefix ranges over all N states, the first outermost
unfoldable pub ranged : Chain → List Letter → (Tuple → Bool) → Bool
ranged c [] meets = meets []
ranged c (letter ∷ letters) meets = ranges letter (λ s. ranged c letters (λ ss. meets (s ∷ ss))) (below c.N)

-- the verdict on a sentence, its prefix and its body: true is 'holds', false is 'fails'
unfoldable pub verdict : Chain → List Letter → Formula → Bool
verdict c letters body = ranged c letters (holds body c (length letters))
