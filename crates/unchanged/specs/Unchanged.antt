-- T-02's theorem: with fewer variables stepping, no value, no verdict and no answer of the base is lost. `Base` is the meaning over all n.
use Rattle.std.specs.Prelude.{ℕ, ◌-◌, ◌*◌, ◌^◌, ◌≤◌, true, false, List, ◌≡◌, pos, ◌*ℤ◌}
use Rattle.meaning.specs.Chain.{Chain, Sound, Tuple, Inside}
use Rattle.meaning.specs.Tree.{equal, Formula, always, labelled, both, compare}
use Rattle.meaning.specs.Tree.{Expression, probability, PathFormula, until, Letter}
use Rattle.meaning.specs.Named.{v}
use Rattle.meaning.specs.Meaning.{steps_of, denominator, holds, value, numerator, verdict}
use Rattle.meaning.specs.Size.{exceeds}
use Rattle.unchanged.specs.Base as Base

-- the power of D by which a path's two numbers have shrunk: those of the variables that it does not name, over its steps
abbrev pub shrunk : PathFormula → (D n : ℕ) → ℕ
shrunk p D n = D ^ ((n - v p n) * steps_of p)

-- On every sound chain, where D is 1 or more as in every model, of sentences of n letters:
pub record Unchanged (c : Chain) (n : ℕ) : Type 0 where
  -- there are no more variables in a path than letters;
  pub few : (p : PathFormula) → v p n ≤ n
  -- the base's numerator is, at every tuple, the new one times the power of D,
  pub numerators : (p : PathFormula) {s : Tuple} → Inside c.N n s → Base.numerator p c n s ≡ numerator p c n s * shrunk p c.D n
  -- and so is the denominator;
  pub denominators : (p : PathFormula) → Base.denominator p c.D n ≡ denominator p c.D n * shrunk p c.D n
  -- every expression is the same fraction, its numbers multiplied crosswise;
  pub fractions : (a : Expression) {s : Tuple} → Inside c.N n s →
      (Base.value a c n s).top *ℤ pos (value a c n s).bottom ≡ (value a c n s).top *ℤ pos (Base.value a c n s).bottom
  -- every state formula is met where it was met;
  pub formulas : (f : Formula) {s : Tuple} → Inside c.N n s → Base.holds f c n s ≡ holds f c n s
  -- and no body is too large for row 10 that was not.
  pub answered : (body : Formula) → Base.exceeds body c.D n ≡ false → exceeds body c.D n ≡ false

-- Every verdict that the base gave is still given.
pub record StillGiven (c : Chain) : Type 0 where
  pub verdicts : (letters : List Letter) (body : Formula) → Base.verdict c letters body ≡ verdict c letters body

-- the theorem
pub record ValuesUnchanged : Type 0 where
  pub values : (c : Chain) → Sound c → 1 ≤ c.D → (n : ℕ) → Unchanged c n
  pub verdicts : (c : Chain) → Sound c → 1 ≤ c.D → StillGiven c

-- ---- what the base refused

-- `PU0,15:Ta` of a variable
abbrev pub reaches : ℕ → Expression
reaches i = probability (until 0 15 always (labelled 0 i))

-- four variables, each path naming one: `&=PU0,15:Ta1PU0,15:Ta2=PU0,15:Ta3PU0,15:Ta4`
unfoldable pub four_starts : Formula
four_starts = both (compare equal (reaches 1) (reaches 2)) (compare equal (reaches 3) (reaches 4))

-- with D = 2 the base refused it as 10; now it is answered
pub record NowAnswered : Type 0 where
  pub before : Base.exceeds four_starts 2 4 ≡ true
  pub now : exceeds four_starts 2 4 ≡ false
