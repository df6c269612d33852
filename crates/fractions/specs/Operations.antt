-- Working: what the functions of this crate promise one another. Nothing here has to be believed.
--
-- The operations and the comparison of two numerators over their denominators, in the words of the meaning and of the
-- size rule.
use Rattle.std.specs.Prelude.{ℕ, ◌+◌, ◌≤◌, ◌<◌, cond, List, ℤ, nat_abs, length, get_or}
use Rattle.sentence.specs.declared.Relation.{Relation}
use Rattle.meaning.specs.Meaning.{Fraction, add_f, sub_f, mul_f, compared}
use Rattle.meaning.specs.Size.{Size, size_limit, add_s, mul_s}
use Rattle.trees.specs.Listed.{relation_read}
use Rattle.fractions.specs.declared.Operation.{Operation}
use Rattle.fractions.specs.declared.Operation.TheVariants.{Sum, Difference, Product}
use Rattle.fractions.specs.declared.Making.{Making}
use Rattle.fractions.specs.declared.Making.TheVariants.{Operated, Compared}
use Rattle.fractions.specs.Codes.{coded, decoded, CrossFits}

-- a numerator over a denominator
abbrev pub over : ℤ → ℕ → Fraction
over a d = record { top = a; bottom = d }

-- what an operation makes of two fractions
unfoldable pub operated : Operation → Fraction → Fraction → Fraction
operated Sum x y = add_f x y
operated Difference x y = sub_f x y
operated Product x y = mul_f x y

-- what the size rule makes of their sizes
unfoldable pub sized : Operation → Size → Size → Size
sized Sum x y = add_s x y
sized Difference x y = add_s x y
sized Product x y = mul_s x y

-- the denominators are at most 2^62, and so is the bound of the operation's numerator
pub record OperandsFit (op : Operation) (a : ℤ) (d1 : ℕ) (b : ℤ) (d2 : ℕ) : Type 0 where
  pub left : d1 ≤ size_limit
  pub right : d2 ≤ size_limit
  pub bound : (sized op (record { d = d1; m = nat_abs a }) (record { d = d2; m = nat_abs b })).m ≤ size_limit

-- both cross products fit
pub record CrossesFit (a : ℤ) (d1 : ℕ) (b : ℤ) (d2 : ℕ) : Type 0 where
  pub first : CrossFits a d2
  pub second : CrossFits b d1

-- what is made of two numerators fits: the operation does, or both cross products do
abbrev pub MakingFits : Making → (d1 d2 : ℕ) → ℤ → ℤ → Type 0
MakingFits (Operated op) d1 d2 a b = OperandsFit op a d1 b d2
MakingFits (Compared r) d1 d2 a b = CrossesFit a d1 b d2

-- what is made of two numerators: the code of what an operation makes, or 1 where the fractions stand in the relation,
-- and 0 elsewhere
abbrev pub made_code : Making → (d1 d2 : ℕ) → ℤ → ℤ → ℕ
made_code (Operated op) d1 d2 a b = coded (operated op (over a d1) (over b d2)).top
made_code (Compared r) d1 d2 a b = cond (compared (relation_read r) (over a d1) (over b d2)) 1 0

-- what is made of two layers of codes at place k
abbrev pub made_at : Making → (d1 d2 T : ℕ) → List ℕ → ℕ → ℕ
made_at making d1 d2 T w k = made_code making d1 d2 (decoded (get_or w k 0)) (decoded (get_or w (T + k) 0))

-- by an operation
abbrev pub combined_at : Operation → (d1 d2 T : ℕ) → List ℕ → ℕ → ℕ
combined_at op = made_at (Operated op)

-- by a comparison
abbrev pub compared_at : Relation → (d1 d2 T : ℕ) → List ℕ → ℕ → ℕ
compared_at r = made_at (Compared r)

-- two layers lie in the list, and at each place their numerators fit
pub record LayersFit (fit : ℤ → ℤ → Type 0) (T : ℕ) (w : List ℕ) : Type 0 where
  pub room : T + T ≤ length w
  pub fits : (k : ℕ) → k < T → fit (decoded (get_or w k 0)) (decoded (get_or w (T + k) 0))

-- they fit the operation
abbrev pub CombineFits : Operation → (d1 d2 T : ℕ) → List ℕ → Type 0
CombineFits op d1 d2 T w = LayersFit (λ a b. OperandsFit op a d1 b d2) T w

-- their cross products fit
abbrev pub CompareFits : (d1 d2 T : ℕ) → List ℕ → Type 0
CompareFits d1 d2 T w = LayersFit (λ a b. CrossesFit a d1 b d2) T w
