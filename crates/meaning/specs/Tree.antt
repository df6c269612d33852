-- Sentences as trees: document 01, 'The sentence text'. State formulas, expressions and paths contain one another.
use Rattle.std.specs.Prelude.{ℕ, Bool, true, false, List, [], ◌∷◌, ◌++◌}

-- the five comparisons
pub data Relation : Type 0 where
  less at_most equal at_least greater : Relation

mutual
  -- true; label l (numbered from 0) of the state of variable i (numbered from 1); not; and; a comparison
  pub data Formula : Type 0 where
    always : Formula
    labelled : (l i : ℕ) → Formula
    negation : Formula → Formula
    both : Formula → Formula → Formula
    compare : Relation → Expression → Expression → Formula

  -- the probability of a path; the constant a / b; sum, difference and product
  pub data Expression : Type 0 where
    probability : PathFormula → Expression
    constant : (a b : ℕ) → Expression
    sum : Expression → Expression → Expression
    difference : Expression → Expression → Expression
    product : Expression → Expression → Expression

  -- next; until with window k1..k2
  pub data PathFormula : Type 0 where
    next : Formula → PathFormula
    until : (k1 k2 : ℕ) → Formula → Formula → PathFormula

-- a letter of the prefix: `A`, for all; `E`, exists
pub data Letter : Type 0 where
  for_all exists : Letter

-- the letter that a yes or no stands for: `E` exactly if yes
abbrev pub letter_of : Bool → Letter
letter_of true = exists
letter_of false = for_all

-- the path formulas in written order: a path stands before those within it
unfoldable mutual
  -- those of a state formula; the body's are all, numbered from 0
  pub paths_of : Formula → List PathFormula
  paths_of always = []
  paths_of (labelled l i) = []
  paths_of (negation f) = paths_of f
  paths_of (both f g) = paths_of f ++ paths_of g
  paths_of (compare r a b) = paths_in a ++ paths_in b

  -- those of an expression
  pub paths_in : Expression → List PathFormula
  paths_in (probability p) = paths_from p
  paths_in (constant a b) = []
  paths_in (sum a b) = paths_in a ++ paths_in b
  paths_in (difference a b) = paths_in a ++ paths_in b
  paths_in (product a b) = paths_in a ++ paths_in b

  -- a path and those of its formulas
  pub paths_from : PathFormula → List PathFormula
  paths_from (next f) = next f ∷ paths_of f
  paths_from (until k1 k2 f g) = until k1 k2 f g ∷ (paths_of f ++ paths_of g)
