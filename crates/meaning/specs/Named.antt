-- The variables that occur in a path, nested ones included: document 02, T-02. A path's runs are runs of those variables.
use Rattle.std.specs.Prelude.{ℕ, suc, Bool, true, false, ◌||◌, List, [], ◌∷◌, map, eqb}
use Rattle.meaning.specs.Lists.{below}
use Rattle.meaning.specs.Chain.{Tuple}
use Rattle.meaning.specs.Tree.{Formula, always, labelled, negation, both, compare}
use Rattle.meaning.specs.Tree.{Expression, probability, constant, sum, difference, product}
use Rattle.meaning.specs.Tree.{PathFormula, next, until}

-- the variable i, numbered from 1, occurs
unfoldable mutual
  -- in a state formula
  pub occurs : ℕ → Formula → Bool
  occurs i always = false
  occurs i (labelled l j) = eqb i j
  occurs i (negation f) = occurs i f
  occurs i (both f g) = occurs i f || occurs i g
  occurs i (compare r a b) = occurs_in i a || occurs_in i b

  -- in an expression
  pub occurs_in : ℕ → Expression → Bool
  occurs_in i (probability p) = occurs_from i p
  occurs_in i (constant a b) = false
  occurs_in i (sum a b) = occurs_in i a || occurs_in i b
  occurs_in i (difference a b) = occurs_in i a || occurs_in i b
  occurs_in i (product a b) = occurs_in i a || occurs_in i b

  -- in a path
  pub occurs_from : ℕ → PathFormula → Bool
  occurs_from i (next f) = occurs i f
  occurs_from i (until k1 k2 f g) = occurs i f || occurs i g

-- some of n variables: a yes or no for each, that of variable 1 first
abbrev pub Some : Type 0
Some = List Bool

-- how many they are
unfoldable pub count : Some → ℕ
count [] = 0
count (true ∷ bs) = suc (count bs)
count (false ∷ bs) = count bs

-- the variables that a path names: those of the sentence's n that occur in it. Row 7 leaves no others.
unfoldable pub named : PathFormula → ℕ → Some
named p n = map (λ i. occurs_from (suc i) p) (below n)

-- v, the number of different variables that occur in a path
unfoldable pub v : PathFormula → ℕ → ℕ
v p n = count (named p n)

-- the states that some variables have in a tuple of all
unfoldable pub chosen : Some → Tuple → Tuple
chosen [] ss = []
chosen (b ∷ bs) [] = []
chosen (true ∷ bs) (s ∷ ss) = s ∷ chosen bs ss
chosen (false ∷ bs) (s ∷ ss) = chosen bs ss

-- the tuple of all in which some variables have these states, and the others those that they have in the tuple s
unfoldable pub placed : Some → (s : Tuple) → (states : Tuple) → Tuple
placed [] ss ts = ss
placed (b ∷ bs) [] ts = []
placed (true ∷ bs) (s ∷ ss) [] = []
placed (true ∷ bs) (s ∷ ss) (t ∷ ts) = t ∷ placed bs ss ts
placed (false ∷ bs) (s ∷ ss) ts = s ∷ placed bs ss ts
