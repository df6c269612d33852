-- Working: what the functions of this crate promise one another. Nothing here has to be believed.
--
-- The variables named at the places of a sentence's record, from one place up to another.
use Rattle.std.specs.Prelude.{ℕ, ◌-◌, Bool, false, List, [], ◌∷◌, eqb, take, drop}
use Rattle.std.specs.List.{list_any}
use Rattle.sentence.specs.declared.Node.{Node}
use Rattle.sentence.specs.declared.Node.TheVariants.{Label}

-- the node is a label of the variable i
abbrev pub mentions : ℕ → Node → Bool
mentions i (Label l j) = eqb i j
mentions i _ = false

-- one of the places p..q has such a label, the last not among them
abbrev pub mentioned : ℕ → List Node → (p q : ℕ) → Bool
mentioned i nodes p q = list_any (mentions i) (take (q - p) (drop p nodes))

-- the variables named there: a yes or no for each of the four that a sentence can have
abbrev pub names_between : List Node → (p q : ℕ) → List Bool
names_between nodes p q = mentioned 1 nodes p q ∷ mentioned 2 nodes p q ∷ mentioned 3 nodes p q ∷ mentioned 4 nodes p q ∷ []
