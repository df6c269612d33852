-- Working: what the functions of this crate promise one another. Nothing here has to be believed.
--
-- The quantifier descent over a layer of truths: what it asks, and what it returns.
use Rattle.std.specs.Prelude.{ℕ, ◌+◌, ◌*◌, ◌^◌, ◌≤◌, Bool, not, List, [], ◌∷◌, eqb, length, get_or}
use Rattle.meaning.specs.Lists.{below}
use Rattle.meaning.specs.Tree.{Letter}
use Rattle.meaning.specs.Meaning.{ranges}
use Rattle.layers.specs.Held.{most_states, most_variables}

-- the truth at a place of the layer
abbrev pub met_at : List ℕ → ℕ → Bool
met_at w k = not (eqb (get_or w k 0) 0)

-- the letters that are left range over all N states, the first outermost; `base` is the number of the states fixed so far
unfoldable pub descended : ℕ → List Letter → ℕ → List ℕ → Bool
descended N [] base w = met_at w base
descended N (letter ∷ letters) base w = ranges letter (λ s. descended N letters (base * N + s) w) (below N)

-- there are at most four letters, and the places of all tuples that begin with the states fixed so far lie in the layer
pub record DescentReady (letters : List Bool) (N base : ℕ) (w : List ℕ) : Type 0 where
  pub few : length letters ≤ most_variables
  pub states : N ≤ most_states
  pub room : (base + 1) * N ^ length letters ≤ length w
  pub small : length w ≤ 65536
