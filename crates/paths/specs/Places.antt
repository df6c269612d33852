-- Working: what the functions of this crate promise one another. Nothing here has to be believed.
--
-- Where the numerator call finds what it is asked about: the place of a path formula's node in the record of a sentence, and
-- the place of a tuple in a layer.
use Rattle.std.specs.Prelude.{ℕ, ◌^◌, ◌≤◌, ◌<◌, true, List, Option, None, Some, ◌≡◌, length}
use Rattle.sentence.specs.declared.Node.{Node}
use Rattle.meaning.proofs.Numbers.{tuple_of}
use Rattle.layers.specs.Held.{most_states, most_variables}
use Rattle.trees.specs.Listed.{starts_path}
use Rattle.trees.specs.Standing.{node_at}
use Rattle.trees.specs.Numbered.{paths_below}
use Rattle.paths.specs.Tuples.{members_below}

-- the place of the path formula with the number `path` among the nodes: one where a path starts with so many before it; or
-- none, if no more than `path` start
pub data PathPlace (nodes : List Node) (path : ℕ) : Option ℕ → Type 0 where
  here : {at : ℕ} → at < length nodes → starts_path (node_at nodes at) ≡ true → paths_below nodes at ≡ path →
      PathPlace nodes path (Some at)
  none : paths_below nodes (length nodes) ≤ path → PathPlace nodes path None

-- a tuple of at most four of at most 32 states
pub record TupleReady (N : ℕ) (s : List ℕ) : Type 0 where
  pub few : length s ≤ most_variables
  pub states : N ≤ most_states
  pub below : members_below N s ≡ true

-- the number of the tuple: it is one of the T = N ^ n numbers, and the tuple with this number is the tuple
pub record TuplePlace (N : ℕ) (s : List ℕ) (r : ℕ) : Type 0 where
  pub inside : r < N ^ length s
  pub same : tuple_of N (length s) r ≡ s
