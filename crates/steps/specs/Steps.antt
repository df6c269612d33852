-- Working: what the functions of this crate promise one another. Nothing here has to be believed.
--
-- A joint step of some variables, over a whole layer: what it asks, and what it makes of any function that the layer held.
use Rattle.std.specs.Prelude.{ℕ, ◌*◌, ◌^◌, ◌≤◌, ◌<◌, List, ◌≡◌, length, get_or}
use Rattle.meaning.specs.Chain.{Chain, Tuple}
use Rattle.meaning.specs.Named.{Some, count}
use Rattle.meaning.proofs.Steps.{steps}
use Rattle.meaning.specs.Size.{size_limit}
use Rattle.layers.specs.Layers.{Layer, RestKept}
use Rattle.layers.specs.Held.{most_variables, Holds, LayerSizes}

-- the matrix holds a chain, those that move are some of n variables, the layer lies in the list, and its numbers, none above `bound`,
-- times D^v are at most 2^62
pub record StepFits (rows : List (List ℕ)) (N n : ℕ) (those : Some) (T : ℕ) (w : List ℕ) : Type 0 where
  pub chain : Chain
  pub holds : Holds chain rows N
  pub weighed : 1 ≤ chain.D
  pub sizes : LayerSizes N n T
  pub few : n ≤ most_variables
  pub each : length those ≡ n
  pub room : T ≤ length w
  pub bound : ℕ
  pub small : (k : ℕ) → k < T → get_or w k 0 ≤ bound
  pub fits : chain.D ^ count those * bound ≤ size_limit

-- the layer of any function is now the layer of its step, and what lies past it has stayed
pub record Stepped (rows : List (List ℕ)) (N n : ℕ) (those : Some) (T : ℕ) (before after : List ℕ) : Type 0 where
  pub each : (c : Chain) → Holds c rows N → (f : Tuple → ℕ) → Layer N n f before → Layer N n (steps c those f) after
  pub kept : RestKept T before after
