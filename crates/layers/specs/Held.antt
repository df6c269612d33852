-- Working: what the functions of this crate promise one another. Nothing here has to be believed.
--
-- What a layer is over: the matrix of a chain, and how many states and tuples there are. And the layer of a label.
use Rattle.std.specs.Prelude.{ℕ, ◌^◌, ◌≤◌, ◌<◌, List, ◌≡◌, eqb, length}
use Rattle.counting.specs.Entries.{cell}
use Rattle.meaning.specs.Chain.{Chain, Sound}
use Rattle.meaning.specs.Meaning.{has_label}
use Rattle.layers.specs.Layers.{Layer, truth, bit_at}

-- states of a model: more are refused as 4
abbrev pub most_states : ℕ
most_states = 32

-- variables of a sentence: no text has more letters
abbrev pub most_variables : ℕ
most_variables = 4

-- tuples: more are refused as 11
abbrev pub most_tuples : ℕ
most_tuples = 1024

-- the matrix holds the weights of the chain, whose states are N
pub record Holds (c : Chain) (rows : List (List ℕ)) (N : ℕ) : Type 0 where
  pub states : c.N ≡ N
  pub weights : (s t : ℕ) → s < N → t < N → cell rows s t ≡ c.weight s t
  pub sound : Sound c

-- N is 1..32, and the T = N^n tuples are at most 1,024
pub record LayerSizes (N n T : ℕ) : Type 0 where
  pub some : 1 ≤ N
  pub states : N ≤ most_states
  pub whole : T ≡ N ^ n
  pub few : T ≤ most_tuples

-- the label letter and the variable are in their ranges, and there is room for a layer
pub record LabelReady (N n T l variable : ℕ) (w : List ℕ) : Type 0 where
  pub letter : l < 16
  pub some : 1 ≤ variable
  pub bound : variable ≤ n
  pub sizes : LayerSizes N n T
  pub room : T ≤ length w

-- the front layer holds the truth of the label, on whatever chain has the masks' labels
pub record LabelDone (N n : ℕ) (masks : List ℕ) (l variable : ℕ) (after : List ℕ) : Type 0 where
  pub each : (c : Chain) → ((s : ℕ) → s < N → c.label l s ≡ eqb (bit_at masks l s) 1) →
      Layer N n (truth (has_label c l variable)) after
