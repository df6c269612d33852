-- Working: what the functions of this crate promise one another. Nothing here has to be believed.
--
-- An until over three layers: the truth of the first formula, the truth of the second, and one layer to compute in.
use Rattle.std.specs.Prelude.{ℕ, ◌+◌, ◌*◌, ◌^◌, ◌≤◌, ◌<◌, Bool, false, cond, not, ◌&&◌, List, ◌++◌, ◌≡◌, eqb, length, get_or, drop}
use Rattle.meaning.specs.Chain.{Chain, Tuple}
use Rattle.meaning.specs.Named.{Some, count, chosen}
use Rattle.meaning.specs.Meaning.{until_takes, taken_weight, beside}
use Rattle.meaning.proofs.Numbers.{tuple_of}
use Rattle.meaning.proofs.Steps.{steps}
use Rattle.meaning.specs.Size.{size_limit}
use Rattle.layers.specs.Layers.{Layer, truth, RestKept}
use Rattle.layers.specs.Held.{most_variables, Holds, LayerSizes}
use Rattle.steps.specs.Steps.{StepFits}

-- all runs where the window is open and the second formula is met; else the number that stands, where the first is met
abbrev pub choice : (opened : Bool) → (all first second number : ℕ) → ℕ
choice opened all first second number = cond (opened && not (eqb second 0)) all (cond (eqb first 0) 0 number)

-- the choice at place k, from the numbers of the three layers
abbrev pub choice_at : (opened : Bool) → (all T : ℕ) → List ℕ → ℕ → ℕ
choice_at opened all T w k = choice opened all (get_or w k 0) (get_or w (T + k) 0) (get_or w (T + T + k) 0)

-- there are three layers, and the third can be stepped
pub record TurnFits (rows : List (List ℕ)) (N n : ℕ) (those : Some) (T : ℕ) (w : List ℕ) : Type 0 where
  pub room : T + T + T ≤ length w
  pub step : StepFits rows N n those T (drop (T + T) w)

-- the third layer has been stepped, and then the choice made by the first two; no other number has changed
pub record Turned (rows : List (List ℕ)) (N n : ℕ) (those : Some) (T : ℕ) (opened : Bool) (all : ℕ) (before after : List ℕ) : Type 0 where
  pub long : length after ≡ length before
  pub low : (k : ℕ) → k < T + T → get_or after k 0 ≡ get_or before k 0
  pub high : (k : ℕ) → T + T + T ≤ k → get_or after k 0 ≡ get_or before k 0
  pub each : (c : Chain) → Holds c rows N → (f : Tuple → ℕ) → Layer N n f (drop (T + T) before) →
      (k : ℕ) → k < N ^ n →
      get_or after (T + T + k) 0 ≡
      choice opened all (get_or before k 0) (get_or before (T + k) 0) (steps c those f (tuple_of N n k))

-- the matrix holds a chain with this D, v of the n variables move, there are three layers, the second holds ones and zeros, and the
-- denominator is at most 2^62
pub record UntilFits (rows : List (List ℕ)) (N n : ℕ) (those : Some) (v T d k1 k2 : ℕ) (w : List ℕ) : Type 0 where
  pub chain : Chain
  pub holds : Holds chain rows N
  pub weighed : 1 ≤ d
  pub sums : chain.D ≡ d
  pub sizes : LayerSizes N n T
  pub room : T + T + T ≤ length w
  pub ones : (k : ℕ) → k < T → get_or w (T + k) 0 ≤ 1
  pub window : k1 ≤ k2
  pub few : n ≤ most_variables
  pub each : length those ≡ n
  pub counted : v ≡ count those
  pub fits : d ^ (count those * k2) ≤ size_limit

-- where the two layers held the truth of two formulas, the front layer holds the total weight of the runs of those variables that their
-- until takes; the second and the third may have changed, and what lies past them has stayed
pub record UntilTaken (rows : List (List ℕ)) (N n : ℕ) (those : Some) (T d k1 k2 : ℕ) (before after : List ℕ) : Type 0 where
  pub each : (c : Chain) → Holds c rows N → c.D ≡ d → (first second : Tuple → Bool) →
      Layer N n (truth first) before → Layer N n (truth second) (drop T before) →
      Layer N n
      (λ s. taken_weight c (count those) k2 (until_takes (beside those s first) (beside those s second) k1 k2) (chosen those s)) after
  pub kept : RestKept (T + T + T) before after

-- the first variables do not move
pub record FromFirst (moving : Some) (first : ℕ) : Type 0 where
  pub up_to : first ≤ length moving
  pub quiet : (i : ℕ) → i < first → get_or moving i false ≡ false

-- a test that does not look at variables before the first that moves
abbrev pub Overlooks : Some → (Tuple → Bool) → Type 0
Overlooks those test =
    (a b t : Tuple) → length a ≡ length b → length a ≤ length those → ((i : ℕ) → i < length a → get_or those i false ≡ false) →
    test (a ++ t) ≡ test (b ++ t)

-- the same as `UntilTaken`, of tests that overlook those variables
pub record UntilRepeated (rows : List (List ℕ)) (N n : ℕ) (those : Some) (T d k1 k2 : ℕ) (before after : List ℕ) : Type 0 where
  pub each : (c : Chain) → Holds c rows N → c.D ≡ d → (first second : Tuple → Bool) → Overlooks those first → Overlooks those second →
      Layer N n (truth first) before → Layer N n (truth second) (drop T before) →
      Layer N n
      (λ s. taken_weight c (count those) k2 (until_takes (beside those s first) (beside those s second) k1 k2) (chosen those s)) after
  pub kept : RestKept (T + T + T) before after
