-- Working: what the functions of this crate promise one another. Nothing here has to be believed.
--
-- The weights of a row that are not 0, by the states to which they lead.
use Rattle.std.specs.Prelude.{ℕ, ◌+◌, ◌*◌, ◌≤◌, ◌<◌, List, [], ◌≡◌, length, get_or}
use Rattle.counting.specs.Below.{sum_below}
use Rattle.layers.specs.Held.{most_states}

-- the places of a row
abbrev pub places_in_row : ℕ
places_in_row = 8

-- the most of them that are used
abbrev pub most_named : ℕ
most_named = 7

-- the weight that place i names, times g of its state
abbrev pub named_at : (row places : List ℕ) → (ℕ → ℕ) → ℕ → ℕ
named_at row places g i = get_or row (get_or places i 0) 0 * g (get_or places i 0)

-- the products of places i and i + 1 with a column
abbrev pub products_at : (row places column : List ℕ) → ℕ → ℕ
products_at row places column i =
    named_at row places (λ t. get_or column t 0) i + named_at row places (λ t. get_or column t 0) (i + 1)

-- the most pairs of places
abbrev pub most_pairs : ℕ
most_pairs = 4

-- the weights to the states below t that are not 0 are named by the first `count` places, once each; the other
-- places name a weight that is 0
pub record Naming (row : List ℕ) (t count : ℕ) (places : List ℕ) : Type 0 where
  pub long : length places ≡ places_in_row
  pub inside : (i : ℕ) → i < places_in_row → get_or places i 0 < most_states
  pub few : count ≤ most_named
  pub rest : (i : ℕ) → count ≤ i → i < places_in_row → get_or row (get_or places i 0) 0 ≡ 0
  pub each : (g : ℕ → ℕ) → sum_below count (named_at row places g) ≡ sum_below t (λ s. get_or row s 0 * g s)

-- a sum over the row is the sum over its first `most` places, or over more of them
pub record Named (row : List ℕ) (N most : ℕ) (places : List ℕ) : Type 0 where
  pub inside : (i : ℕ) → i < places_in_row → get_or places i 0 < most_states
  pub each : (g : ℕ → ℕ) (m : ℕ) → most ≤ m → m ≤ places_in_row →
      sum_below m (named_at row places g) ≡ sum_below N (λ t. get_or row t 0 * g t)

-- the same for each row
pub record RowsNamed (rows : List (List ℕ)) (N most : ℕ) (places : List (List ℕ)) : Type 0 where
  pub some : 1 ≤ most
  pub few : most ≤ most_named
  pub each : (s : ℕ) → s < N → Named (get_or rows s []) N most (get_or places s [])

-- the same by that many pairs of places
pub record RowsPaired (rows : List (List ℕ)) (N pairs : ℕ) (places : List (List ℕ)) : Type 0 where
  pub some : 1 ≤ pairs
  pub few : pairs ≤ most_pairs
  pub each : (s : ℕ) → s < N → Named (get_or rows s []) N (2 * pairs) (get_or places s [])

-- what a contract sees of the rows: the weights, and how many states there are
pub record Matrix : Type 0 where
  pub weights : List (List ℕ)
  pub states : ℕ
