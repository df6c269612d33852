-- Working: what the functions of this crate promise one another. Nothing here has to be believed.
--
-- One column of a layer: the numbers of the tuples that differ in one variable alone are N places `stride` apart.
use Rattle.std.specs.Prelude.{ℕ, ◌+◌, ◌*◌, ◌≤◌, ◌<◌, List, ◌≡◌, length, get_or}
use Rattle.counting.specs.Below.{sum_below}
use Rattle.meaning.specs.Size.{size_limit}
use Rattle.counting.specs.Entries.{cell}
use Rattle.layers.specs.Held.{most_states}

-- over all states t, the weight from s to t times the column's number at t; the column starts at `at`
abbrev pub stepped : List (List ℕ) → (N stride : ℕ) → List ℕ → (at s : ℕ) → ℕ
stepped rows N stride w at s = sum_below N (λ t. cell rows s t * get_or w (at + t * stride) 0)

-- a column lies in the list
pub record ColumnIn (N stride at : ℕ) (w : List ℕ) : Type 0 where
  pub states : N ≤ most_states
  pub near : at + N * stride ≤ 4096
  pub inside : (s : ℕ) → s < N → at + s * stride < length w

-- the column's numbers have been copied
pub record ColumnRead (N stride at : ℕ) (w column : List ℕ) : Type 0 where
  pub long : length column ≡ most_states
  pub each : (s : ℕ) → s < N → get_or column s 0 ≡ get_or w (at + s * stride) 0

-- a column lies in the list, and no sum of its step is above 2^62
pub record ColumnFits (rows : List (List ℕ)) (N stride at : ℕ) (w : List ℕ) : Type 0 where
  pub lies : ColumnIn N stride at w
  pub apart : 1 ≤ stride
  pub fits : (s : ℕ) → s < N → stepped rows N stride w at s ≤ size_limit

-- the column has been stepped, and no other number has changed
pub record ColumnStepped (rows : List (List ℕ)) (N stride at : ℕ) (before after : List ℕ) : Type 0 where
  pub long : length after ≡ length before
  pub each : (s : ℕ) → s < N → get_or after (at + s * stride) 0 ≡ stepped rows N stride before at s
  pub same : (k : ℕ) → ((s : ℕ) → s < N → k ≡ at + s * stride → ⊥) → get_or after k 0 ≡ get_or before k 0
