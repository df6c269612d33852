-- Working: what the functions of this crate promise one another. Nothing here has to be believed.
--
-- One variable's step at list level, column by column.
use Rattle.std.specs.Prelude.{ℕ, ◌+◌, ◌*◌, ◌/◌, ◌%◌, ◌≤◌, ◌<◌, List, ◌≡◌, length, get_or}
use Rattle.counting.specs.Below.{sum_below}
use Rattle.meaning.specs.Size.{size_limit}
use Rattle.layers.specs.Layers.{RestKept}
use Rattle.counting.specs.Entries.{cell}
use Rattle.layers.specs.Held.{most_states, most_tuples}
use Rattle.row_sums.specs.Columns.{stepped}

-- where the column of place k starts: the place of the tuple in which the variable has state 0
abbrev pub start : (N stride k : ℕ) → ℕ
start N stride k = k / stride / N * (stride * N) + k % stride

-- T places are whole columns of N states, no number is above `bound`, and D times `bound` is at most 2^62 for the sum D
-- of any row
pub record LayerFits (rows : List (List ℕ)) (N stride T : ℕ) (w : List ℕ) : Type 0 where
  pub some : 1 ≤ N
  pub states : N ≤ most_states
  pub apart : 1 ≤ stride
  pub above : ℕ
  pub whole : T ≡ above * N * stride
  pub few : T ≤ most_tuples
  pub room : T ≤ length w
  pub bound : ℕ
  pub small : (k : ℕ) → k < T → get_or w k 0 ≤ bound
  pub fits : (s : ℕ) → s < N → sum_below N (cell rows s) * bound ≤ size_limit

-- every column has been stepped
pub record LayerStepped (rows : List (List ℕ)) (N stride T : ℕ) (before after : List ℕ) : Type 0 where
  pub each : (k : ℕ) → k < T → get_or after k 0 ≡ stepped rows N stride before (start N stride k) (k / stride % N)
  pub kept : RestKept T before after
