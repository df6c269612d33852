-- Two layers change places.
use Prim.Native.Nat.{ℕ, ◌^◌, ◌<◌}
use mathlib.Core.List.{List}
use mathlib.Core.Path.{sym, ◌∙◌}
use lib.ListN.{drop}
use lib.Seq.{get_or-drop}
use Rattle.meaning.specs.Chain.{Tuple}
use Rattle.layers.specs.Layers.{Layer, Swapped}

-- what the layers hold has changed places with them
module _ {N n T : ℕ} {before after : List ℕ} (few : (k : ℕ) → k < N ^ n → k < T) (s : Swapped T before after) where
  -- what the second layer held is in the front one
  pub front_swapped : (f : Tuple → ℕ) → Layer N n f (drop T before) → Layer N n f after
  front_swapped f h = record { at = λ k l. s.first k (few k l) ∙ sym (get_or-drop T before k 0) ∙ h.at k l }

  -- what the front layer held is in the second
  pub next_swapped : (f : Tuple → ℕ) → Layer N n f before → Layer N n f (drop T after)
  next_swapped f h = record { at = λ k l. get_or-drop T after k 0 ∙ s.second k (few k l) ∙ h.at k l }
