-- A byte of a file at a place that is written in two ways.
use Prim.Native.Nat.{ℕ}
use mathlib.Core.List.{List}
use mathlib.Core.Path.{◌≡◌, ap}
use lib.ListN.{get_or}

pub byte_there : (file : List ℕ) {at there : ℕ} → at ≡ there → get_or file at 0 ≡ get_or file there 0
byte_there file e = ap (λ (k : ℕ). get_or file k 0) e
