-- Numbers in a walk over the nodes: the count falls from two operands to each, some numbers are of 64 bits, and a layer that has room
-- keeps it over a call.
use Prim.Native.Nat.{ℕ, ◌+◌, ◌-◌, ◌*◌, ◌≤◌, ◌<◌}
use mathlib.Core.Path.{◌≡◌}
use native.Mathlib.Omega.{arith}
use mir.Syntax.{w64}
use mir.Val.{Fits}
use Rattle.meaning.specs.Size.{size_limit}

-- from two operands to each
pub to_each : (at next t : ℕ) → 4 * (64 - at) + 2 ≡ t → at ≤ next → 4 * (64 - next) + 1 < t
to_each at next t measure forward = omega arith

-- what is at most 2^62 is a number of 64 bits
pub small_fits : (x : ℕ) → x ≤ size_limit → Fits w64 x
small_fits x h = record { fits = omega arith }

-- room stays over a call, which leaves as many numbers
pub room_kept : {k long before : ℕ} → k ≤ before → long ≡ before → k ≤ long
room_kept h same = omega arith

-- so does room for the front layer
pub front_kept : (T : ℕ) {long before : ℕ} → T + T ≤ before → long ≡ before → T ≤ long
front_kept T h same = omega arith
