-- The bytes of a number, low byte first, as the library's `to_le_bytes` gives them.
use Prim.Native.Nat.{ℕ, ◌/◌}
use mathlib.Core.List.{List}
use mathlib.Core.Path.{◌≡◌, ap, ◌∙◌}
use native.Mathlib.Omega.{arith}
use mir.Syntax.{w16, w32}
use lib.ListN.{get_or}
use Rattle.std.specs.Int.{to_le_bytes}
use Rattle.block.specs.Block.{low_byte, high_byte}

-- of a number of two bytes
module _ {bytes : List ℕ} (x : ℕ) (e : bytes ≡ to_le_bytes w16 x) where
  pub low_of_two : get_or bytes 0 0 ≡ low_byte x
  low_of_two = ap (λ (l : List ℕ). get_or l 0 0) e ∙ omega arith

  pub high_of_two : get_or bytes 1 0 ≡ high_byte x
  high_of_two = ap (λ (l : List ℕ). get_or l 1 0) e ∙ omega arith

-- of a number of four bytes
module _ {bytes : List ℕ} (x : ℕ) (e : bytes ≡ to_le_bytes w32 x) where
  pub byte_0 : get_or bytes 0 0 ≡ low_byte x
  byte_0 = ap (λ (l : List ℕ). get_or l 0 0) e ∙ omega arith

  pub byte_1 : get_or bytes 1 0 ≡ high_byte x
  byte_1 = ap (λ (l : List ℕ). get_or l 1 0) e ∙ omega arith

  pub byte_2 : get_or bytes 2 0 ≡ low_byte (x / 65536)
  byte_2 = ap (λ (l : List ℕ). get_or l 2 0) e ∙ omega arith

  pub byte_3 : get_or bytes 3 0 ≡ high_byte (x / 65536)
  byte_3 = ap (λ (l : List ℕ). get_or l 3 0) e ∙ omega arith
