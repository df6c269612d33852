-- The bytes of a prefix: letters and a dot. A text has one prefix. Assumes nothing.
use Prim.Native.Nat.{ℕ, ◌≤◌}
use mathlib.Core.Bool.{Bool, true, false}
use mathlib.Core.List.{List, [], ◌∷◌, ◌++◌, map, tail}
use mathlib.Core.Path.{◌≡◌, refl, ap}
use native.Mathlib.Omega.{arith}
use Rattle.numerals.proofs.Numbers.{first_byte}
use Rattle.sentence.specs.Grammar.{letter_byte}

-- a letter's byte is no dot
pub letter_low : (x : Bool) → 65 ≤ letter_byte x
letter_low true = omega arith
letter_low false = omega arith

-- a text has one prefix, and one text after it
letter_one : (x y : Bool) → letter_byte x ≡ letter_byte y → x ≡ y
letter_one true true e = refl
letter_one false false e = refl
letter_one true false e = absurd (omega arith)
letter_one false true e = absurd (omega arith)

pub one_prefix : (ps qs : List Bool) (r s : List ℕ) → map letter_byte ps ++ 46 ∷ r ≡ map letter_byte qs ++ 46 ∷ s → (ps ≡ qs) × (r ≡ s)
one_prefix [] [] r s same = (refl, ap tail same)
one_prefix [] (y ∷ qs) r s same = absurd (omega (arith, ap first_byte same, letter_low y))
one_prefix (x ∷ ps) [] r s same = absurd (omega (arith, ap first_byte same, letter_low x))
one_prefix (x ∷ ps) (y ∷ qs) r s same =
    let more = one_prefix ps qs r s (ap tail same) in
    let head : x ≡ y = letter_one x y (ap first_byte same) in
    (cc (head, more.0), more.1)
