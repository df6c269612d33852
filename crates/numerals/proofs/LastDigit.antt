-- The last digit of a number that is written. Assumes nothing.
use Prim.Native.Nat.{ℕ, ◌+◌, ◌*◌, ◌/◌, ◌%◌, ◌≤◌, ◌<◌}
use mathlib.Core.List.{[], ◌∷◌, ◌++◌}
use mathlib.Core.Path.{◌≡◌, sym, ap, ◌∙◌}
use native.Mathlib.Omega.{arith}
use lib.ListN.{length, length-append}
use Rattle.numerals.specs.Numeral.{number_text}
use Rattle.numerals.proofs.Numbers.{digit_more}

-- the digits of a number from ten on: those of its tenth, and the last
pub last_digit : (n : ℕ) → 10 ≤ n → n < 100000 → number_text n ≡ number_text (n / 10) ++ (48 + n % 10) ∷ []
last_digit n l h =
    let e : n / 10 * 10 + n % 10 ≡ n = omega arith in
    ap number_text (sym e) ∙ digit_more (n / 10) (n % 10) (omega arith) (omega arith) (omega arith)

pub last_length : (n : ℕ) → 10 ≤ n → n < 100000 → length (number_text n) ≡ length (number_text (n / 10)) + 1
last_length n l h = ap length (last_digit n l h) ∙ length-append (number_text (n / 10)) ((48 + n % 10) ∷ [])
