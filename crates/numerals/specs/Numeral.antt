-- Document 01, 'The sentence text': a number is one to five digits, with no leading zero unless it is `0`. Bytes are ASCII.
use Rattle.std.specs.Prelude.{ℕ, zero, suc, ◌+◌, ◌/◌, ◌%◌, cond, List, [], ◌∷◌, ◌++◌, ltb}
use Rattle.counting.specs.Ascii.{byte}

-- the decimal digits of n if it has at most k of them, else its last k
unfoldable pub digits : ℕ → ℕ → List ℕ
digits zero n = []
digits (suc k) n = cond (ltb n 10) ((byte "0" + n) ∷ []) (digits k (n / 10) ++ (byte "0" + n % 10) ∷ [])

-- a number below 100,000 as it is written: one to five digits, with no leading zero unless it is `0`
unfoldable pub number_text : ℕ → List ℕ
unfolding digits
number_text n = digits 5 n
