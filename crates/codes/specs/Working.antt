-- Working: what the functions of this crate promise one another. Nothing here has to be believed.
-- The code of an answer that has a number in the refusal's place.
use Rattle.std.specs.Prelude.{ℕ, ◌+◌, Result, Ok, Err}

-- how many bytes were written, or 2^32 plus the number
abbrev pub code_by_number : Result ℕ ℕ → ℕ
code_by_number (Ok size) = size
code_by_number (Err number) = 4294967296 + number
