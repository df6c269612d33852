-- Entries of tables, and bits of numbers.
use Rattle.std.specs.Prelude.{ℕ, ◌/◌, ◌%◌, ◌^◌, List, [], get_or}

-- the number in row s and column t of a table; 0 past its ends
abbrev pub cell : List (List ℕ) → (s t : ℕ) → ℕ
cell rows s t = get_or (get_or rows s []) t 0

-- bit l of a number: 0 or 1
abbrev pub bit_of : (l x : ℕ) → ℕ
bit_of l x = x / 2 ^ l % 2
