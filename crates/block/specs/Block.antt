-- Document 01, 'The model file': blocks of 512 bytes, numbers low byte first, and the block's check.
use Rattle.std.specs.Prelude.{ℕ, ◌+◌, ◌*◌, ◌/◌, ◌%◌, Bool, ◌&&◌, List, eqb, length, get_or}
use Rattle.counting.specs.Below.{sum_below, every_below}

-- byte j of block i, j below 512; past the end of the file it is 0
abbrev pub byte_of : List ℕ → ℕ → ℕ → ℕ
byte_of file i j = get_or file (512 * i + j) 0

-- all numbers are low byte first: the low byte of a number of two bytes
abbrev pub low_byte : ℕ → ℕ
low_byte x = x % 256

-- and its high byte
abbrev pub high_byte : ℕ → ℕ
high_byte x = x / 256 % 256

-- the number of two bytes
abbrev pub two : ℕ → ℕ → ℕ
two low high = low + 256 * high

-- the number of four bytes
abbrev pub four : ℕ → ℕ → ℕ → ℕ → ℕ
four a b c d = two a b + 65536 * two c d

-- the check of a block: the sum over i = 0..509 of (i + 1) × byte i, modulo 65,521
unfoldable pub check_of : (ℕ → ℕ) → ℕ
check_of byte = sum_below 510 (λ i. (i + 1) * byte i) % 65521

-- bytes 510 and 511 hold the block's check, low byte first
abbrev pub check_right : (ℕ → ℕ) → Bool
check_right byte = eqb (byte 510) (low_byte (check_of byte)) && eqb (byte 511) (high_byte (check_of byte))

-- the number of whole blocks of a file
abbrev pub blocks_in : List ℕ → ℕ
blocks_in file = length file / 512

-- every block's check is right
abbrev pub checks_right : List ℕ → Bool
checks_right file = every_below (blocks_in file) (λ i. check_right (byte_of file i))
