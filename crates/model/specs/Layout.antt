-- Document 01, 'The model file': the layout, said once for reading and writing. `fields_of` takes the fields out of a file,
-- `byte_at` says which byte stands where in the file of a model, and `file_of` is that file.
use Rattle.std.specs.Prelude.{ℕ, zero, suc, ◌+◌, ◌-◌, ◌*◌, ◌/◌, ◌%◌, ◌<◌, cond, List, [], ◌∷◌, ◌++◌, ◌≡◌, ltb, length, get_or}
use Rattle.counting.specs.Below.{table}
use Rattle.counting.specs.Entries.{cell}
use Rattle.block.specs.Block.{byte_of, low_byte, high_byte, two, four, check_of}
use Rattle.model.specs.declared.Model.{Model}

-- ---- the fields of a model

-- the label mask of state s; 0 for a state that the record has no room for
abbrev pub mask_of : Model → ℕ → ℕ
mask_of m s = get_or m.masks s 0

-- the weight from state s to state t, likewise
abbrev pub weight_of : Model → ℕ → ℕ → ℕ
weight_of m = cell m.weights

-- a record as its type has it: 32 masks, 32 rows of 32 weights, each a number of two bytes
pub record Shaped (m : Model) : Type 0 where
  pub masks : length m.masks ≡ 32
  pub rows : length m.weights ≡ 32
  pub row : (s : ℕ) → s < 32 → length (get_or m.weights s []) ≡ 32
  pub mask : (s : ℕ) → mask_of m s < 65536
  pub weight : (s t : ℕ) → weight_of m s t < 65536

-- the model of these fields
abbrev pub model_of : (n a d version : ℕ) → List ℕ → List (List ℕ) → Model
model_of n a d version masks rows =
    record { n = n; a = a; d = d; version = version; masks = masks; weights = rows }

-- ---- where the fields stand

-- the masks stand in block 0 from this byte on, two bytes a state
abbrev pub masks_from : ℕ
masks_from = 8

-- a block from 1 on holds the rows of this many states
abbrev pub states_per_block : ℕ
states_per_block = 7

-- the rows start at this byte of their block
abbrev pub rows_from : ℕ
rows_from = 2

-- a row has this many bytes
abbrev pub row_bytes : ℕ
row_bytes = 64

-- the byte after the rows of a block: bytes 450..509 are zero
abbrev pub rows_end : ℕ
rows_end = 450

-- ---- the fields as they stand in a file

-- the number of two bytes from byte j of block i
abbrev pub two_at : List ℕ → ℕ → ℕ → ℕ
two_at file i j = two (byte_of file i j) (byte_of file i (j + 1))

-- the number of four bytes from there
abbrev pub four_at : List ℕ → ℕ → ℕ → ℕ
four_at file i j = four (byte_of file i j) (byte_of file i (j + 1)) (byte_of file i (j + 2)) (byte_of file i (j + 3))

-- two bytes a state from byte 8 of block 0: its label mask
abbrev pub mask_at : List ℕ → ℕ → ℕ
mask_at file s = two_at file 0 (masks_from + 2 * s)

-- state s stands in block 1 + s / 7, in 64 bytes from 2 + 64 × (s mod 7): 32 weights of two bytes, column t the weight from s to t
abbrev pub weight_at : List ℕ → ℕ → ℕ → ℕ
weight_at file s t = two_at file (1 + s / states_per_block) (rows_from + row_bytes * (s % states_per_block) + 2 * t)

-- byte 1 is N, byte 2 is A, byte 3 is the version, bytes 4..7 are D; rows as they stand
unfoldable pub fields_of : List ℕ → Model
fields_of file = record {
  n = byte_of file 0 1;
  a = byte_of file 0 2;
  d = four_at file 0 4;
  version = byte_of file 0 3;
  masks = table 32 (mask_at file);
  weights = table 32 (λ s. table 32 (weight_at file s));
}

-- ---- the file of a model

-- byte 0 or 1 of a number of two bytes: the low one, then the high one
abbrev pub byte_of_two : ℕ → ℕ → ℕ
byte_of_two x k = cond (ltb k 1) (low_byte x) (high_byte x)

-- block 0 starts: byte 0 is 1, byte 1 is N, byte 2 is A, byte 3 is the version, bytes 4..7 are D
abbrev pub head_start : Model → List ℕ
head_start m =
    1 ∷ m.n ∷ m.a ∷ m.version ∷ low_byte m.d ∷ high_byte m.d ∷ low_byte (m.d / 65536) ∷ high_byte (m.d / 65536) ∷ []

-- byte k of the masks: two bytes a state
abbrev pub mask_byte : Model → ℕ → ℕ
mask_byte m k = byte_of_two (mask_of m (k / 2)) (k % 2)

-- block 0: its start, then from byte 8 the masks; the rest is zero, since no state from 32 on has a mask
unfoldable pub head_byte : Model → ℕ → ℕ
head_byte m j = get_or (head_start m) j (mask_byte m (j - masks_from))

-- byte k of the rows of the states from s on: 64 bytes a state, two bytes a weight
abbrev pub weight_byte : Model → ℕ → ℕ → ℕ
weight_byte m s k = byte_of_two (weight_of m (s + k / row_bytes) (k % row_bytes / 2)) (k % 2)

-- block i, for i = 1, 2, ..: byte 0 is 2, byte 1 is i; then the rows of seven states; bytes 450..509 are zero
unfoldable pub row_byte : Model → ℕ → ℕ → ℕ
row_byte m i j = get_or (2 ∷ i ∷ []) j (cond (ltb j rows_end) (weight_byte m (states_per_block * (i - 1)) (j - rows_from)) 0)

-- byte j of block i, j below 510
unfoldable pub content_byte : Model → ℕ → ℕ → ℕ
content_byte m zero j = head_byte m j
content_byte m (suc i) j = row_byte m (suc i) j

-- bytes 510 and 511 hold the block's check, low byte first
unfoldable pub byte_at : Model → ℕ → ℕ → ℕ
byte_at m i j = cond (ltb j 510) (content_byte m i j) (byte_of_two (check_of (content_byte m i)) (j - 510))

-- all the bytes of block i
unfoldable pub block_bytes : Model → ℕ → List ℕ
block_bytes m i = table 512 (byte_at m i)

-- blocks in all: 1 + N / 7 rounded up
abbrev pub blocks : ℕ → ℕ
blocks n = 1 + (n + 6) / states_per_block

-- the bytes of the blocks below a number, one block after another
unfoldable pub blocks_below : Model → ℕ → List ℕ
blocks_below m zero = []
blocks_below m (suc i) = blocks_below m i ++ block_bytes m i

-- the file of a model
abbrev pub file_of : Model → List ℕ
file_of m = blocks_below m (blocks m.n)
