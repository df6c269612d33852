-- Document 01, 'The model file', byte by byte in its own words, with T-05's byte 3 and empty rows: what refusals 4 and 5 ask of a file.
-- `laid_out` of Rules says the first by comparing the file with the one that its fields make, `rows_right` says the second of the fields;
-- that they do is proved (proofs/Words).
use Rattle.std.specs.Prelude.{ℕ, ◌+◌, ◌-◌, ◌*◌, ◌/◌, ◌^◌, ◌≤◌, ◌<◌, List, ◌⊎◌, ◌≡◌}
use Rattle.counting.specs.Below.{sum_below}
use Rattle.block.specs.Block.{byte_of, blocks_in}
use Rattle.model.specs.Layout.{four_at, mask_at, weight_at}

-- byte 1 of block 0 is N, byte 2 is A, byte 3 is the version, bytes 4..7 are D
abbrev pub N : List ℕ → ℕ
N file = byte_of file 0 1

abbrev pub A : List ℕ → ℕ
A file = byte_of file 0 2

abbrev pub version_of : List ℕ → ℕ
version_of file = byte_of file 0 3

abbrev pub D : List ℕ → ℕ
D file = four_at file 0 4

-- the file is laid out as the document says
pub record LaidOut (file : List ℕ) : Type 0 where
  -- Block 0: byte 0 is 1; byte 1 is N, 1..32 states; byte 2 is A, 1..16 labels; byte 3 is the version, 0 or 1; bytes 4..7 are D,
  -- 1..65,535.
  pub first : byte_of file 0 0 ≡ 1
  pub states : (1 ≤ N file) × (N file ≤ 32)
  pub labels : (1 ≤ A file) × (A file ≤ 16)
  pub version : version_of file ≤ 1
  pub sums : (1 ≤ D file) × (D file ≤ 65535)
  -- Two bytes a state from byte 8: its label mask, bit l for label l, bits A and up zero. The rest to 509 is zero.
  pub masks : (s : ℕ) → s < N file → mask_at file s < 2 ^ A file
  pub rest : (j : ℕ) → 8 + 2 * N file ≤ j → j < 510 → byte_of file 0 j ≡ 0
  -- Block i, for i = 1, 2, ..: byte 0 is 2, byte 1 is i.
  pub marks : (i : ℕ) → 1 ≤ i → i < blocks_in file → (byte_of file i 0 ≡ 2) × (byte_of file i 1 ≡ i)
  -- Columns and rows from N on are zero, and so are bytes 450..509.
  pub weights : (s t : ℕ) → s < 7 * (blocks_in file - 1) → t < 32 → (N file ≤ s) ⊎ (N file ≤ t) → weight_at file s t ≡ 0
  pub ends : (i j : ℕ) → 1 ≤ i → i < blocks_in file → 450 ≤ j → j < 510 → byte_of file i j ≡ 0
  -- Blocks in all: 1 + N / 7 rounded up.
  pub count : blocks_in file ≡ 1 + (N file + 6) / 7

-- Every state's weights add up to D; in version 1 a row may instead be zero in all its weights.
abbrev pub AddUp : List ℕ → Type 0
AddUp file =
    (s : ℕ) → s < N file → (sum_below 32 (weight_at file s) ≡ D file) ⊎
    ((version_of file ≡ 1) × ((t : ℕ) → t < 32 → weight_at file s t ≡ 0))
