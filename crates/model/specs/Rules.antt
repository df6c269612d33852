-- Document 01, 'The model file': what the layout asks of the fields of a model, and of a file. A row here is a state's row of
-- weights. specs/Words says the same of a file byte by byte, in the document's own words (proofs/Words proves it).
use Rattle.std.specs.Prelude.{ℕ, ◌^◌, ◌%◌, Bool, ◌&&◌, ◌||◌, List, ltb, leb, eqb, length}
use Rattle.counting.specs.Below.{sum_below, every_below}
use Rattle.block.specs.Block.{byte_of, blocks_in}
use Rattle.model.specs.declared.Model.{Model}
use Rattle.model.specs.Layout.{mask_of, weight_of, content_byte, blocks}

-- x is one of low..high
abbrev pub within : ℕ → ℕ → ℕ → Bool
within low high x = leb low x && leb x high

-- N is 1..32 states, A is 1..16 labels, D is 1..65,535, the version is 0 or 1
abbrev pub numbers_right : Model → Bool
numbers_right m = within 1 32 m.n && within 1 16 m.a && within 1 65535 m.d && leb m.version 1

-- a state's mask has its bits A and up zero; from N on it is zero
abbrev pub mask_right : Model → ℕ → Bool
mask_right m s = (ltb s m.n && ltb (mask_of m s) (2 ^ m.a)) || eqb (mask_of m s) 0

-- columns and rows from N on are zero
abbrev pub weight_right : Model → ℕ → ℕ → Bool
weight_right m s t = (ltb s m.n && ltb t m.n) || eqb (weight_of m s t) 0

-- N, A, D and the version, every mask and every weight are right
unfoldable pub fields_right : Model → Bool
fields_right m = numbers_right m && every_below 32 (mask_right m) && every_below 32 (λ s. every_below 32 (weight_right m s))

-- the row of state s adds up to D
abbrev pub adds_up : Model → ℕ → Bool
adds_up m s = eqb (sum_below 32 (weight_of m s)) m.d

-- the row of state s is zero in all its weights
abbrev pub empty_row : Model → ℕ → Bool
empty_row m s = every_below 32 (λ t. eqb (weight_of m s t) 0)

-- a halted state: one of the N states, in version 1, with an empty row
abbrev pub halted : Model → ℕ → Bool
halted m s = ltb s m.n && eqb m.version 1 && empty_row m s

-- the row of every state below N adds up to D; a halted state's row need not
unfoldable pub rows_right : Model → Bool
rows_right m = every_below 32 (λ s. leb m.n s || adds_up m s || halted m s)

-- the length is a multiple of 512 in 512..3,072
unfoldable pub length_right : List ℕ → Bool
length_right file = eqb (length file % 512) 0 && within 512 3072 (length file)

-- the fields are right, the number of blocks is that of N, and every byte before the checks stands as the layout has it
unfoldable pub laid_out : List ℕ → Model → Bool
laid_out file m =
    fields_right m && eqb (blocks_in file) (blocks m.n) &&
    every_below (blocks_in file) (λ i. every_below 510 (λ j. eqb (byte_of file i j) (content_byte m i j)))
