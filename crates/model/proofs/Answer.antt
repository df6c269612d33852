-- The number of the rows, test by test, for read model and write model; and read model's contract from that number.
use Prim.Native.Nat.{ℕ, ◌*◌, ◌<◌, ◌≤◌}
use mathlib.Core.List.{List}
use mathlib.Core.Path.{◌≡◌, refl, sym, ap, ◌∙◌}
use mathlib.Core.Bool.{true, false, not}
use Rattle.refusal.proofs.Laws.{in_order, first_here, first_later, first_none}
use Rattle.block.specs.Block.{checks_right}
use Rattle.std.specs.Prelude.{Result, Ok, Err}
use Rattle.refusal.specs.declared.Refusal.{Refusal}
use Rattle.refusal.specs.Answers.{gives, number_in, number_of, reply_of}
use Rattle.refusal.specs.Rows.{Ascending}
use Rattle.refusal.proofs.Ensuring.{right_of, answer_told}
use Rattle.refusal.proofs.Listed.{none_applies, list_number, reads_refused, reads_done}
use borrow.Author.Tests.{lt-ltb, le-ltb}
use Rattle.model.specs.declared.Model.{Model}
use Rattle.model.specs.Layout.{fields_of, blocks}
use Rattle.model.specs.Rules.{length_right, fields_right, laid_out, rows_right}
use Rattle.model.specs.Contract.{file_rows, file_number, record_rows, record_number, ReadModelEnsures}

-- ---- the number, test by test

module _ (file : List ℕ) where
  pub number_2 : length_right file ≡ false → file_number file ≡ 2
  unfolding file_number
  number_2 e = first_here 2 _ (ap not e)

  pub number_3 : length_right file ≡ true → checks_right file ≡ false → file_number file ≡ 3
  unfolding file_number
  number_3 a e = first_later 2 _ (ap not a) ∙ first_here 3 _ (ap not e)

  pub number_4 : length_right file ≡ true → checks_right file ≡ true → laid_out file (fields_of file) ≡ false → file_number file ≡ 4
  unfolding file_number
  number_4 a b e = first_later 2 _ (ap not a) ∙ first_later 3 _ (ap not b) ∙ first_here 4 _ (ap not e)

  pub number_5 : length_right file ≡ true → checks_right file ≡ true → laid_out file (fields_of file) ≡ true →
      rows_right (fields_of file) ≡ false → file_number file ≡ 5
  unfolding file_number
  number_5 a b d e = first_later 2 _ (ap not a) ∙ first_later 3 _ (ap not b) ∙ first_later 4 _ (ap not d) ∙ first_here 5 _ (ap not e)

  pub number_0 : length_right file ≡ true → checks_right file ≡ true → laid_out file (fields_of file) ≡ true →
      rows_right (fields_of file) ≡ true → file_number file ≡ 0
  unfolding file_number
  number_0 a b d e =
      first_later 2 _ (ap not a) ∙ first_later 3 _ (ap not b) ∙ first_later 4 _ (ap not d) ∙ first_later 5 _ (ap not e) ∙ first_none

module _ (m : Model) (room : ℕ) where
  pub record_4 : fields_right m ≡ false → record_number m room ≡ 4
  unfolding record_number
  record_4 e = first_here 4 _ (ap not e)

  pub record_5 : fields_right m ≡ true → rows_right m ≡ false → record_number m room ≡ 5
  unfolding record_number
  record_5 a e = first_later 4 _ (ap not a) ∙ first_here 5 _ (ap not e)

  pub record_14 : fields_right m ≡ true → rows_right m ≡ true → room < 512 * blocks m.n → record_number m room ≡ 14
  unfolding record_number
  record_14 a b e = first_later 4 _ (ap not a) ∙ first_later 5 _ (ap not b) ∙ first_here 14 _ (lt-ltb room (512 * blocks m.n) e)

  pub record_0 : fields_right m ≡ true → rows_right m ≡ true → 512 * blocks m.n ≤ room → record_number m room ≡ 0
  unfolding record_number
  record_0 a b e =
      first_later 4 _ (ap not a) ∙ first_later 5 _ (ap not b) ∙ first_later 14 _ (le-ltb room (512 * blocks m.n) e) ∙ first_none

-- ---- the rows stand in the order of their numbers

pub file_rows_ascend : (file : List ℕ) → Ascending 0 (file_rows file)
file_rows_ascend file = in_order 0 (file_rows file) refl

pub record_rows_ascend : (m : Model) (room : ℕ) → Ascending 0 (record_rows m room)
record_rows_ascend m room = in_order 0 (record_rows m room) refl

-- ---- the contract, from the number

-- a refusal
pub read_refused : (file : List ℕ) {r : Result Model Refusal} (x : Refusal) → file_number file ≡ number_of x → r ≡ Err x →
    ReadModelEnsures file r
unfolding file_number
read_refused file x = reads_refused (file_rows_ascend file) x

-- an answer
pub read_done : (file : List ℕ) {r : Result Model Refusal} → file_number file ≡ 0 → r ≡ Ok (fields_of file) → ReadModelEnsures file r
unfolding file_number
read_done file e a = reads_done (file_rows_ascend file) e a refl

-- ---- and back

-- the number that the reader answers
pub read_number : (file : List ℕ) {r : Result Model Refusal} → ReadModelEnsures file r → number_in (reply_of r) ≡ file_number file
unfolding file_number
read_number file reads = list_number (file_rows_ascend file) reads.ensured

-- a refusal of the reader: it is the rows' number
pub read_refusal : (file : List ℕ) {r : Result Model Refusal} {x : Refusal} → ReadModelEnsures file r → r ≡ Err x →
    file_number file ≡ number_of x
read_refusal file reads e = sym (read_number file reads) ∙ ap (λ (r : Result Model Refusal). number_in (reply_of r)) e

-- the model of an accepted file
pub read_value : (file : List ℕ) {r : Result Model Refusal} → ReadModelEnsures file r → file_number file ≡ 0 → r ≡ Ok (fields_of file)
unfolding file_number
read_value file {r} reads e =
    let given = right_of (none_applies (file_rows_ascend file) e) reads.ensured in
    answer_told r (Ok (fields_of file)) (given.1 ∙ ap gives given.2)
