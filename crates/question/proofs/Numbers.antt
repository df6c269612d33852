-- The smallest number that applies, stage by stage: what is left of the rows where those before do not apply.
use Prim.Native.Nat.{ℕ, zero, suc, ◌^◌, ◌≤◌}
use mathlib.Core.List.{List}
use mathlib.Core.Path.{◌≡◌, subst}
use native.Mathlib.Omega.{arith}
use Rattle.refusal.specs.Rows.{Applies, here, later, Decided, by_row, by_none, Given}
use Rattle.model.specs.Contract.{file_rows, file_number}
use Rattle.model.proofs.Theorems.{read_smallest}
use Rattle.sentence_reader.specs.Contract.{ReadRow, outside, long, range, many}
use Rattle.question.specs.Contract.{QuestionRow, model, sentence, labels, size, tuples}

-- the numbers of a file's rows, and of a text's
pub file_number_bounds : (file : List ℕ) {n : ℕ} → Applies n (file_rows file) → (2 ≤ n) × (n ≤ 5)
file_number_bounds file (here e a) = (omega arith, omega arith)
file_number_bounds file (later (here e a)) = (omega arith, omega arith)
file_number_bounds file (later (later (here e a))) = (omega arith, omega arith)
file_number_bounds file (later (later (later (here e a)))) = (omega arith, omega arith)
file_number_bounds file (later (later (later (later w)))) = elim w [ ]

pub text_number : {text : List ℕ} {n : ℕ} → ReadRow text n → (6 ≤ n) × (n ≤ 8)
text_number (outside h) = (omega arith, omega arith)
text_number (long h) = (omega arith, omega arith)
text_number (range s e) = (omega arith, omega arith)
text_number (many s e) = (omega arith, omega arith)

-- every row's number is 2 or more
pub row_two : {file text : List ℕ} {m : ℕ} → QuestionRow file text m → 2 ≤ m
row_two {file} (model a) = let n = file_number_bounds file a in omega arith
row_two (sentence r) = let n = text_number r in omega arith
row_two (labels s e) = omega arith
row_two (size s e) = omega arith
row_two (tuples s e) = omega arith

-- and 11 or less
pub row_few : {file text : List ℕ} {m : ℕ} → QuestionRow file text m → m ≤ 11
row_few {file} (model a) = let n = file_number_bounds file a in omega arith
row_few (sentence r) = let n = text_number r in omega arith
row_few (labels s e) = omega arith
row_few (size s e) = omega arith
row_few (tuples s e) = omega arith

-- where the number given is 0, no row applies
pub none_of : {file text : List ℕ} {n : ℕ} → Decided (QuestionRow file text) n → n ≤ 0 → (m : ℕ) →
    QuestionRow file text m → ⊥
none_of (by_row row least) h m r = let some = row_two row in absurd (omega arith)
none_of (by_none none) h m r = none m r

module _ {file text : List ℕ} where
  -- the file's number where it is not 0
  pub least_model : {k : ℕ} → file_number file ≡ suc k →
      QuestionRow file text (suc k) × ((m : ℕ) → QuestionRow file text m → suc k ≤ m)
  least_model {k} e = by (subst (Given (file_rows file)) e (read_smallest file))
    where
      by : Given (file_rows file) (suc k) → QuestionRow file text (suc k) × ((m : ℕ) → QuestionRow file text m → suc k ≤ m)
      by (by_row a least) = (model a, below (file_number_bounds file a).1 least)
        where
          below : suc k ≤ 5 → ((m : ℕ) → Applies m (file_rows file) → suc k ≤ m) → (m : ℕ) → QuestionRow file text m → suc k ≤ m
          below low least m (model a) = least m a
          below low least m (sentence r) = let n = text_number r in omega arith
          below low least m (labels s e) = omega arith
          below low least m (size s e) = omega arith
          below low least m (tuples s e) = omega arith

-- ---- T, a power that stays small

pub powers_small : (k : ℕ) → k ≤ 4 → 32 ^ k ≤ 1048576
powers_small zero h = omega arith
powers_small (suc zero) h = omega arith
powers_small (suc (suc zero)) h = omega arith
powers_small (suc (suc (suc zero))) h = omega arith
powers_small (suc (suc (suc (suc zero)))) h = omega arith
powers_small (suc (suc (suc (suc (suc k))))) h = absurd (omega arith)
