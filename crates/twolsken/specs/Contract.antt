-- The contract of the program: its answer on two files of any size.
use Rattle.std.specs.Prelude.{ℕ, Bool, List, ◌≡◌, length, take, Result}
use Rattle.refusal.specs.declared.Refusal.{Refusal}
use Rattle.verdict.specs.Contract.{VerdictEnsures}
use Rattle.lines.specs.Texts.{without_newline}

-- the program's own work area: 8,192 numbers
abbrev pub area_size : ℕ
area_size = 8192

-- the answer on the bytes of the two files: verdict's, for some work area of that size
pub record AnswersFiles (model sentence : List ℕ) (r : Result Bool Refusal) : Type 0 where
  pub before : List ℕ
  pub after : List ℕ
  pub enough : length before ≡ area_size
  pub answer : VerdictEnsures model (without_newline sentence) before r after

-- the first n bytes of a buffer are the first of a file: all that it has, or as many as the buffer has room for
abbrev pub FirstOf : (file buf : List ℕ) → ℕ → Type 0
FirstOf file buf n = take n buf ≡ take (length buf) file

-- the answer on two files of any size, from their first bytes in two buffers
pub record AnswersBuffers (model : List ℕ) (m : ℕ) (sentence : List ℕ) (s : ℕ) (r : Result Bool Refusal) : Type 0 where
  pub each : (file said : List ℕ) → FirstOf file model m → FirstOf said sentence s → AnswersFiles file said r
