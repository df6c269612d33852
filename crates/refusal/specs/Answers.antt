-- What every call ensures, and the document's number and values for each case of the answers that the calls give.
use Rattle.std.specs.Prelude.{ℕ, ◌≤◌, List, ◌++◌, ◌≡◌, length, drop, Result, Ok, Err}
use Rattle.refusal.specs.Rows.{Row, Applies}
use Rattle.refusal.specs.declared.Refusal.{Refusal}
use Rattle.refusal.specs.declared.Refusal.TheVariants.{Area, Length, Check, Layout, Rows, Grammar, Range, Nodes}
use Rattle.refusal.specs.declared.Refusal.TheVariants.{Label, Size, Tuples, Grouping, Alike, Room, Asked}

-- ---- what every call ensures

-- the document's words for an answer: the values that the call gives, or a refusal, which carries only its number
pub data Reply (A : Type 0) : Type 0 where
  gives : A → Reply A
  refuses : ℕ → Reply A

-- the number of a reply, 0 where it is no refusal
abbrev pub number_in : {A : Type 0} → Reply A → ℕ
number_in (gives values) = 0
number_in (refuses number) = number

-- what is lent, a list, is filled with a part of the values if the call gives them, and unchanged if it refuses
abbrev pub filled : {A B : Type 0} → (A → List B) → Reply A → List B → List B
filled part (gives values) before = part values
filled part (refuses number) before = before

-- What a call ensures of its reply and of the memory that it was lent. If rows apply, it refuses with the smallest of their numbers, and
-- the memory is unchanged. If none applies, it gives the correct values and leaves the correct contents.
-- `R n` says that the row with the number n applies, `Right v l` that the values v and the contents l are correct.
pub data Ensured {A L : Type 0} (R : ℕ → Type 0) (Right : A → L → Type 0) (before : L) (reply : Reply A) (after : L) : Type 0 where
  refused : {n : ℕ} → reply ≡ refuses n → after ≡ before → R n → ((m : ℕ) → R m → n ≤ m) → Ensured R Right before reply after
  answered : {v : A} → reply ≡ gives v → Right v after → ((m : ℕ) → R m → ⊥) → Ensured R Right before reply after

-- ---- the answers of calls

-- the number of a refusal in the document's table
abbrev pub number_of : Refusal → ℕ
number_of Area = 1
number_of Length = 2
number_of Check = 3
number_of Layout = 4
number_of Rows = 5
number_of Grammar = 6
number_of Range = 7
number_of Nodes = 8
number_of Label = 9
number_of Size = 10
number_of Tuples = 11
number_of Grouping = 12
number_of Alike = 13
number_of Room = 14
number_of Asked = 15

-- the document's words for a call's answer
abbrev pub reply_of : {A : Type 0} → Result A Refusal → Reply A
reply_of (Ok values) = gives values
reply_of (Err refusal) = refuses (number_of refusal)

-- what a reader ensures of its answer: what it read is correct. It is lent nothing
pub record Reads {A : Type 0} (R : ℕ → Type 0) (Correct : A → Type 0) (answer : Result A Refusal) : Type 0 where
  pub ensured : Ensured R (λ read nothing. Correct read) (tt {0}) (reply_of answer) (tt {0})

-- document 01: a writer or merge writes exactly the file or text at the front; what is beyond stays
abbrev pub at_front : List ℕ → List ℕ → List ℕ
at_front text before = text ++ drop (length text) before

-- the correct result of a writer: a text that is asked for stands at the front, and its length is given
pub record TextAtFront (Asked : List ℕ → Type 0) (before : List ℕ) (size : ℕ) (after : List ℕ) : Type 0 where
  pub text : List ℕ
  pub asked : Asked text
  pub sized : size ≡ length text
  pub left : after ≡ at_front text before

-- what a writer with these rows and this text ensures of the output before and after, and of its answer
pub record Writes (rows : List Row) (text before after : List ℕ) (answer : Result ℕ Refusal) : Type 0 where
  pub ensured : Ensured (λ n. Applies n rows) (TextAtFront (λ t. t ≡ text) before) before (reply_of answer) after
