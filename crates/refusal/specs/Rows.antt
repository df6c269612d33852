-- Document 01, 'Calls and refusal numbers': a call has rows, each with a number and what it is given for, and of the
-- rows that apply the smallest number is given. A row is a number with the answer to 'does it apply to this input?'.
-- 0 is no row's number: it stands for 'no row applies'.
use Rattle.std.specs.Prelude.{ℕ, ◌≤◌, ◌<◌, Bool, true, false, List, [], ◌∷◌, ◌≡◌}

-- one row: its number, and whether it applies
pub record Row : Type 0 where
  pub number : ℕ
  pub applies : Bool

-- n where the test is met, else what follows
abbrev pub or_else : Bool → ℕ → ℕ → ℕ
or_else true n rest = n
or_else false n rest = rest

-- the number of the first row that applies, and 0 where none does
unfoldable pub first : List Row → ℕ
first [] = 0
first (r ∷ rows) = or_else r.applies r.number (first rows)

-- the rows stand in the order of their numbers, each above `low`
pub data Ascending : ℕ → List Row → Type 0 where
  none : {low : ℕ} → Ascending low []
  more : {low : ℕ} {r : Row} {rows : List Row} → low < r.number → Ascending r.number rows → Ascending low (r ∷ rows)

-- some row of the list that has the number n applies
pub data Applies (n : ℕ) : List Row → Type 0 where
  here : {r : Row} {rows : List Row} → r.number ≡ n → r.applies ≡ true → Applies n (r ∷ rows)
  later : {r : Row} {rows : List Row} → Applies n rows → Applies n (r ∷ rows)

-- n is what the document asks for, `R n` saying that the row with the number n applies: that row applies, and no row that
-- applies has a smaller number; or n is 0 and no row applies
pub data Decided (R : ℕ → Type 0) : ℕ → Type 0 where
  by_row : {n : ℕ} → R n → ((m : ℕ) → R m → n ≤ m) → Decided R n
  by_none : ((m : ℕ) → R m → ⊥) → Decided R 0

-- the same of the rows of a list
abbrev pub Given : List Row → ℕ → Type 0
Given rows = Decided (λ n. Applies n rows)

-- The rows of a call that asks for room by the model (document 02, T-07): its other rows as they are, and row 1 only where none of them
-- applies. `R n` says that the other row with the number n applies, `Short` is what row 1 is given for. So the smallest number that
-- applies is 1 only where no other number does.
pub data OneLast (R : ℕ → Type 0) (Short : Type 0) : ℕ → Type 0 where
  other : {n : ℕ} → R n → OneLast R Short n
  no_other : ((m : ℕ) → R m → ⊥) → Short → OneLast R Short 1
