-- The first row that applies is the smallest that applies, where the rows stand in the order of their numbers; and the
-- document's words leave one number only.
use Prim.Native.Nat.{ℕ, suc, ◌≤◌, ◌<◌}
use mathlib.Core.Bool.{Bool, true, false, ◌&&◌, false≢true}
use mathlib.Core.List.{List, [], ◌∷◌}
use mathlib.Core.Path.{◌≡◌, refl, ap}
use native.Mathlib.Omega.{arith}
use native.Mathlib.Nat.{le_antisymm}
use borrow.Author.Tests.{ltb-true}
use lib.Dec.{ltb}
use Rattle.refusal.specs.Rows.{Row, or_else, first, Ascending, none, more, Applies, here, later, Decided, by_row, by_none, Given}

-- whether the rows stand in the order of their numbers: of a list that is written out, by computing
abbrev pub ascends : ℕ → List Row → Bool
ascends low [] = true
ascends low (r ∷ rows) = ltb low r.number && ascends r.number rows

pub in_order : (low : ℕ) (rows : List Row) → ascends low rows ≡ true → Ascending low rows
in_order low [] e = none
in_order low (r ∷ rows) e = both (ltb low r.number) refl e (λ rest. in_order r.number rows rest)
  where
    both : (t : Bool) → ltb low r.number ≡ t → (t && ascends r.number rows) ≡ true →
        (ascends r.number rows ≡ true → Ascending r.number rows) → Ascending low (r ∷ rows)
    both true less rest onward = more (ltb-true low r.number less) (onward rest)
    both false less rest onward = absurd (false≢true rest)

-- every row of an ascending list that applies has a number above the bound
pub above : {low : ℕ} {rows : List Row} → Ascending low rows → (m : ℕ) → Applies m rows → low < m
above (none {low = low}) m w = elim w [ ]
above (more h t) m (here e a) = omega arith
above (more h t) m (later w) =
    let r = above t m w in
    omega arith

-- no row applies that is not the first, if the first does not and none of the rest does
not_later : {n m : ℕ} {rows : List Row} → ((k : ℕ) → Applies k rows → ⊥) →
    Applies m (record { number = n; applies = false } ∷ rows) → ⊥
not_later no_row (here e a) = false≢true a
not_later no_row (later w) = no_row _ w

-- a row that applies and is not the first is one of the rest, if the first does not apply
is_later : {n m : ℕ} {rows : List Row} → Applies m (record { number = n; applies = false } ∷ rows) → Applies m rows
is_later (here e a) = absurd (false≢true a)
is_later (later w) = w

-- the number of a first row that applies is the least of all that apply
least_first : {n : ℕ} {a : Bool} {rows : List Row} → Ascending n rows →
    (m : ℕ) → Applies m (record { number = n; applies = a } ∷ rows) → n ≤ m
least_first t m (here e a) = omega arith
least_first t m (later w) =
    let r = above t m w in
    omega arith

-- one row more in front, with the number n and the answer a
step : (n : ℕ) (a : Bool) {rows : List Row} → Ascending n rows → {k : ℕ} → Given rows k →
    Given (record { number = n; applies = a } ∷ rows) (or_else a n k)
step n true t g = by_row (here refl refl) (least_first t)
step n false t (by_row w least) = by_row (later w) (λ m v. least m (is_later v))
step n false t (by_none no_row) = by_none (λ m v. not_later no_row v)

-- document 01: of the rows belonging to a call, the smallest number that applies is given
pub smallest : {low : ℕ} {rows : List Row} → Ascending low rows → Given rows (first rows)
unfolding first
smallest none = by_none (λ m. elim [ ])
smallest (more {r = r} h t) = step r.number r.applies t (smallest t)

-- and no other number is
pub one_number : {R : ℕ → Type 0} {m n : ℕ} → Decided R m → Decided R n → m ≡ n
one_number (by_row a la) (by_row b lb) = le_antisymm (la _ b) (lb _ a)
one_number (by_row a la) (by_none no_row) = absurd (no_row _ a)
one_number (by_none no_row) (by_row b lb) = absurd (no_row _ b)
one_number (by_none p) (by_none q) = refl

-- ---- the number, row by row: for a call that tests its rows in order

-- the first row applies
pub first_here : (n : ℕ) {a : Bool} (rows : List Row) → a ≡ true → first (record { number = n; applies = a } ∷ rows) ≡ n
unfolding first
first_here n rows e = ap (λ (b : Bool). or_else b n (first rows)) e

-- it does not
pub first_later : (n : ℕ) {a : Bool} (rows : List Row) → a ≡ false → first (record { number = n; applies = a } ∷ rows) ≡ first rows
unfolding first
first_later n rows e = ap (λ (b : Bool). or_else b n (first rows)) e

-- no row is left
pub first_none : first [] ≡ 0
unfolding first
first_none = refl

-- the number is 0: the first row does not apply, and the number of the rest is 0
pub none_here : (n : ℕ) (a : Bool) (rows : List Row) → first (record { number = suc n; applies = a } ∷ rows) ≡ 0 →
    (a ≡ false) × (first rows ≡ 0)
unfolding first
none_here n true rows e = absurd (omega arith)
none_here n false rows e = (refl, e)
