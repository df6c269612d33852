-- What every call's contract leaves: one reply and one content of everything lent, with the number that its rows ask for.
use Prim.Native.Nat.{ℕ, ◌-◌, ◌≤◌, ◌<◌}
use mathlib.Core.List.{List, [], ◌∷◌}
use mathlib.Core.Path.{◌≡◌, refl, sym, ap, subst, ◌∙◌}
use native.Mathlib.Nat.{le_antisymm}
use native.Mathlib.Omega.{arith}
use lib.ListN.{length, get_or}
use Rattle.std.specs.Prelude.{Result, Ok, Err}
use Rattle.refusal.specs.declared.Refusal.{Refusal}
use Rattle.refusal.specs.declared.Refusal.TheVariants.{Area, Length, Check, Layout, Rows, Grammar, Range, Nodes}
use Rattle.refusal.specs.declared.Refusal.TheVariants.{Label, Size, Tuples, Grouping, Alike, Room, Asked}
use Rattle.refusal.specs.Answers.{Reply, gives, refuses, number_in, filled, Ensured, refused, answered, number_of, reply_of, Reads}
use Rattle.refusal.specs.Answers.{at_front, TextAtFront}
use Rattle.refusal.specs.Rows.{Decided, by_row as smallest, by_none, OneLast, other, no_other}

module _ {A L : Type 0} {R : ℕ → Type 0} {Right : A → L → Type 0} {before : L} where
  -- any two results that a contract allows are equal, where the right values and what is right to leave are
  pub one_result : {r r' : Reply A} {after after' : L} →
      ((v v' : A) (l l' : L) → Right v l → Right v' l' → (v ≡ v') × (l ≡ l')) → Ensured R Right before r after →
      Ensured R Right before r' after' → (r ≡ r') × (after ≡ after')
  one_result one (refused {n} e k row least) (refused {n = m} e' k' row' least') =
      (e ∙ ap refuses (le_antisymm (least m row') (least' n row)) ∙ sym e', k ∙ sym k')
  one_result one (refused {n} e k row least) (answered e' right none) = absurd (none n row)
  one_result one (answered e right none) (refused {n} e' k row least) = absurd (none n row)
  one_result one (answered e right none) (answered e' right' none') =
      let same = one _ _ _ _ right right' in
      (e ∙ ap gives same.0 ∙ sym e', same.1)

  -- the number of a reply is the one that the rows ask for
  pub number_decided : {r : Reply A} {after : L} → Ensured R Right before r after → Decided R (number_in r)
  number_decided (refused e k row least) = subst (Decided R) (sym (ap number_in e)) (smallest row least)
  number_decided (answered e right none) = subst (Decided R) (sym (ap number_in e)) (by_none none)

  -- a refusal with the number that the rows ask for
  pub refused_as : {n : ℕ} {r : Reply A} {after : L} → Decided R n → 0 < n → r ≡ refuses n → after ≡ before → Ensured R Right before r after
  refused_as (smallest row least) some e k = refused e k row least
  refused_as (by_none none) some e k = absurd (omega arith)

  -- where no row applies the right values are given
  pub right_of : {r : Reply A} {after : L} → ((n : ℕ) → R n → ⊥) → Ensured R Right before r after → (v : A) × (r ≡ gives v) × Right v after
  right_of none (refused {n} e k row least) = absurd (none n row)
  right_of none (answered {v} e right free) = (v, e, right)

-- the rows of a call whose row 1 comes last
module _ {R : ℕ → Type 0} {Short : Type 0} where
  -- another row goes before it
  pub others_least : {n : ℕ} → R n → ((m : ℕ) → R m → n ≤ m) → (m : ℕ) → OneLast R Short m → n ≤ m
  others_least row least m (other r) = least m r
  others_least {n} row least m (no_other none short) = absurd (none n row)

  pub others_first : {n : ℕ} → Decided R n → 0 < n → Decided (OneLast R Short) n
  others_first (smallest row least) some = smallest (other row) (others_least row least)
  others_first (by_none none) some = absurd (omega arith)

  module _ (none : (n : ℕ) → R n → ⊥) where
    -- where no other applies, it does if there is too little room,
    pub one_least : (m : ℕ) → OneLast R Short m → 1 ≤ m
    one_least m (other r) = absurd (none m r)
    one_least m (no_other none' short) = omega arith

    pub one_decided : Short → Decided (OneLast R Short) 1
    one_decided short = smallest (no_other none short) one_least

    -- and else none does
    pub none_at_all : (Short → ⊥) → (m : ℕ) → OneLast R Short m → ⊥
    none_at_all enough m (other r) = none m r
    none_at_all enough m (no_other none' short) = enough short

  -- where none applies, no other does, and there is room
  module _ (none : (n : ℕ) → OneLast R Short n → ⊥) where
    pub others_free : (n : ℕ) → R n → ⊥
    others_free n r = none n (other r)

    pub room_enough : Short → ⊥
    room_enough short = none 1 (no_other others_free short)

-- a reply does not give and refuse
not_both : {A : Type 0} {v : A} {n : ℕ} → ◌≡◌ {A = Reply A} (gives v) (refuses n) → ⊥
not_both e =
    let z : ◌≡◌ {A = ℕ} 0 1 = cc in
    omega arith

-- where there is room, the other rows decide
pub with_room : {A L : Type 0} {R : ℕ → Type 0} {Short : Type 0} {Right : A → L → Type 0} {before after : L} {r : Reply A} →
    (Short → ⊥) → Ensured (OneLast R Short) Right before r after → Ensured R Right before r after
with_room enough (refused e k (other row) least) = refused e k row (λ m x. least m (other x))
with_room enough (refused e k (no_other none short) least) = absurd (enough short)
with_room enough (answered e right none) = answered e right (others_free none)

-- two calls with the same rows reply the same, whatever each is lent, where their right values are the same
pub same_reply : {A L : Type 0} {R : ℕ → Type 0} {Right Right' : A → L → Type 0} {before before' after after' : L} {r r' : Reply A} →
    ((v v' : A) (l l' : L) → Right v l → Right' v' l' → v ≡ v') → Ensured R Right before r after → Ensured R Right' before' r' after' →
    r ≡ r'
same_reply same (refused {n} e k row least) (refused {n = m} e' k' row' least') =
    e ∙ ap refuses (le_antisymm (least m row') (least' n row)) ∙ sym e'
same_reply same (refused {n} e k row least) (answered e' right none) = absurd (none n row)
same_reply same (answered e right none) (refused {n} e' k' row least) = absurd (none n row)
same_reply same (answered e right none) (answered e' right' none') = e ∙ ap gives (same _ _ _ _ right right') ∙ sym e'

-- what is lent is filled, or stays as it was
pub filled_given : {A B : Type 0} {q : Reply A} {v : A} (part : A → List B) → q ≡ gives v → (before : List B) →
    filled part q before ≡ part v
filled_given {A} part e before = ap (λ (x : Reply A). filled part x before) e

pub filled_refused : {A B : Type 0} {q : Reply A} {n : ℕ} (part : A → List B) → q ≡ refuses n → (before : List B) →
    filled part q before ≡ before
filled_refused {A} part e before = ap (λ (x : Reply A). filled part x before) e

-- what is right of a writer is one, where one text is asked for
pub one_front : {Asked : List ℕ → Type 0} {before : List ℕ} → ((t t' : List ℕ) → Asked t → Asked t' → t ≡ t') → (size size' : ℕ)
    (after after' : List ℕ) → TextAtFront Asked before size after → TextAtFront Asked before size' after'
    → (size ≡ size') × (after ≡ after')
one_front {before = before} one size size' after after' f f' =
    let same = one f.text f'.text f.asked f'.asked in
    (f.sized ∙ ap length same ∙ sym f'.sized, f.left ∙ ap (λ (t : List ℕ). at_front t before) same ∙ sym f'.left)

-- the refusal with a number
abbrev numbered : ℕ → Refusal
numbered n =
    get_or (Area ∷ Length ∷ Check ∷ Layout ∷ Rows ∷ Grammar ∷ Range ∷ Nodes ∷ Label ∷ Size ∷ Tuples ∷ Grouping ∷ Alike ∷ Room ∷ Asked ∷ [])
    (n - 1) Asked

number_back : (r : Refusal) → numbered (number_of r) ≡ r
number_back Area = refl
number_back Length = refl
number_back Check = refl
number_back Layout = refl
number_back Rows = refl
number_back Grammar = refl
number_back Range = refl
number_back Nodes = refl
number_back Label = refl
number_back Size = refl
number_back Tuples = refl
number_back Grouping = refl
number_back Alike = refl
number_back Room = refl
number_back Asked = refl

-- no refusal has the number 0
pub number_positive : (r : Refusal) → 0 < number_of r
number_positive Area = omega arith
number_positive Length = omega arith
number_positive Check = omega arith
number_positive Layout = omega arith
number_positive Rows = omega arith
number_positive Grammar = omega arith
number_positive Range = omega arith
number_positive Nodes = omega arith
number_positive Label = omega arith
number_positive Size = omega arith
number_positive Tuples = omega arith
number_positive Grouping = omega arith
number_positive Alike = omega arith
number_positive Room = omega arith
number_positive Asked = omega arith

-- no two refusals have one number
pub number_told : (r r' : Refusal) → number_of r ≡ number_of r' → r ≡ r'
number_told r r' e = sym (number_back r) ∙ ap numbered e ∙ number_back r'

-- a call's reply tells its answer
pub answer_told : {A : Type 0} (a a' : Result A Refusal) → reply_of a ≡ reply_of a' → a ≡ a'
answer_told (Ok v) (Ok v') e = ap Ok (cc e)
answer_told (Ok v) (Err r) e = absurd (not_both e)
answer_told (Err r) (Ok v) e = absurd (not_both (sym e))
answer_told (Err r) (Err r') e = ap Err (number_told r r' (ap number_in e))

-- any two answers that a reader's contract allows are equal, where one is correct
pub one_reading : {A : Type 0} {R : ℕ → Type 0} {Correct : A → Type 0} {a a' : Result A Refusal} →
    ((v v' : A) → Correct v → Correct v' → v ≡ v') → Reads R Correct a → Reads R Correct a' → a ≡ a'
one_reading {a = a} {a'} one w w' =
    answer_told a a' (one_result (λ v v' l l' right right'. (one v v' right right', refl)) w.ensured w'.ensured).0
