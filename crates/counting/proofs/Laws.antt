-- Laws of `sum`, `every` and `table`, each said once over the function or the test. Those that end in `-more` are for the
-- next turn of a loop that counts up.
use Prim.Native.Nat.{ℕ, zero, suc, ◌+◌, ◌-◌, ◌≤◌, ◌<◌}
use mathlib.Core.Bool.{Bool, true, false, ◌&&◌, true≢false}
use mathlib.Core.List.{List, [], ◌∷◌, ◌++◌, append_assoc, append-nil}
use mathlib.Core.Path.{◌≡◌, refl, sym, ap, ap₂, subst, ◌∙◌}
use native.Mathlib.Numerals.{add-one}
use native.Mathlib.Omega.{arith}
use native.Mathlib.Decide.{dec_lt}
use borrow.Rule.Slice.PartMut.{put_mid}
use lib.ListN.{length, get_or, set, take, drop, drop_of_length-le, length-drop, length-append, length-set, get_or-append}
use lib.Seq.{ext_get_or, take_all, get_or_at, drop-cons, set_at, get_or-set_same, get_or-set_other}
use Rattle.counting.specs.Below.{sum_below, every_below, table}

-- a number below the next is below this one, or is it
below_next : {P : ℕ → Type 0} {n : ℕ} → ((k : ℕ) → k < n → P k) → P n → (k : ℕ) → k < suc n → P k
below_next {P} {n} h last k l = go (dec_lt k n)
  where
    go : Dec (k < n) → P k
    go (yes less) = h k less
    go (no more) =
        let e : n ≡ k = omega arith in
        subst P e last

-- ---- sums

-- a sum of no terms
pub sum_none : (f : ℕ → ℕ) → sum_below 0 f ≡ 0
unfolding sum_below
sum_none f = refl

-- one term more
pub sum_more : (n : ℕ) (f : ℕ → ℕ) → sum_below (n + 1) f ≡ sum_below n f + f n
unfolding sum_below
sum_more n f = ap (λ (k : ℕ). sum_below k f) (add-one n)

-- sums of functions that agree below n are equal
pub sum_same : (n : ℕ) {f g : ℕ → ℕ} → ((k : ℕ) → k < n → f k ≡ g k) → sum_below n f ≡ sum_below n g
unfolding sum_below
sum_same zero h = refl
sum_same (suc n) h = ap₂ (λ (a b : ℕ). a + b) (sum_same n (λ k l. h k (omega arith))) (h n (omega arith))

-- a sum of zeros is zero
pub sum_zero : (n : ℕ) {f : ℕ → ℕ} → ((k : ℕ) → k < n → f k ≡ 0) → sum_below n f ≡ 0
unfolding sum_below
sum_zero zero h = refl
sum_zero (suc n) h = ap₂ (λ (a b : ℕ). a + b) (sum_zero n (λ k l. h k (omega arith))) (h n (omega arith))

-- a part of a sum is at most the whole
pub term_le_sum : (n : ℕ) (f : ℕ → ℕ) (k : ℕ) → k < n → f k ≤ sum_below n f
unfolding sum_below
term_le_sum zero f k l = omega arith
term_le_sum (suc n) f k l = below_next {P = λ k. f k ≤ sum_below n f + f n}
    (λ k l.
    let r = term_le_sum n f k l in
    omega arith)
    (omega arith) k l

-- ---- tests

-- no number fails the test where there is none
pub every_none : (test : ℕ → Bool) → every_below 0 test ≡ true
unfolding every_below
every_none test = refl

-- two tests that are met are met together
pub and_true : {a b : Bool} → a ≡ true → b ≡ true → (a && b) ≡ true
and_true p q = ap₂ (λ (a b : Bool). a && b) p q

-- of two that are met the first is
pub left_of : (a b : Bool) → (a && b) ≡ true → a ≡ true
left_of true b e = refl
left_of false b e = e

-- and the second is
pub right_of : (a b : Bool) → (a && b) ≡ true → b ≡ true
right_of true b e = e
right_of false b e = absurd (true≢false (sym e))

-- two tests are not met together where the second is not
pub not_second : (a : Bool) {b : Bool} → b ≡ false → (a && b) ≡ false
not_second true e = e
not_second false e = refl

-- a test with the equation that it is answered by
pub data Tested (b : Bool) : Type 0 where
  holds : b ≡ true → Tested b
  fails : b ≡ false → Tested b

pub tested : (b : Bool) → Tested b
tested true = holds refl
tested false = fails refl

-- one number more meets the test
pub every_more : (n : ℕ) (test : ℕ → Bool) → every_below n test ≡ true → test n ≡ true → every_below (n + 1) test ≡ true
unfolding every_below
every_more n test h last = ap (λ (k : ℕ). every_below k test) (add-one n) ∙ and_true h last

-- each number below n meets the test that every one meets
pub every_at : (n : ℕ) (test : ℕ → Bool) → every_below n test ≡ true → (k : ℕ) → k < n → test k ≡ true
unfolding every_below
every_at zero test h k l = absurd (omega arith)
every_at (suc n) test h k l =
    below_next (every_at n test (left_of (every_below n test) (test n) h)) (right_of (every_below n test) (test n) h) k l

-- every number meets the test that each meets
pub every_all : (n : ℕ) (test : ℕ → Bool) → ((k : ℕ) → k < n → test k ≡ true) → every_below n test ≡ true
unfolding every_below
every_all zero test h = refl
every_all (suc n) test h = and_true (every_all n test (λ k l. h k (omega arith))) (h n (omega arith))

-- a test that cannot be met
pub is_not_true : (a : Bool) → (a ≡ true → ⊥) → a ≡ false
is_not_true true h = absurd (h refl)
is_not_true false h = refl

-- two tests that follow from each other are one
pub same_truth : (a b : Bool) → (a ≡ true → b ≡ true) → (b ≡ true → a ≡ true) → a ≡ b
same_truth true b f g = sym (f refl)
same_truth false true f g = g refl
same_truth false false f g = refl

-- one number that does not meet the test is enough
pub every_but : (n : ℕ) (test : ℕ → Bool) (k : ℕ) → k < n → test k ≡ false → every_below n test ≡ false
every_but n test k l e = is_not_true (every_below n test) (λ h. true≢false (sym (every_at n test h k l) ∙ e))

-- tests that agree below n have one answer
pub every_same : (n : ℕ) {p q : ℕ → Bool} → ((k : ℕ) → k < n → p k ≡ q k) → every_below n p ≡ every_below n q
unfolding every_below
every_same zero h = refl
every_same (suc n) h = ap₂ (λ (a b : Bool). a && b) (every_same n (λ k l. h k (omega arith))) (h n (omega arith))

-- ---- a loop that tests one number after another and leaves at the first that fails

-- of the numbers below n the first i meet the test
pub record Passed (n : ℕ) (test : ℕ → Bool) (i : ℕ) : Type 0 where
  pub up_to : i ≤ n
  pub met : every_below i test ≡ true

module _ {n : ℕ} {test : ℕ → Bool} where
  -- before the first turn
  pub passed_none : Passed n test 0
  passed_none = record { up_to = omega arith; met = every_none test }

  -- one turn more, where the test is met
  pub passed_next : {i : ℕ} → Passed n test i → i < n → test i ≡ true → Passed n test (i + 1)
  passed_next {i} h less e = record { up_to = omega arith; met = every_more i test h.met e }

  -- after the last turn every number has met the test
  pub passed_all : {i : ℕ} → Passed n test i → n ≤ i → true ≡ every_below n test
  passed_all {i} h done =
      let e : i ≡ n = omega arith in
      sym (rw e at h.met)

  -- where one fails, not every number meets it
  pub failed_at : {i : ℕ} → Passed n test i → i < n → test i ≡ false → false ≡ every_below n test
  failed_at {i} h less e = sym (every_but n test i less e)

-- ---- tables

module _ {A : Type 0} where
  -- a table of n entries is n long
  pub length_table : (n : ℕ) (f : ℕ → A) → length (table n f) ≡ n
  unfolding table
  length_table zero f = refl
  length_table (suc n) f = length-append (table n f) (f n ∷ []) ∙ ap (λ (k : ℕ). k + 1) (length_table n f) ∙ add-one n

  -- entry k of a table is f k
  pub table_at : (n : ℕ) (f : ℕ → A) (d : A) (k : ℕ) → k < n → get_or (table n f) k d ≡ f k
  unfolding table
  table_at zero f d k l = absurd (omega arith)
  table_at (suc n) f d k l = below_next {P = λ k. get_or (table n f ++ (f n ∷ [])) k d ≡ f k}
      (λ k l.
      let e = length_table n f in
      get_or-append (table n f) (f n ∷ []) d k (omega arith) ∙ table_at n f d k l)
      (get_or_at (table n f) (f n) [] d n (length_table n f)) k l

  -- a list of n elements, each of them f's, is the table
  pub table_is : (n : ℕ) (f : ℕ → A) (d : A) (l : List A) → length l ≡ n → ((k : ℕ) → k < n → get_or l k d ≡ f k) → l ≡ table n f
  table_is n f d l e h =
      ext_get_or d l (table n f) (e ∙ sym (length_table n f)) (λ k less. h k (omega arith) ∙ sym (table_at n f d k (omega arith)))

  -- tables of functions that agree below n are one
  pub table_same : (n : ℕ) (f g : ℕ → A) (d : A) → ((k : ℕ) → k < n → f k ≡ g k) → table n f ≡ table n g
  table_same n f g d h = table_is n g d (table n f) (length_table n f) (λ k l. table_at n f d k l ∙ h k l)

-- ---- a loop that fills a list from the front, one store a turn

-- of n places the first i hold f's values
pub record Filled {A : Type 0} (n : ℕ) (f : ℕ → A) (d : A) (i : ℕ) (l : List A) : Type 0 where
  pub up_to : i ≤ n
  pub long : length l ≡ n
  pub each : (k : ℕ) → k < i → get_or l k d ≡ f k

module _ {A : Type 0} {n : ℕ} {f : ℕ → A} {d : A} where
  -- before the first turn
  pub filled_none : {l : List A} → length l ≡ n → Filled n f d 0 l
  filled_none e = record { up_to = omega arith; long = e; each = λ k less. absurd (omega arith) }

  -- one store more
  pub filled_next : {i : ℕ} {l : List A} {v : A} → Filled n f d i l → i < n → v ≡ f i → Filled n f d (i + 1) (set l i v)
  filled_next {i} {l} {v} h less e = record {
    up_to = omega arith;
    long = length-set l i v ∙ h.long;
    each = λ k small. below_next {P = λ k. get_or (set l i v) k d ≡ f k}
        (λ k m. get_or-set_other l i k v d (omega arith) ∙ h.each k m)
        (get_or-set_same l i v d (omega arith) ∙ e)
        k (omega arith);
  }

  -- after the last turn the list is the table
  pub filled_all : {i : ℕ} {l : List A} → Filled n f d i l → n ≤ i → l ≡ table n f
  filled_all {i} {l} h done = table_is n f d l h.long (λ k less. h.each k (omega arith))

-- ---- a loop that writes a table at the front of a longer list and leaves the rest

-- one more store
front_more : {A : Type 0} (f : ℕ → A) (l : List A) (i : ℕ) (v : A) → i < length l → v ≡ f i →
    set (table i f ++ drop i l) i v ≡ table (i + 1) f ++ drop (i + 1) l
unfolding table
front_more {A} f l i v less e =
    ap (λ (r : List A). set (table i f ++ r) i v) (drop-cons l i v less) ∙
    set_at (table i f) (get_or l i v) (drop (suc i) l) v i (length_table i f) ∙
    ap (λ (x : A). table i f ++ x ∷ drop (suc i) l) e ∙
    sym (append_assoc (table i f) (f i ∷ []) (drop (suc i) l)) ∙
    ap (λ (k : ℕ). table k f ++ drop k l) (sym (add-one i))

-- of n places the first i hold f's values, and the rest of the list is as it was
pub record Fronted {A : Type 0} (n : ℕ) (f : ℕ → A) (before : List A) (i : ℕ) (now : List A) : Type 0 where
  pub up_to : i ≤ n
  pub long : length now ≡ length before
  pub held : now ≡ table i f ++ drop i before

module _ {A : Type 0} {n : ℕ} {f : ℕ → A} {before : List A} where
  -- before the first turn
  pub fronted_none : Fronted n f before 0 before
  unfolding table
  fronted_none = record { up_to = omega arith; long = refl; held = refl }

  -- one store more
  pub fronted_next : {i : ℕ} {now : List A} {v : A} → Fronted n f before i now → i < n → n ≤ length before → v ≡ f i →
      Fronted n f before (i + 1) (set now i v)
  fronted_next {i} {now} {v} h less room e = record {
    up_to = omega arith;
    long = length-set now i v ∙ h.long;
    held = ap (λ (l : List A). set l i v) h.held ∙ front_more f before i v (omega arith) e;
  }

  -- after the last turn the table stands before the rest
  pub fronted_all : {i : ℕ} {now : List A} → Fronted n f before i now → n ≤ i → now ≡ table n f ++ drop n before
  fronted_all {i} {now} h done =
      let e : i ≡ n = omega arith in
      rw e at h.held

-- ---- a list whose tail was lent

-- what stood before the tail, then the tail as it came back
pub tail_back : {A : Type 0} (a : ℕ) (xs ys : List A) → put_mid a (length xs - a) xs ys ≡ take a xs ++ ys
tail_back {A} a xs ys =
    let past : length (drop a xs) ≤ length xs - a = omega (arith, length-drop a xs) in
    ap (λ (l : List A). take a xs ++ l) (ap (λ (l : List A). ys ++ l) (drop_of_length-le (drop a xs) past) ∙ append-nil ys)

-- the tail as it was lent
pub tail_lent : {A : Type 0} (a : ℕ) (xs : List A) → take (length xs - a) (drop a xs) ≡ drop a xs
tail_lent a xs = take_all (length xs - a) (drop a xs) (omega (arith, length-drop a xs))
