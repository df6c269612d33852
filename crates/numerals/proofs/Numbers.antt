-- Laws of a number's text: one digit more, the first digit, and that a text has one number at its front. Assumes nothing.
use Prim.Native.Nat.{ℕ, zero, suc, ◌+◌, ◌-◌, ◌*◌, ◌/◌, ◌%◌, ◌≤◌, ◌<◌}
use mathlib.Core.Bool.{Bool, true, false, ◌&&◌, cond}
use mathlib.Core.List.{List, [], ◌∷◌, ◌++◌, append_assoc}
use mathlib.Core.Logic.{⊎_elim}
use mathlib.Core.Path.{◌≡◌, refl, sym, ap, ◌∙◌}
use native.Mathlib.Omega.{arith}
use borrow.Author.Tests.{lt-ltb, le-ltb, le-leb, lt-leb, ltb-true, ltb-false}
use lib.Dec.{ltb, leb}
use lib.ListN.{length, length-append}
use Rattle.counting.proofs.Laws.{Tested, holds, fails, tested}
use Rattle.numerals.specs.Numeral.{digits, number_text}
use Rattle.numerals.specs.Working.{NoDigit}

-- the first number that k digits do not spell
abbrev pub beyond : ℕ → ℕ
beyond zero = 1
beyond (suc k) = 10 * beyond k

-- a digit more to write with changes nothing where fewer do
digits_more : (k n : ℕ) → n < beyond (suc k) → digits (suc (suc k)) n ≡ digits (suc k) n
unfolding digits
digits_more zero n h = rw (lt-ltb n 10 (omega arith)) refl
digits_more (suc k) n h =
    ap (λ (l : List ℕ). cond (ltb n 10) ((48 + n) ∷ []) (l ++ (48 + n % 10) ∷ [])) (digits_more k (n / 10) (omega arith))

-- a number below ten is its digit
pub one_digit : (n : ℕ) → n < 10 → number_text n ≡ (48 + n) ∷ []
unfolding number_text digits
one_digit n h = rw (lt-ltb n 10 h) refl

-- a digit more after a number other than 0
pub digit_more : (v d : ℕ) → 1 ≤ v → v < 10000 → d < 10 → number_text (v * 10 + d) ≡ number_text v ++ (48 + d) ∷ []
unfolding number_text digits
digit_more v d low high small =
    rw (le-ltb (v * 10 + d) 10 (omega arith))
    (rw (q, m) (ap (λ (l : List ℕ). l ++ (48 + d) ∷ []) (sym (digits_more 3 v (omega arith)))))
  where
    q : (v * 10 + d) / 10 ≡ v
    q = omega arith

    m : (v * 10 + d) % 10 ≡ d
    m = omega arith

-- the first byte of a list, and 0 where there is none
abbrev pub first_byte : List ℕ → ℕ
first_byte [] = 0
first_byte (b ∷ t) = b

-- the value of the digits at the front of a text, after the value a, and the text after them
abbrev is_digit : ℕ → Bool
is_digit b = leb 48 b && leb b 57

abbrev pub scan : ℕ → List ℕ → ℕ × List ℕ
scan a [] = (a, [])
scan a (b ∷ t) = cond (is_digit b) (scan (10 * a + (b - 48)) t) (a, b ∷ t)

digit_is_digit : (b : ℕ) → 48 ≤ b → b ≤ 57 → is_digit b ≡ true
digit_is_digit b l h = rw (le-leb 48 b l, le-leb b 57 h) refl

no_digit : (b : ℕ) → NoDigit b → is_digit b ≡ false
no_digit b n = ⊎_elim (λ l. rw (lt-leb 48 b l) refl) (λ h. rw (lt-leb b 57 h) (both (leb 48 b))) n
  where
    both : (x : Bool) → (x && false) ≡ false
    both true = refl
    both false = refl

pub scan_digit : (a b : ℕ) (t : List ℕ) → 48 ≤ b → b ≤ 57 → scan a (b ∷ t) ≡ scan (10 * a + (b - 48)) t
scan_digit a b t l h = rw (digit_is_digit b l h) refl

pub scan_other : (a b : ℕ) (t : List ℕ) → NoDigit b → scan a (b ∷ t) ≡ (a, b ∷ t)
scan_other a b t n = rw (no_digit b n) refl

-- the value of more digits is no smaller
pub scan_up : (a : ℕ) (t : List ℕ) → a ≤ (scan a t).0
scan_up a [] = omega arith
scan_up a (b ∷ t) = by (is_digit b) (scan_up (10 * a + (b - 48)) t)
  where
    by : (x : Bool) → 10 * a + (b - 48) ≤ (scan (10 * a + (b - 48)) t).0
        → a ≤ (cond {A = ℕ × List ℕ} x (scan (10 * a + (b - 48)) t) (a, b ∷ t)).0
    by true h = omega arith
    by false h = omega arith

scan_digits : (k n : ℕ) (s : List ℕ) → n < beyond k → scan 0 (digits k n ++ s) ≡ scan n s
unfolding digits
scan_digits zero n s h = ap (λ (m : ℕ). scan m s) (omega arith)
scan_digits (suc k) n s h = by (scan_digits k (n / 10) ((48 + n % 10) ∷ s) (omega arith)) (tested (ltb n 10))
  where
    few : n < 10 → scan 0 ((48 + n) ∷ s) ≡ scan n s
    few l = scan_digit 0 (48 + n) s (omega arith) (omega arith) ∙ ap (λ (m : ℕ). scan m s) (omega arith)

    more : scan 0 (digits k (n / 10) ++ (48 + n % 10) ∷ s) ≡ scan (n / 10) ((48 + n % 10) ∷ s)
        → scan 0 ((digits k (n / 10) ++ (48 + n % 10) ∷ []) ++ s) ≡ scan n s
    more ih = rw append_assoc
        (ih ∙ scan_digit (n / 10) (48 + n % 10) s (omega arith) (omega arith) ∙ ap (λ (m : ℕ). scan m s) (omega arith))

    by : scan 0 (digits k (n / 10) ++ (48 + n % 10) ∷ s) ≡ scan (n / 10) ((48 + n % 10) ∷ s) → Tested (ltb n 10)
        → scan 0 (cond (ltb n 10) ((48 + n) ∷ []) (digits k (n / 10) ++ (48 + n % 10) ∷ []) ++ s) ≡ scan n s
    by ih (holds e) = rw e (few (ltb-true n 10 e))
    by ih (fails e) = rw e (more ih)

-- a number's text is read back as the number
pub scan_number : (n : ℕ) (s : List ℕ) → n < 100000 → scan 0 (number_text n ++ s) ≡ scan n s
unfolding number_text
scan_number n s h = scan_digits 5 n s h

-- the first digit of a number's text, which is `0` for 0 alone
pub record Head (l : List ℕ) (n : ℕ) : Type 0 where
  pub first : ℕ
  pub rest : List ℕ
  pub same : l ≡ first ∷ rest
  pub low : 48 ≤ first
  pub high : first ≤ 57
  pub nonzero : 1 ≤ n → 49 ≤ first

heads : (k n : ℕ) → n < beyond (suc k) → Head (digits (suc k) n) n
unfolding digits
heads zero n h = record {
  first = 48 + n;
  rest = [];
  same = rw (lt-ltb n 10 (omega arith)) refl;
  low = omega arith;
  high =
      omega arith;
  nonzero = λ one. omega arith;
}
heads (suc k) n h = by (heads k (n / 10) (omega arith)) (tested (ltb n 10))
  where
    by : Head (digits (suc k) (n / 10)) (n / 10) → Tested (ltb n 10)
        → Head (cond (ltb n 10) ((48 + n) ∷ []) (digits (suc k) (n / 10) ++ (48 + n % 10) ∷ [])) n
    by ih (holds e) =
        let l : n < 10 = ltb-true n 10 e in
        record { first = 48 + n; rest = []; same = rw e refl; low = omega arith; high = omega arith; nonzero = λ one. omega arith }
    by ih (fails e) =
        let l : 10 ≤ n = ltb-false n 10 e in
        record {
          first = ih.first;
          rest = ih.rest ++ (48 + n % 10) ∷ [];
          same = rw (e, ih.same) refl;
          low = ih.low;
          high = ih.high;
          nonzero = λ one. ih.nonzero (omega arith);
        }

pub head : (n : ℕ) → n < 100000 → Head (number_text n) n
unfolding number_text
head n h = heads 4 n h

-- how many digits a number is written with
size_step : (k n : ℕ) → 10 ≤ n → length (digits (suc k) n) ≡ suc (length (digits k (n / 10)))
unfolding digits
size_step k n h = rw (le-ltb n 10 h, length-append (digits k (n / 10)) ((48 + n % 10) ∷ [])) (omega arith)

size_one : (k n : ℕ) → n < 10 → length (digits (suc k) n) ≡ 1
unfolding digits
size_one k n h = rw (lt-ltb n 10 h) refl

pub size_1 : (n : ℕ) → n < 10 → 1 ≡ length (number_text n)
unfolding number_text
size_1 n h = sym (size_one 4 n h)

pub size_2 : (n : ℕ) → 10 ≤ n → n < 100 → 2 ≡ length (number_text n)
unfolding number_text
size_2 n l h = omega (arith, size_step 4 n l, size_one 3 (n / 10) (omega arith))

pub size_3 : (n : ℕ) → 100 ≤ n → n < 1000 → 3 ≡ length (number_text n)
unfolding number_text
size_3 n l h = omega (arith, size_step 4 n (omega arith), size_step 3 (n / 10) (omega arith), size_one 2 (n / 10 / 10) (omega arith))

pub size_4 : (n : ℕ) → 1000 ≤ n → n < 10000 → 4 ≡ length (number_text n)
unfolding number_text
size_4 n l h =
    omega (
      arith,
      size_step 4 n (omega arith),
      size_step 3 (n / 10) (omega arith),
      size_step 2 (n / 10 / 10) (omega arith),
      size_one 1 (n / 10 / 10 / 10) (omega arith),
    )

size_last : (n : ℕ) → length (digits 1 n) ≡ 1
unfolding digits
size_last n = by (ltb n 10)
  where
    by : (b : Bool) → length (cond b ((48 + n) ∷ []) ((48 + n % 10) ∷ [])) ≡ 1
    by true = refl
    by false = refl

pub size_5 : (n : ℕ) → 10000 ≤ n → 5 ≡ length (number_text n)
unfolding number_text
size_5 n l =
    omega (
      arith,
      size_step 4 n (omega arith),
      size_step 3 (n / 10) (omega arith),
      size_step 2 (n / 10 / 10) (omega arith),
      size_step 1 (n / 10 / 10 / 10) (omega arith),
      size_last (n / 10 / 10 / 10 / 10),
    )
