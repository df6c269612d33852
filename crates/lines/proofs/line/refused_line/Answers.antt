-- `line::refused_line` meets its contract: a number below 10, below 100 or below 1,000 has one, two or three digits.
-- Assumes nothing.
use Prim.Native.Nat.{ℕ, ◌+◌, ◌-◌, ◌*◌, ◌/◌, ◌%◌, ◌≤◌, ◌<◌}
use mathlib.Core.List.{List, [], ◌∷◌, ◌++◌}
use mathlib.Core.Path.{◌≡◌, refl, sym, ap, subst, ◌∙◌}
use native.Mathlib.Omega.{arith}
use borrow.Author.Tests.{ltb-true, ltb-false}
use borrow.Rule.Slice.PartMut.{mid_of, put_mid}
use lib.Dec.{ltb}
use lib.ListN.{length, take, drop}
use Rattle.counting.proofs.Laws.{Tested, holds, fails, tested}
use Rattle.numerals.specs.Numeral.{number_text}
use Rattle.numerals.proofs.Numbers.{one_digit, digit_more}
use Rattle.lines.specs.Lines.{refused_line}
use Rattle.lines.proofs.line.refused_line.Goals as goal

-- a number's text, as one digit
one : (n : ℕ) → n < 10 → number_text n ≡ (48 + n % 10) ∷ []
one n small = one_digit n small ∙ ap (λ (k : ℕ). (48 + k) ∷ []) (omega arith)

-- a digit more after a number's tenth part
more : (n : ℕ) → 10 ≤ n → n < 1000 → number_text n ≡ number_text (n / 10) ++ (48 + n % 10) ∷ []
more n low high = ap number_text split ∙ digit_more (n / 10) (n % 10) (omega arith) (omega arith) (omega arith)
  where
    split : n ≡ n / 10 * 10 + n % 10
    split = omega arith

-- a number's text, as two digits
two : (n : ℕ) → 10 ≤ n → n < 100 → number_text n ≡ (48 + n / 10 % 10) ∷ (48 + n % 10) ∷ []
two n low high = more n low (omega arith) ∙ ap (λ (t : List ℕ). t ++ (48 + n % 10) ∷ []) (one (n / 10) (omega arith))

-- a number's text, as three digits
three : (n : ℕ) → 100 ≤ n → n < 1000 → number_text n ≡ (48 + n / 100) ∷ (48 + n / 10 % 10) ∷ (48 + n % 10) ∷ []
three n low high =
    more n (omega arith) high ∙
    ap (λ (t : List ℕ). t ++ (48 + n % 10) ∷ []) (two (n / 10) (omega arith) (omega arith)) ∙
    ap (λ (k : ℕ). (48 + k) ∷ (48 + n / 10 % 10) ∷ (48 + n % 10) ∷ []) (omega arith)

-- all three digits, of which a number's text is the last one, two or three
abbrev all_digits : ℕ → List ℕ
all_digits n = (48 + n / 100) ∷ (48 + n / 10 % 10) ∷ (48 + n % 10) ∷ []

data Spelled (n : ℕ) : ℕ → Type 0 where
  single : number_text n ≡ (48 + n % 10) ∷ [] → Spelled n 1
  pair : number_text n ≡ (48 + n / 10 % 10) ∷ (48 + n % 10) ∷ [] → Spelled n 2
  triple : number_text n ≡ all_digits n → Spelled n 3

spelled : (n : ℕ) {wide size : ℕ} → n < 256 → wide ≡ n → size ≡ length (number_text wide) → Spelled n size
spelled n {wide} {size} small same e = by (tested (ltb n 10)) (tested (ltb n 100))
  where
    sized : {t : List ℕ} → number_text n ≡ t → length t ≡ size
    sized t = sym (e ∙ ap (λ (k : ℕ). length (number_text k)) same ∙ ap length t)

    by : Tested (ltb n 10) → Tested (ltb n 100) → Spelled n size
    by (holds a) b = let t = one n (ltb-true n 10 a) in subst (Spelled n) (sized t) (single t)
    by (fails a) (holds b) = let t = two n (ltb-false n 10 a) (ltb-true n 100 b) in subst (Spelled n) (sized t) (pair t)
    by (fails a) (fails b) = let t = three n (ltb-false n 100 b) (omega arith) in subst (Spelled n) (sized t) (triple t)

-- at most three digits
few : {n size : ℕ} → Spelled n size → size ≤ 3
few (single t) = omega arith
few (pair t) = omega arith
few (triple t) = omega arith

-- the line before its digits are written: newlines stand in their place and behind it
abbrev unwritten : List ℕ
unwritten = 114 ∷ 101 ∷ 102 ∷ 117 ∷ 115 ∷ 101 ∷ 100 ∷ 32 ∷ 10 ∷ 10 ∷ 10 ∷ 10 ∷ []

-- there is a place for each digit, whichever they are
room : {n size : ℕ} (a b c : ℕ) → Spelled n size →
    length (mid_of 8 (8 + size - 8) unwritten) ≡ length (take (3 - (3 - size)) (drop (3 - size) (a ∷ b ∷ c ∷ [])))
room a b c (single t) = refl
room a b c (pair t) = refl
room a b c (triple t) = refl

-- the line with its digits
written : {n size a b c : ℕ} {s : List ℕ} → Spelled n size → s ≡ take (3 - (3 - size)) (drop (3 - size) (a ∷ b ∷ c ∷ [])) →
    a ≡ 48 + n / 100 → b ≡ 48 + n / 10 % 10 → c ≡ 48 + n % 10 →
    take (9 + size) (put_mid 8 (8 + size - 8) unwritten s) ≡ refused_line n
unfolding refused_line
written (single t) d first second third = rw (d, t, third) refl
written (pair t) d first second third = rw (d, t, second, third) refl
written (triple t) d first second third = rw (d, t, first, second, third) refl

pub slice_bounds-copy_from_slice-end : goal.slice_bounds-copy_from_slice-end
slice_bounds-copy_from_slice-end c =
    let most = few (spelled c.args.number c.ranges.number.fits c.from.ensures c.number_size-size.ensures.0) in
    omega arith

pub overflow_sub-size : goal.overflow_sub-size
overflow_sub-size c = few (spelled c.args.number c.ranges.number.fits c.from.ensures c.number_size-size.ensures.0)

pub copy_from_slice-requires : goal.copy_from_slice-requires
copy_from_slice-requires c = room _ _ _ (spelled c.args.number c.ranges.number.fits c.from.ensures c.number_size-size.ensures.0)

pub returns-clause-out_after : goal.returns-clause-out_after
returns-clause-out_after c =
    written (spelled c.args.number c.ranges.number.fits c.from.ensures c.number_size-size.ensures.0) c.copy_from_slice.ensures.after
    (grind arith) (grind arith) (grind arith)
