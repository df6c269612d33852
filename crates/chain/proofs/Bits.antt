-- A mask is known by its labels: numbers that agree in every bit are equal.
use Prim.Native.Nat.{ℕ, zero, suc, ◌/◌, ◌%◌, ◌^◌, ◌<◌}
use mathlib.Core.Bool.{Bool, true, false}
use mathlib.Core.Path.{◌≡◌, refl, sym, ap, ◌∙◌}
use native.Mathlib.Nat.{pow-succ', div-div-eq-div-mul}
use native.Mathlib.Omega.{arith}
use borrow.Author.Tests.{eqb-true, eqb-false}
use lib.Dec.{eqb}
use Rattle.chain.specs.Of.{bit}

-- two digits that are 1 together are one digit
one_digit : (a b : ℕ) → a < 2 → b < 2 → eqb a 1 ≡ eqb b 1 → a ≡ b
one_digit a b l k e = look (eqb a 1) refl
  where
    look : (t : Bool) → eqb a 1 ≡ t → a ≡ b
    look true p =
        let x = eqb-true a 1 p in
        let y = eqb-true b 1 (sym e ∙ p) in
        omega arith
    look false p =
        let x = eqb-false a 1 p in
        let y = eqb-false b 1 (sym e ∙ p) in
        omega arith

-- bit l of the half is bit l + 1
half_bit : (x l : ℕ) → bit l (x / 2) ≡ bit (suc l) x
half_bit x l =
    ap (λ (q : ℕ). eqb (q % 2) 1) (div-div-eq-div-mul x 2 (2 ^ l) ∙ ap (λ (p : ℕ). x / p) (sym (pow-succ' 2 l)))

-- numbers below 2^k whose bits are equal are one number
pub bits_same : (k x y : ℕ) → x < 2 ^ k → y < 2 ^ k → ((l : ℕ) → bit l x ≡ bit l y) → x ≡ y
bits_same zero x y p q h = omega arith
bits_same (suc k) x y p q h =
    let halves =
    bits_same k (x / 2) (y / 2) (omega arith) (omega arith) (λ l. half_bit x l ∙ h (suc l) ∙ sym (half_bit y l)) in
    let digits = one_digit (x / 1 % 2) (y / 1 % 2) (omega arith) (omega arith) (h 0) in
    omega arith
