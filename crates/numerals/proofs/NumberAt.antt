-- What `number` and `more_digits` answer at each front of a text. Assumes nothing.
use Prim.Native.Nat.{ℕ, ◌+◌, ◌-◌, ◌*◌, ◌≤◌, ◌<◌}
use mathlib.Core.List.{List, [], ◌∷◌, ◌++◌, tail, append_assoc}
use mathlib.Core.Logic.{⊎_elim}
use mathlib.Core.Path.{◌≡◌, refl, sym, ap, ◌∙◌, subst}
use Rattle.std.proofs.Common.{Option, MatchOption, Bor}
use native.Mathlib.Omega.{arith}
use Rattle.numerals.specs.Numeral.{number_text}
use Rattle.numerals.specs.Working.{NoDigit, IsNumber, NoNumber, NoNumbers}
use Rattle.numerals.proofs.Numbers.{first_byte, one_digit, digit_more, scan, scan_digit, scan_other, scan_up, scan_number, Head, head}

-- a text that goes on with a digit after the bytes of the number v is one with a digit more in the number
pub shifted : {t s : List ℕ} {b : ℕ} (v : ℕ) → t ≡ b ∷ s → 1 ≤ v → v < 10000 → 48 ≤ b → b ≤ 57
    → number_text v ++ t ≡ number_text (v * 10 + (b - 48)) ++ s
shifted {t} {s} {b} v e lv hv l h =
    let d : 48 + (b - 48) ≡ b = omega arith in
    rw (e, digit_more v (b - 48) lv hv (omega arith), append_assoc, d) refl

-- the same, of a number's first digit
pub first_digit : {t s : List ℕ} {b : ℕ} → t ≡ b ∷ s → 49 ≤ b → b ≤ 57 → t ≡ number_text (b - 48) ++ s
first_digit {t} {s} {b} e l h =
    let d : 48 + (b - 48) ≡ b = omega arith in
    rw (one_digit (b - 48) (omega arith), d) e

-- what a number with the byte `close` after it at the front of a text says of the text's digits
pub scanned : (s : List ℕ) (v w close : ℕ) (rest : List ℕ) → v < 100000 → NoDigit close → IsNumber (number_text v ++ s) close w rest
    → scan v s ≡ (w, close ∷ rest)
scanned s v w close rest lv nd n =
    sym (scan_number v s lv) ∙ ap (scan 0) n.text ∙ scan_number w (close ∷ rest) n.small ∙ scan_other w close rest nd

-- what stands at the front of a text stands at the front of an equal one
pub same_front : {t s : List ℕ} (close : ℕ) (r : Option (ℕ × Bor (List ℕ))) → t ≡ s
    → MatchOption r (NoNumber s close) (λ x. IsNumber s close x.0 x.1.now) → MatchOption r (NoNumber t close) (λ x. IsNumber t close
    x.0 x.1.now)
same_front {t} {s} close r e m =
    subst (λ (u : List ℕ). MatchOption r (NoNumber u close) (λ x. IsNumber u close x.0 x.1.now)) (sym e) m

-- a sixth digit
pub sixth : {t s : List ℕ} {b : ℕ} (v close : ℕ) → t ≡ b ∷ s → 10000 ≤ v → v < 100000 → NoDigit close → 48 ≤ b → b ≤ 57
    → NoNumber (number_text v ++ t) close
sixth {t} {s} {b} v close e big small nd l h w rest n =
    let value : (scan (10 * v + (b - 48)) s).0 ≡ w =
    ap (λ (x : ℕ × List ℕ). x.0) (sym (scan_digit v b s l h) ∙ ap (scan v) (sym e) ∙ scanned t v w close rest small nd n) in
    omega (arith, n.small, scan_up (10 * v + (b - 48)) s)

-- the text ends after the digits
pub ended : {t : List ℕ} (v close : ℕ) → t ≡ [] → v < 100000 → NoDigit close → NoNumber (number_text v ++ t) close
ended {t} v close e small nd w rest n =
    absurd (cc (ap (λ (x : ℕ × List ℕ). x.1) (ap (scan v) (sym e) ∙ scanned t v w close rest small nd n)))

-- a number that is `0`
pub zero_closed : {t s r : List ℕ} (close : ℕ) → t ≡ 48 ∷ s → s ≡ close ∷ r → IsNumber t close 0 r
zero_closed {t} {s} {r} close e f = record { small = omega arith; text = rw (one_digit 0 (omega arith)) (cc (e, f)) }

-- neither a digit nor the byte that ends the number
pub unclosed : {t s : List ℕ} {b : ℕ} (v close : ℕ) → t ≡ b ∷ s → v < 100000 → NoDigit close → NoDigit b → (b ≡ close → ⊥)
    → NoNumber (number_text v ++ t) close
unclosed {t} {s} {b} v close e small nd other differs w rest n =
    differs (
    ap (λ (x : ℕ × List ℕ). first_byte x.1)
    (sym (scan_other v b s other) ∙ ap (scan v) (sym e) ∙ scanned t v w close rest small nd n)
    )

-- the first digit of the number at the front of a text is the text's first byte
first_of : {t s : List ℕ} {b : ℕ} (w : ℕ) (rest : List ℕ) (h : Head (number_text w) w) → t ≡ b ∷ s → t ≡ number_text w ++ rest
    → h.first ≡ b
first_of w rest h e same = ap first_byte (sym (ap (λ (l : List ℕ). l ++ rest) h.same) ∙ sym same ∙ e)

-- a leading zero, with another byte than the closing one after it
pub zero_open : {t s : List ℕ} (close : ℕ) → t ≡ 48 ∷ s → ((rest : List ℕ) → s ≡ close ∷ rest → ⊥) → NoNumber t close
zero_open {t} {s} close e differs w rest n = differs rest (ap tail after)
  where
    zero_is : (n : ℕ) → (1 ≤ n → ⊥) → n ≡ 0
    zero_is n no_one = omega arith

    after : 48 ∷ s ≡ 48 ∷ close ∷ rest
    after =
        let h : Head (number_text w) w = head w n.small in
        let z : w ≡ 0 = zero_is w (λ one. omega (arith, h.nonzero one, first_of w (close ∷ rest) h e n.text)) in
        sym e ∙ (rw (z, one_digit 0 (omega arith)) at n.text)

-- no digit
pub no_first : {t s : List ℕ} {b : ℕ} (close : ℕ) → t ≡ b ∷ s → NoDigit b → NoNumber t close
no_first {t} {s} {b} close e other w rest n =
    let h : Head (number_text w) w = head w n.small in
    let f : h.first ≡ b = first_of w (close ∷ rest) h e n.text in
    ⊎_elim (λ l. omega (arith, h.low)) (λ g. omega (arith, h.high)) other

-- after a number and the byte that closes it one text follows
one_number : (v w c : ℕ) (r s : List ℕ) → v < 100000 → NoDigit c → IsNumber (number_text v ++ c ∷ r) c w s → r ≡ s
one_number v w c r s lv nc n = ap (λ (x : ℕ × List ℕ). tail x.1) (sym (scan_other v c r nc) ∙ scanned (c ∷ r) v w c s lv nc n)

-- two numbers, of which the second is none
pub numbers_second : (t : List ℕ) (middle close a : ℕ) (rest : List ℕ) → NoDigit middle → IsNumber t middle a rest → NoNumber rest close
    → NoNumbers t middle close
numbers_second t middle close a rest nm one not x y s n =
    not y s (
    record {
      small = n.second;
      text = one_number a x middle rest (number_text y ++ close ∷ s) one.small nm
          (record { small = n.first; text = sym one.text ∙ n.text });
    }
    )
