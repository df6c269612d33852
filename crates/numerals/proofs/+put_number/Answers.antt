-- `put_number` meets its contract: the digits of the tenth, if there is one, and the last digit. Assumes nothing.
use Rattle.std.proofs.Common.{ℕ, ◌≡◌, ◌/◌, ◌%◌, ◌+◌, arith, sym, ap, ◌∙◌, length, [], ◌∷◌}
use Rattle.numerals.specs.Numeral.{number_text}
use Rattle.numerals.proofs.Numbers.{one_digit}
use Rattle.numerals.proofs.LastDigit.{last_digit, last_length}
use Rattle.numerals.proofs.Puts.{put_then, put_length, put_as}
use Rattle.numerals.proofs.+put_number.Goals.{then-n-ge10, else-n-ge10}
use Rattle.numerals.proofs.+put_number.Goals as goal

pub put_number-last-requires : goal.put_number-last-requires
put_number-last-requires t c = (
  omega (arith, c.decreases, c.if-n-ge10.true),
  (omega (arith, c.requires.0), omega (arith, last_length c.args.n c.if-n-ge10.true c.requires.0, c.requires.1)),
)

pub put_byte-requires : goal.put_byte-requires
put_byte-requires t c =
    elim c.if-n-ge10.branch [
      | then-n-ge10 w ↦ omega (
        arith,
        w.last-is,
        ap length w.out-is,
        w.put_number-last.ensures.next,
        put_length (number_text (c.args.n / 10)) w.put_number-last.ensures,
        last_length c.args.n w.if-n-ge10.true c.requires.0,
        c.requires.1,
      )
      | else-n-ge10 w ↦ omega (
        arith,
        w.last-is,
        ap length w.out-is,
        ap length (one_digit c.args.n (omega (arith, w.if-n-ge10.false))),
        c.requires.1,
      )
    ]

pub returns : goal.returns
returns t c =
    let n = c.args.n in
    elim c.if-n-ge10.branch [
      | then-n-ge10 w ↦ put_as (sym (last_digit n w.if-n-ge10.true c.requires.0))
          (put_then (number_text (n / 10)) _ w.put_number-last.ensures (rw (w.out-is, w.last-is) at c.put_byte.ensures))
      | else-n-ge10 w ↦
          let one : n % 10 ≡ n = omega (arith, w.if-n-ge10.false) in
          put_as (ap (λ (d : ℕ). (48 + d) ∷ []) one ∙ sym (one_digit n w.if-n-ge10.false))
          (rw (w.out-is, w.last-is) at c.put_byte.ensures)
    ]
