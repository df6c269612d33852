-- `put_numbers` meets its contract: five writes, one after another.
-- Assumes nothing.
use mathlib.Core.List.{[], ◌∷◌}
use Rattle.numerals.specs.Numeral.{number_text}
use Rattle.numerals.proofs.Puts.{put_then}
use Rattle.numerals.proofs.put_numbers.Goals as goal

pub returns : goal.returns
returns c =
    let a = c.args in
    put_then (a.lead ∷ []) _ c.put_byte-first.ensures
    (put_then (number_text a.a) _ c.put_number-second.ensures
    (put_then (a.middle ∷ []) _ c.put_byte-third.ensures
    (put_then (number_text a.b) _ c.put_number-fourth.ensures
    c.put_byte.ensures)))
