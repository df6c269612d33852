-- Document 01: the program 'prints one line: `holds`, `fails`, or `refused` with a blank and the number'. Bytes are ASCII.
use Rattle.std.specs.Prelude.{ℕ, Bool, true, false, List, [], ◌∷◌, ◌++◌, Result, Ok, Err}
use Rattle.counting.specs.Ascii.{ascii}
use Rattle.numerals.specs.Numeral.{number_text}

-- the byte that ends a line
abbrev pub line_end : List ℕ
line_end = 10 ∷ []

-- the line `refused`, a blank, the number in decimal digits with no zero in front, and the line's end
unfoldable pub refused_line : ℕ → List ℕ
refused_line number = ascii "refused " ++ (number_text number ++ line_end)

-- the line of an answer: `holds`, `fails` or `refused` with the number
unfoldable pub line_of : Result Bool ℕ → List ℕ
line_of (Ok true) = ascii "holds" ++ line_end
line_of (Ok false) = ascii "fails" ++ line_end
line_of (Err number) = refused_line number
