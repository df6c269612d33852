-- Texts as bytes, in ASCII.
use Rattle.std.specs.Prelude.{ℕ, zero, suc, List, [], ◌∷◌}
use Prim.Native.Char.{code}
use Prim.Native.String.{String, len, char_at}

-- the byte of a text of one character
abbrev pub byte : String → ℕ
byte text = code (char_at text 0)

-- the k bytes of a text from place i on
abbrev pub bytes_from : String → (i k : ℕ) → List ℕ
bytes_from text i zero = []
bytes_from text i (suc k) = code (char_at text i) ∷ bytes_from text (suc i) k

-- the bytes of a text
abbrev pub ascii : String → List ℕ
ascii text = bytes_from text 0 (len text)
