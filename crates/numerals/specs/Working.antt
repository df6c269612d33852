-- Working: what the functions of this crate promise one another. Nothing here has to be believed.
-- Reading and writing a number.
use Rattle.std.specs.Prelude.{ℕ, ◌+◌, ◌<◌, List, [], ◌∷◌, ◌++◌, ◌⊎◌, ◌≡◌, length}
use Rattle.std.proofs.lemmas.List.Edits.{sets}
use Rattle.numerals.specs.Numeral.{number_text}

-- the byte is no digit
abbrev pub NoDigit : ℕ → Type 0
NoDigit c = (c < 48) ⊎ (57 < c)

-- at the front of the text t stand the number v and the byte `close`, and then the rest
pub record IsNumber (t : List ℕ) (close v : ℕ) (rest : List ℕ) : Type 0 where
  pub small : v < 100000
  pub text : t ≡ number_text v ++ close ∷ rest

-- no number with the byte `close` after it stands at the front of the text t
abbrev pub NoNumber : List ℕ → ℕ → Type 0
NoNumber t close = (v : ℕ) (rest : List ℕ) → IsNumber t close v rest → ⊥

-- at the front of the text t stand the numbers a and b, the byte `middle` after the first and `close` after the second, and then
-- the rest
pub record AreNumbers (t : List ℕ) (middle close a b : ℕ) (rest : List ℕ) : Type 0 where
  pub first : a < 100000
  pub second : b < 100000
  pub text : t ≡ number_text a ++ middle ∷ (number_text b ++ close ∷ rest)

-- no two such numbers stand at the front of the text t
abbrev pub NoNumbers : List ℕ → ℕ → ℕ → Type 0
NoNumbers t middle close = (a b : ℕ) (rest : List ℕ) → AreNumbers t middle close a b rest → ⊥

-- the bytes s are written from the place `at` on: the output then, and the place after them
pub record Put (out : List ℕ) (at : ℕ) (s : List ℕ) (r : ℕ) (after : List ℕ) : Type 0 where
  pub next : r ≡ at + length s
  pub bytes : after ≡ sets out at s

-- the text of a byte and two numbers, with a byte after each
abbrev pub numbers_text : ℕ → ℕ → ℕ → ℕ → ℕ → List ℕ
numbers_text lead a middle b close = lead ∷ (number_text a ++ middle ∷ (number_text b ++ close ∷ []))
