-- What `without_newline` says: of an empty file nothing, of any other by its last byte. Assumes nothing.
use Prim.Native.Nat.{ℕ, ◌+◌, ◌-◌}
use mathlib.Core.List.{List, [], ◌∷◌, ◌++◌}
use mathlib.Core.Path.{◌≡◌, refl, ap, ◌∙◌}
use native.Mathlib.Omega.{arith}
use borrow.Author.Tests.{ne_eqb}
use lib.ListN.{length, get_or, take, length-append}
use lib.Seq.{take_at, get_or-append-add}
use Rattle.lines.specs.Texts.{without_newline}

-- an empty file stays empty
pub of_empty : without_newline [] ≡ []
unfolding without_newline
of_empty = refl

-- where the last byte stands
last_at : (t : List ℕ) (b : ℕ) → length (t ++ b ∷ []) - 1 ≡ length t
last_at t b = omega (arith, length-append t (b ∷ []))

-- the last byte
last_is : (t : List ℕ) (b : ℕ) → get_or (t ++ b ∷ []) (length (t ++ b ∷ []) - 1) 0 ≡ b
last_is t b =
    ap (λ (k : ℕ). get_or (t ++ b ∷ []) k 0) place ∙
    get_or-append-add t (b ∷ []) 0 0
  where
    place : length (t ++ b ∷ []) - 1 ≡ length t + 0
    place = omega (arith, last_at t b)

-- a final newline is dropped, and no second one
pub dropped : (t : List ℕ) → without_newline (t ++ 10 ∷ []) ≡ t
unfolding without_newline
dropped t = rw (last_is t 10) (ap (λ (k : ℕ). take k (t ++ 10 ∷ [])) (last_at t 10) ∙ take_at t (10 ∷ []) (length t) refl)

-- any other last byte stays
pub kept : (t : List ℕ) (b : ℕ) → (b ≡ 10 → ⊥) → without_newline (t ++ b ∷ []) ≡ t ++ b ∷ []
unfolding without_newline
kept t b other = rw (last_is t b, ne_eqb b 10 other) refl
