-- The words about finite lists in which the rest is said: the numbers below n, every, there is, the total, all lists
-- of n members; and in which theorems speak of lists: n members of a kind, no member twice.
use Rattle.std.specs.Prelude.{ℕ, zero, suc, ◌+◌, Bool, true, false, ◌&&◌, ◌||◌}
use mathlib.Core.List.{List, [], ◌∷◌, ◌++◌, map, flat_map, Memᴰ}

-- the numbers 0, 1, .., n − 1, in this order
unfoldable pub below : ℕ → List ℕ
below zero = []
below (suc n) = below n ++ (n ∷ [])

module _ {A : Type 0} where
  -- every member of the list meets the test
  unfoldable pub every : (A → Bool) → List A → Bool
  every test [] = true
  every test (x ∷ xs) = test x && every test xs

  -- some member of the list meets the test
  unfoldable pub there_is : (A → Bool) → List A → Bool
  there_is test [] = false
  there_is test (x ∷ xs) = test x || there_is test xs

  -- the total of f over the list
  unfoldable pub total : (A → ℕ) → List A → ℕ
  total f [] = 0
  total f (x ∷ xs) = f x + total f xs

  -- all lists of n members, each member taken from xs; the first member counts most in their order
  unfoldable pub lists : List A → ℕ → List (List A)
  lists xs zero = [] ∷ []
  lists xs (suc n) = flat_map (λ x. map (λ l. x ∷ l) (lists xs n)) xs

  -- the list has n members, and each has the property P
  pub data Each (P : A → Type 0) : ℕ → List A → Type 0 where
    nothing : Each P zero []
    further : {n : ℕ} {x : A} {xs : List A} → P x → Each P n xs → Each P (suc n) (x ∷ xs)

  -- no member of the list stands in it twice
  pub data Distinct : List A → Type 0 where
    nobody : Distinct []
    another : {x : A} {xs : List A} → (Memᴰ x xs → ⊥) → Distinct xs → Distinct (x ∷ xs)
