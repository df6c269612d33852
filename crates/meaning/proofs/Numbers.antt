-- The number of a tuple among the T tuples of n states, variable 1 counting most: its place in a layer of T numbers.
use Prim.Native.Nat.{ℕ, zero, suc, ◌+◌, ◌*◌, ◌-◌, ◌/◌, ◌%◌, ◌^◌, ◌<◌}
use mathlib.Core.List.{List, [], ◌∷◌}
use mathlib.Core.Path.{◌≡◌, refl, ap, ap₂, ◌∙◌}
use native.Mathlib.Nat.{pow-zero, pow-succ', div-lt_iff_lt-mul, div-add-mod', mod-lt, mul-zero, not-suc-le-zero}
use native.Mathlib.Nat.{suc-sub-suc}
use native.Mathlib.Numerals.{sub-one}
use native.Mathlib.Omega.{arith}
use lib.Arith.{digits_lt, digits_div, digits_mod}
use lib.ListN.{length, get_or, set, length-set}
use Rattle.meaning.specs.Lists.{Each, nothing, further}
use Rattle.meaning.specs.Chain.{Tuple, Inside}

-- a tuple's number
unfoldable pub number_of : ℕ → Tuple → ℕ
number_of N [] = 0
number_of N (s ∷ ss) = s * N ^ length ss + number_of N ss

-- the tuple of n states that has the number k
unfoldable pub tuple_of : (N n k : ℕ) → Tuple
tuple_of N zero k = []
tuple_of N (suc n) k = k / N ^ n ∷ tuple_of N n (k % N ^ n)

-- a list with n members has the length n
pub each_length : {A : Type 0} {P : A → Type 0} {n : ℕ} {xs : List A} → Each P n xs → length xs ≡ n
each_length nothing = refl
each_length (further p e) = ap suc (each_length e)

module _ (N : ℕ) where
  -- it is below T
  pub number_below : {n : ℕ} {s : Tuple} → Inside N n s → number_of N s < N ^ n
  unfolding number_of
  number_below nothing =
      let e = pow-zero N in
      omega arith
  number_below (further {n = n} {x = s} {xs = ss} h i) =
      let r : number_of N ss < N ^ length ss = rw (each_length i) (number_below i) in
      let q = digits_lt h r in
      let e = pow-succ' N n in
      let f : N * N ^ length ss ≡ N * N ^ n = ap (λ (x : ℕ). N * N ^ x) (each_length i) in
      omega arith

  -- powers of N are no divisors by zero where there is a number below one
  pow_positive : (n k : ℕ) → k < N ^ suc n → 0 < N ^ n
  pow_positive n k h = split (N ^ n) refl
    where
      split : (x : ℕ) → N ^ n ≡ x → 0 < x
      split zero e =
          let z : N ^ suc n ≡ 0 = pow-succ' N n ∙ ap (λ (y : ℕ). N * y) e ∙ mul-zero N in
          omega arith
      split (suc x) e = omega arith

  -- the tuple with a number below T is inside
  pub tuple_inside : (n k : ℕ) → k < N ^ n → Inside N n (tuple_of N n k)
  unfolding tuple_of
  tuple_inside zero k h = nothing
  tuple_inside (suc n) k h =
      let p = pow_positive n k h in
      let e = pow-succ' N n in
      let l : k < N * N ^ n = omega arith in
      further ((div-lt_iff_lt-mul p).1 l) (tuple_inside n (k % N ^ n) (mod-lt k p))

  -- and has that number
  pub number_tuple : (n k : ℕ) → k < N ^ n → number_of N (tuple_of N n k) ≡ k
  unfolding tuple_of number_of
  number_tuple zero k h =
      let e = pow-zero N in
      omega arith
  number_tuple (suc n) k h =
      let p = pow_positive n k h in
      let i = tuple_inside n (k % N ^ n) (mod-lt k p) in
      let r = number_tuple n (k % N ^ n) (mod-lt k p) in
      ap₂ (λ (x y : ℕ). k / N ^ n * N ^ x + y) (each_length i) r ∙ div-add-mod' k (N ^ n)

  -- a tuple is that with its number
  pub tuple_number : {n : ℕ} {s : Tuple} → Inside N n s → tuple_of N n (number_of N s) ≡ s
  unfolding tuple_of number_of
  tuple_number nothing = refl
  tuple_number (further {n = n} {x = s} {xs = ss} h i) =
      let l = number_below i in
      ap (λ (x : ℕ). tuple_of N (suc n) (s * N ^ x + number_of N ss)) (each_length i) ∙
      ap₂ (λ (x y : ℕ). x ∷ tuple_of N n y) (digits_div s l) (digits_mod s l) ∙
      ap (λ (x : Tuple). s ∷ x) (tuple_number i)

  -- another state t in place i changes the number by what the place counts
  pub number_set : (i t : ℕ) (s : Tuple) → i < length s →
      number_of N (set s i t) + get_or s i 0 * N ^ (length s - suc i) ≡ number_of N s + t * N ^ (length s - suc i)
  unfolding number_of
  number_set i t [] h = absurd (not-suc-le-zero h)
  number_set zero t (s ∷ ss) h =
      let e : N ^ (suc (length ss) - 1) ≡ N ^ length ss = ap (λ (x : ℕ). N ^ x) (sub-one (suc (length ss))) in
      omega (arith, ap (λ (x : ℕ). s * x) e, ap (λ (x : ℕ). t * x) e)
  number_set (suc i) t (s ∷ ss) h =
      let r = number_set i t ss (omega arith) in
      let l : N ^ length (set ss i t) ≡ N ^ length ss = ap (λ (x : ℕ). N ^ x) (length-set ss i t) in
      let d = suc-sub-suc (length ss) (suc i) in
      let e : N ^ (suc (length ss) - suc (suc i)) ≡ N ^ (length ss - suc i) = ap (λ (x : ℕ). N ^ x) d in
      omega (arith, ap (λ (x : ℕ). s * x) l, ap (λ (x : ℕ). get_or ss i 0 * x) e, ap (λ (x : ℕ). t * x) e)
