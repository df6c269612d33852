-- Where the tuples stand in a layer: the state of a variable at a tuple's number, and the number of the tuple in which
-- the variable has another state.
use Prim.Native.Nat.{ℕ, zero, suc, ◌+◌, ◌*◌, ◌-◌, ◌/◌, ◌%◌, ◌^◌, ◌<◌}
use mathlib.Core.Path.{◌≡◌, sym, ap, ◌∙◌}
use native.Mathlib.Nat.{pow-succ', mod-lt, mod-eq_of_lt, div-lt_iff_lt-mul, mod-mod_of_dvd}
use native.Mathlib.Nat.{suc-sub-suc, not-suc-le-zero, dvd-mul_left, one-le-pow, pow-suc}
use native.Mathlib.Numerals.{sub-one}
use native.Mathlib.Omega.{arith}
use lib.Arith.{digits_div, mod-mul}
use lib.ListN.{length, get_or, set}
use lib.Pow.{pow-add}
use Rattle.meaning.specs.Lists.{nothing, further}
use Rattle.meaning.specs.Chain.{Tuple, Inside}
use Rattle.meaning.proofs.Numbers.{number_of, tuple_of, each_length, tuple_inside, number_tuple, tuple_number, number_set}

-- powers of a number of states are no divisors by zero
pub pow_some : (N n : ℕ) → 0 < N → 0 < N ^ n
pow_some N n h = one-le-pow n N h

-- the place i of n has n − 1 − i places after it
pub pow_place : (N n i : ℕ) → i < n → N ^ n ≡ N ^ i * N * N ^ (n - suc i)
pow_place N n i h =
    let e : n ≡ suc i + (n - suc i) = omega arith in
    ap (λ (x : ℕ). N ^ x) e ∙ pow-add N (suc i) (n - suc i) ∙ ap (λ (x : ℕ). x * N ^ (n - suc i)) (pow-suc N i)

module _ (N : ℕ) (some : 0 < N) where
  -- the states of later variables do not see the first
  later : (n i k : ℕ) → i < n → k % N ^ n / N ^ (n - suc i) % N ≡ k / N ^ (n - suc i) % N
  later n i k h =
      let stride = N ^ (n - suc i) in
      let below = pow_some N (n - suc i) some in
      let above : 0 < N ^ i * N = omega (arith, pow-suc N i, pow_some N (suc i) some) in
      ap (λ (x : ℕ). x / stride % N)
      (ap (λ (x : ℕ). k % x) (pow_place N n i h) ∙ mod-mul k {m = N ^ i * N} {c = stride} above below) ∙
      ap (λ (x : ℕ). x % N) (digits_div (k / stride % (N ^ i * N)) (mod-lt k below)) ∙
      mod-mod_of_dvd N (k / stride) (dvd-mul_left N (N ^ i))

  -- the state of the variable in place i, at the tuple's number
  pub state_at : (n i k : ℕ) → i < n → k < N ^ n → get_or (tuple_of N n k) i 0 ≡ k / N ^ (n - suc i) % N
  unfolding tuple_of
  state_at zero i k h l = absurd (not-suc-le-zero h)
  state_at (suc n) zero k h l =
      let e = pow-succ' N n in
      let small : k / N ^ n < N = (div-lt_iff_lt-mul (pow_some N n some)).1 (omega arith) in
      sym (mod-eq_of_lt small) ∙ ap (λ (x : ℕ). k / N ^ x % N) (sym (sub-one (suc n)))
  state_at (suc n) (suc i) k h l =
      state_at n i (k % N ^ n) (omega arith) (mod-lt k (pow_some N n some)) ∙
      later n i k (omega arith) ∙
      ap (λ (x : ℕ). k / N ^ x % N) (sym (suc-sub-suc n (suc i)))

  -- another state in its place keeps the tuple inside
  pub set_inside : {n : ℕ} {s : Tuple} → Inside N n s → (i t : ℕ) → t < N → Inside N n (set s i t)
  set_inside nothing i t h = nothing
  set_inside (further p e) zero t h = further h e
  set_inside (further p e) (suc i) t h = further p (set_inside e i t h)

  -- the tuple with another state of that variable has the number that differs by what the place counts
  pub tuple_moved : (n i k m t : ℕ) → i < n → k < N ^ n → t < N →
      m + k / N ^ (n - suc i) % N * N ^ (n - suc i) ≡ k + t * N ^ (n - suc i) → tuple_of N n m ≡ set (tuple_of N n k) i t
  tuple_moved n i k m t h l small e =
      let s = tuple_of N n k in
      let i-n = tuple_inside N n k l in
      let less : i < length s = omega (arith, each_length i-n) in
      let place : N ^ (length s - suc i) ≡ N ^ (n - suc i) = ap (λ (x : ℕ). N ^ (x - suc i)) (each_length i-n) in
      let state = state_at n i k h l in
      let number = number_tuple N n k l in
      let r = number_set N i t s less in
      let stride = N ^ (n - suc i) in
      let r' : number_of N (set s i t) + get_or s i 0 * stride ≡ number_of N s + t * stride = rw place at r in
      let r'' : number_of N (set s i t) + k / stride % N * stride ≡ number_of N s + t * stride = rw state at r' in
      let p : m ≡ number_of N (set s i t) = omega arith in
      ap (λ (x : ℕ). tuple_of N n x) p ∙ tuple_number N (set_inside i-n i t small)
