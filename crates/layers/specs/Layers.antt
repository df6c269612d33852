-- Working: what the functions of this crate promise one another. Nothing here has to be believed.
--
-- A layer: T numbers at the front of the lent work area, one for each tuple of n states, in the order of the tuples'
-- numbers. The contracts of this crate say what a layer holds after a call, and that what lies past it has stayed.
use Rattle.std.specs.Prelude.{ℕ, ◌+◌, ◌^◌, ◌≤◌, ◌<◌, Bool, cond, List, ◌≡◌, eqb, length, get_or, drop}
use Rattle.counting.specs.Entries.{bit_of}
use Rattle.meaning.specs.Chain.{Tuple}
use Rattle.meaning.proofs.Numbers.{tuple_of}

-- the front of the list is the layer of the function f on tuples of n of N states
pub record Layer (N n : ℕ) (f : Tuple → ℕ) (w : List ℕ) : Type 0 where
  pub at : (k : ℕ) → k < N ^ n → get_or w k 0 ≡ f (tuple_of N n k)

-- a formula's layer holds its truth at each tuple: 1 where it is met, 0 elsewhere
abbrev pub truth : (Tuple → Bool) → Tuple → ℕ
truth meets s = cond (meets s) 1 0

-- at most the first `count` numbers have changed
pub record RestKept (count : ℕ) (before after : List ℕ) : Type 0 where
  pub long : length after ≡ length before
  pub rest : drop count after ≡ drop count before

-- number k of the first `count` is now f k, and no other has changed
pub record WrittenFront (count : ℕ) (f : ℕ → ℕ) (before after : List ℕ) : Type 0 where
  pub each : (k : ℕ) → k < count → get_or after k 0 ≡ f k
  pub kept : RestKept count before after

-- number k of the `count` from `base` on is now f k, and no other has changed
pub record WrittenAt (base count : ℕ) (f : ℕ → ℕ) (before after : List ℕ) : Type 0 where
  pub long : length after ≡ length before
  pub each : (k : ℕ) → k < count → get_or after (base + k) 0 ≡ f k
  pub low : (k : ℕ) → k < base → get_or after k 0 ≡ get_or before k 0
  pub high : (k : ℕ) → base + count ≤ k → get_or after k 0 ≡ get_or before k 0

-- the first two layers have changed places, and no other number has changed
pub record Swapped (T : ℕ) (before after : List ℕ) : Type 0 where
  pub long : length after ≡ length before
  pub first : (k : ℕ) → k < T → get_or after k 0 ≡ get_or before (T + k) 0
  pub second : (k : ℕ) → k < T → get_or after (T + k) 0 ≡ get_or before k 0
  pub past : (k : ℕ) → T + T ≤ k → get_or after k 0 ≡ get_or before k 0

-- not: 1 where the layer has 0, and 0 elsewhere
abbrev pub negated_at : List ℕ → ℕ → ℕ
negated_at w k = cond (eqb (get_or w k 0) 0) 1 0

-- and: the front layer's number, or 0 where the second layer has 0
abbrev pub both_at : (T : ℕ) → List ℕ → ℕ → ℕ
both_at T w k = cond (eqb (get_or w (T + k) 0) 0) 0 (get_or w k 0)

-- bit l of the mask of state s, as a number; `bit` of the crate `chain` is the test whether it is 1
abbrev pub bit_at : List ℕ → (l s : ℕ) → ℕ
bit_at masks l s = bit_of l (get_or masks s 0)
