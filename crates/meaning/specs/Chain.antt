-- Chains, tuples and runs: document 01, 'Meaning', first and second paragraph.
use Rattle.std.specs.Prelude.{ℕ, ◌*◌, ◌^◌, ◌<◌, Bool, List, [], ◌∷◌, map, ◌≡◌}
use Rattle.meaning.specs.Lists.{below, total, lists, Each}

-- A Markov chain with whole-number weights: N states, numbered from 0; the sum D of each state's weights; the weight
-- from a state to a state; whether a label, numbered from 0, is a state's label.
pub record Chain : Type 0 where
  pub N : ℕ
  pub D : ℕ
  pub weight : ℕ → ℕ → ℕ
  pub label : ℕ → ℕ → Bool

-- every state's weights add up to D
unfoldable pub Sound : Chain → Type 0
Sound c = (s : ℕ) → s < c.N → total (c.weight s) (below c.N) ≡ c.D

-- a tuple: a state for each variable, that of variable 1 first
abbrev pub Tuple : Type 0
Tuple = List ℕ

-- the tuple consists of n states of a chain with N states
abbrev pub Inside : ℕ → ℕ → Tuple → Type 0
Inside N n s = Each (λ t. t < N) n s

-- all tuples of n states, variable 1 counting most in their order
unfoldable pub tuples : Chain → ℕ → List Tuple
tuples c n = lists (below c.N) n

-- T, the number of tuples: N to the power n
unfoldable pub tuple_count : Chain → ℕ → ℕ
tuple_count c n = c.N ^ n

-- the joint weight from one tuple to another of as many states: the product of the single weights
unfoldable pub joint : Chain → Tuple → Tuple → ℕ
joint c [] ts = 1
joint c (s ∷ ss) [] = 1
joint c (s ∷ ss) (t ∷ ts) = c.weight s t * joint c ss ts

-- a run of k steps: k + 1 tuples
abbrev pub Run : Type 0
Run = List Tuple

-- its weight: the product of its joint weights
unfoldable pub run_weight : Chain → Run → ℕ
run_weight c [] = 1
run_weight c (s ∷ []) = 1
run_weight c (s ∷ (t ∷ r)) = joint c s t * run_weight c (t ∷ r)

-- all runs of k steps that start at the tuple s: any k tuples may follow it
unfoldable pub runs : Chain → ℕ → ℕ → Tuple → List Run
runs c n k s = map (λ r. s ∷ r) (lists (tuples c n) k)
