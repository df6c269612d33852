-- A joint step of some variables is a step of one after another: v × N products a tuple and not N^v.
use Prim.Native.Nat.{ℕ, zero, suc, ◌*◌, ◌<◌}
use mathlib.Core.Bool.{true, false}
use mathlib.Core.List.{[], ◌∷◌}
use mathlib.Core.Path.{◌≡◌, refl, sym, ap, ◌∙◌, fun_ext}
use native.Mathlib.Nat.{not-suc-le-zero}
use native.Mathlib.Omega.{arith}
use lib.ListN.{length, get_or, set}
use Rattle.meaning.specs.Lists.{below, total, nothing, further}
use Rattle.meaning.specs.Chain.{Chain, Tuple, Inside}
use Rattle.meaning.specs.Named.{Some, count, chosen, placed}
use Rattle.meaning.proofs.Sums.{total_same}
use Rattle.meaning.proofs.Steps.{steps, step_none, step_first}

-- a step of the variable in place i, counted from 0: the others stay
unfoldable pub step_one : Chain → ℕ → (Tuple → ℕ) → Tuple → ℕ
step_one c i f [] = f []
step_one c zero f (s ∷ ss) = total (λ t. c.weight s t * f (t ∷ ss)) (below c.N)
step_one c (suc i) f (s ∷ ss) = step_one c i (λ ts. f (s ∷ ts)) ss

-- a step of some of the variables in places i, i + 1, .., that in the last place first
unfoldable pub step_from : Chain → (i : ℕ) → Some → (Tuple → ℕ) → Tuple → ℕ
step_from c i [] f s = f s
step_from c i (true ∷ bs) f s = step_one c i (λ t. step_from c (suc i) bs f t) s
step_from c i (false ∷ bs) f s = step_from c (suc i) bs f s

module _ (c : Chain) where
  -- what it is at a tuple: over all states t, the weight from the variable's state to t times the function where the
  -- variable has t
  pub step_one_at : (i : ℕ) (f : Tuple → ℕ) (s : Tuple) → i < length s →
      step_one c i f s ≡ total (λ t. c.weight (get_or s i 0) t * f (set s i t)) (below c.N)
  unfolding step_one
  step_one_at i f [] h = absurd (not-suc-le-zero h)
  step_one_at zero f (s ∷ ss) h = refl
  step_one_at (suc i) f (s ∷ ss) h = step_one_at i (λ ts. f (s ∷ ts)) ss (omega arith)

  -- functions that agree have the same step
  pub step_one_same : (i : ℕ) (f g : Tuple → ℕ) → ((t : Tuple) → f t ≡ g t) →
      (s : Tuple) → step_one c i f s ≡ step_one c i g s
  step_one_same i f g h s = ap (λ x. step_one c i x s) (fun_ext h)

  -- steps of later variables do not see the first
  step_from_later : (i : ℕ) (bs : Some) (f : Tuple → ℕ) (s : ℕ) (ss : Tuple) →
      step_from c (suc i) bs f (s ∷ ss) ≡ step_from c i bs (λ ts. f (s ∷ ts)) ss
  unfolding step_from step_one
  step_from_later i [] f s ss = refl
  step_from_later i (true ∷ bs) f s ss = step_one_same i _ _ (λ ts. step_from_later (suc i) bs f s ts) ss
  step_from_later i (false ∷ bs) f s ss = step_from_later (suc i) bs f s ss

  -- a step of each of some variables is their joint step
  pub step_from_joint : (bs : Some) {s : Tuple} → Inside c.N (length bs) s → (f : Tuple → ℕ) →
      step_from c 0 bs f s ≡ steps c bs f s
  unfolding step_from step_one steps count chosen placed
  step_from_joint [] nothing f = sym (step_none c (λ t. f []))
  step_from_joint (true ∷ bs) (further {x = s} {xs = ss} h i) f =
      total_same _ _ (below c.N)
      (λ t m.
      ap (λ (x : ℕ). c.weight s t * x) (step_from_later 0 bs f t ss ∙ step_from_joint bs i (λ ts. f (t ∷ ts)))) ∙
      sym (step_first c (count bs) (λ ts. f (placed (true ∷ bs) (s ∷ ss) ts)) s (chosen bs ss))
  step_from_joint (false ∷ bs) (further {x = s} {xs = ss} h i) f =
      step_from_later 0 bs f s ss ∙ step_from_joint bs i (λ ts. f (s ∷ ts))
