-- One joint step, and what it makes of runs: the weights of all runs from a tuple add up to the denominator, a next is
-- one step, a run taken is counted with its whole weight.
use Prim.Native.Nat.{ℕ, zero, suc, ◌*◌, ◌^◌, ◌≤◌}
use mathlib.Core.Bool.{Bool, true, false, cond}
use mathlib.Core.List.{[], ◌∷◌}
use mathlib.Core.Path.{◌≡◌, refl, sym, ap, ◌∙◌, subst}
use native.Mathlib.Nat.{mul_assoc, mul-one, mul-zero, mul-suc, one-mul, pow-zero, pow-succ', add_comm, le_of_eq}
use native.Mathlib.Nat.{le_trans, mul-le-mul_left}
use native.Mathlib.Omega.{arith}
use lib.Pow.{pow-add}
use Rattle.meaning.specs.Lists.{below, total, lists, nothing, further}
use Rattle.meaning.specs.Chain.{Chain, Sound, Tuple, Inside, tuples, joint, Run, run_weight, runs}
use Rattle.meaning.specs.Tree.{PathFormula, next, until}
use Rattle.meaning.specs.Named.{Some, count, v, chosen, placed}
use Rattle.meaning.specs.Meaning.{position, next_takes, taken_weight, steps_of, denominator, numerator}
use Rattle.meaning.proofs.Sums.{total_same, total_le, total_map, total_lists, total_lists_zero, total_scale}
use Rattle.meaning.proofs.Sums.{total_scale_right, cond_scale}
use Rattle.meaning.proofs.Runs.{tuples_inside}
use Rattle.meaning.proofs.Named.{named_inside}

-- one joint step of a function on tuples: the total, over all tuples, of the joint weight times the function there
unfoldable pub step : Chain → ℕ → (Tuple → ℕ) → Tuple → ℕ
step c n f s = total (λ t. joint c s t * f t) (tuples c n)

-- a step of some variables: the others stay
unfoldable pub steps : Chain → Some → (Tuple → ℕ) → Tuple → ℕ
steps c those f s = step c (count those) (λ t. f (placed those s t)) (chosen those s)

-- a step of no variables
pub step_none : (c : Chain) (f : Tuple → ℕ) → step c 0 f [] ≡ f []
unfolding step tuples joint
step_none c f = total_lists_zero (λ t. 1 * f t) (below c.N) ∙ one-mul (f [])

module _ (c : Chain) (n : ℕ) where
  -- functions that agree inside the chain have the same step
  pub step_same : (f g : Tuple → ℕ) → ((t : Tuple) → Inside c.N n t → f t ≡ g t) →
      (s : Tuple) → step c n f s ≡ step c n g s
  unfolding step
  step_same f g h s =
      total_same _ _ (tuples c n) (λ t m. ap (λ (x : ℕ). joint c s t * x) (h t (tuples_inside c n m)))

  -- functions of which one is no larger there have steps of which one is no larger
  pub step_le : (f g : Tuple → ℕ) → ((t : Tuple) → Inside c.N n t → f t ≤ g t) → (s : Tuple) → step c n f s ≤ step c n g s
  unfolding step
  step_le f g h s = total_le _ _ (tuples c n) (λ t m. mul-le-mul_left (joint c s t) (h t (tuples_inside c n m)))

  -- a factor of a function is one of its step
  pub step_scale : (k : ℕ) (f : Tuple → ℕ) (s : Tuple) → step c n (λ t. f t * k) s ≡ step c n f s * k
  unfolding step
  step_scale k f s =
      total_same _ _ (tuples c n) (λ t m. sym (mul_assoc (joint c s t) (f t) k)) ∙ total_scale_right k (λ t. joint c s t * f t) (tuples c n)

  -- a step of n + 1 variables: over the first variable's state, then over the others'
  pub step_first : (f : Tuple → ℕ) (s : ℕ) (ss : Tuple) →
      step c (suc n) f (s ∷ ss) ≡ total (λ t. c.weight s t * step c n (λ ts. f (t ∷ ts)) ss) (below c.N)
  unfolding step joint tuples
  step_first f s ss =
      total_lists (λ t. joint c (s ∷ ss) t * f t) (below c.N) n ∙
      total_same _ _ (below c.N)
      (λ t m.
      total_same _ _ (lists (below c.N) n) (λ ts w. mul_assoc (c.weight s t) (joint c ss ts) (f (t ∷ ts))) ∙
      total_scale (c.weight s t) (λ ts. joint c ss ts * f (t ∷ ts)) (lists (below c.N) n))

  -- over the one run of no steps
  pub total_runs_zero : (F : Run → ℕ) (s : Tuple) → total F (runs c n 0 s) ≡ F (s ∷ [])
  unfolding runs
  total_runs_zero F s = total_map F (λ r. s ∷ r) (lists (tuples c n) 0) ∙ total_lists_zero (λ r. F (s ∷ r)) (tuples c n)

  -- over the runs of k + 1 steps, where the first joint weight is a factor: a step of the total over what follows
  pub total_runs_step : (F G : Run → ℕ) (k : ℕ) (s : Tuple) →
      ((t : Tuple) → Inside c.N n t → (r : Run) → F (s ∷ (t ∷ r)) ≡ joint c s t * G (t ∷ r)) →
      total F (runs c n (suc k) s) ≡ step c n (λ t. total G (runs c n k t)) s
  unfolding runs step
  total_runs_step F G k s h =
      total_map F (λ r. s ∷ r) (lists (tuples c n) (suc k)) ∙
      total_lists (λ r. F (s ∷ r)) (tuples c n) k ∙
      total_same _ _ (tuples c n)
      (λ t m.
      total_same _ (λ r. joint c s t * G (t ∷ r)) (lists (tuples c n) k) (λ r w. h t (tuples_inside c n m) r) ∙
      total_scale (joint c s t) (λ r. G (t ∷ r)) (lists (tuples c n) k) ∙
      ap (λ (x : ℕ). joint c s t * x) (sym (total_map G (λ r. t ∷ r) (lists (tuples c n) k))))

module _ (c : Chain) (sound : Sound c) where
  -- the joint weights from a tuple add up to D^n
  pub joint_total : {n : ℕ} {s : Tuple} → Inside c.N n s → total (joint c s) (tuples c n) ≡ c.D ^ n
  unfolding tuples joint Sound
  joint_total nothing = total_lists_zero (joint c []) (below c.N) ∙ sym (pow-zero c.D)
  joint_total (further {n = n} {x = s} {xs = ss} h i) =
      total_lists (joint c (s ∷ ss)) (below c.N) n ∙
      total_same _ (λ t. c.weight s t * c.D ^ n) (below c.N)
      (λ t m.
      total_scale (c.weight s t) (joint c ss) (lists (below c.N) n) ∙
      ap (λ (x : ℕ). c.weight s t * x) (joint_total i)) ∙
      total_scale_right (c.D ^ n) (c.weight s) (below c.N) ∙
      ap (λ (x : ℕ). x * c.D ^ n) (sound s h) ∙
      sym (pow-succ' c.D n)

  -- a step of a constant
  pub step_constant : (n x : ℕ) {s : Tuple} → Inside c.N n s → step c n (λ t. x) s ≡ c.D ^ n * x
  unfolding step
  step_constant n x {s} i = total_scale_right x (joint c s) (tuples c n) ∙ ap (λ (y : ℕ). y * x) (joint_total i)

  -- a step of D^(n × k) is D^(n × (k + 1))
  pub step_denominator : (n k : ℕ) {s : Tuple} → Inside c.N n s →
      step c n (λ t. c.D ^ (n * k)) s ≡ c.D ^ (n * suc k)
  step_denominator n k i =
      step_constant n (c.D ^ (n * k)) i ∙
      sym (pow-add c.D n (n * k)) ∙
      ap (λ (x : ℕ). c.D ^ x) (add_comm n (n * k) ∙ sym (mul-suc n k))

  -- the weights of all runs of k steps from a tuple add up to D^(n × k)
  pub runs_total : (n k : ℕ) {s : Tuple} → Inside c.N n s → total (run_weight c) (runs c n k s) ≡ c.D ^ (n * k)
  unfolding run_weight
  runs_total n zero {s} i =
      total_runs_zero c n (run_weight c) s ∙ sym (pow-zero c.D) ∙ ap (λ (x : ℕ). c.D ^ x) (sym (mul-zero n))
  runs_total n (suc k) {s} i =
      total_runs_step c n (run_weight c) (run_weight c) k s (λ t m r. refl) ∙
      step_same c n _ (λ t. c.D ^ (n * k)) (λ t m. runs_total n k m) s ∙
      step_denominator n k i

-- a run adds its weight or nothing
taken_le : (b : Bool) (x : ℕ) → cond b x 0 ≤ x
taken_le true x = omega arith
taken_le false x = omega arith

-- the runs taken weigh no more than all: at most D^(n × k)
pub taken_weight_le : (c : Chain) → Sound c → (n k : ℕ) (takes : Run → Bool) {s : Tuple} → Inside c.N n s →
    taken_weight c n k takes s ≤ c.D ^ (n * k)
unfolding taken_weight
taken_weight_le c sound n k takes {s} i =
    le_trans
    (total_le _ (run_weight c) (runs c n k s) (λ r m. taken_le (takes r) (run_weight c r)))
    (le_of_eq (runs_total c sound n k i))

-- a path's denominator, by its steps
pub denominator_steps : (p : PathFormula) (D n : ℕ) → denominator p D n ≡ D ^ (v p n * steps_of p)
unfolding denominator
denominator_steps (next f) D n = ap (λ (x : ℕ). D ^ x) (sym (mul-one (v (next f) n)))
denominator_steps (until k1 k2 f g) D n = refl

-- a path's numerator is at most its denominator
pub numerator_le : (p : PathFormula) (c : Chain) → Sound c → (n : ℕ) {s : Tuple} → Inside c.N n s →
    numerator p c n s ≤ denominator p c.D n
unfolding numerator denominator
numerator_le (next f) c sound n {s} i =
    subst (λ (x : ℕ). numerator (next f) c n s ≤ c.D ^ x) (mul-one (v (next f) n))
    (taken_weight_le c sound (v (next f) n) 1 _ (named_inside (next f) i))
numerator_le (until k1 k2 f g) c sound n i =
    taken_weight_le c sound (v (until k1 k2 f g) n) k2 _ (named_inside (until k1 k2 f g) i)

-- a next is one step
pub next_step : (meets : Tuple → Bool) (c : Chain) (n : ℕ) (s : Tuple) →
    taken_weight c n 1 (next_takes meets) s ≡ step c n (λ t. cond (meets t) 1 0) s
unfolding taken_weight next_takes position run_weight
next_step meets c n s =
    total_runs_step c n _ (λ r. cond (meets (position r 0)) (run_weight c r) 0) 0 s
    (λ t m r. cond_scale (meets t) (joint c s t) (run_weight c (t ∷ r))) ∙
    step_same c n _ (λ t. cond (meets t) 1 0) (λ t m. total_runs_zero c n _ t) s
