-- T-09: a run that an until takes is still taken however it goes on (`until_prolonged`), so one step more never lowers a numerator
-- (`one_step_more`, `longer_watch`); and runs taken and runs not taken add up to the denominator (`taken_and_not`).
use Prim.Native.Nat.{ℕ, zero, suc, ◌+◌, ◌*◌, ◌-◌, ◌^◌, ◌≤◌, ◌<◌}
use mathlib.Core.Bool.{Bool, true, false, cond}
use mathlib.Core.List.{[], ◌∷◌, ◌++◌}
use mathlib.Core.Path.{◌≡◌, refl, sym, ap, subst, ◌∙◌}
use native.Mathlib.Nat.{mul_assoc, mul-one, mul-zero, mul-suc, mul-add, pow-zero, le_of_eq, le_trans}
use native.Mathlib.Nat.{mul-le-mul_right}
use native.Mathlib.Omega.{arith}
use lib.ListN.{length, get_or-append}
use lib.Pow.{pow-add}
use Rattle.meaning.specs.Lists.{total}
use Rattle.meaning.specs.Chain.{Chain, Sound, Tuple, Inside, joint, Run, run_weight, runs}
use Rattle.meaning.specs.Tree.{Formula, PathFormula, next, until}
use Rattle.meaning.specs.Named.{Some, count, occurs_from, named, v, chosen}
use Rattle.meaning.specs.Meaning.{position, until_takes, taken_weight, steps_of, denominator, numerator}
use Rattle.meaning.specs.Watches.{takes, not_taken}
use Rattle.meaning.proofs.Sums.{total_same, total_add, cond_scale}
use Rattle.meaning.proofs.Named.{named_inside}
use Rattle.meaning.proofs.Steps.{step, step_same, step_le, step_scale, step_constant, total_runs_zero, total_runs_step}
use Rattle.meaning.proofs.Steps.{runs_total, denominator_steps}
use Rattle.meaning.proofs.Until.{until_means}

-- ---- a run taken is still taken however it goes on

-- the positions of a run stay where it goes on
position_stays : (r : Run) (t : Tuple) (j : ℕ) → j < length r → position (r ++ (t ∷ [])) j ≡ position r j
unfolding position
position_stays r t j h = get_or-append r (t ∷ []) [] j h

module _ (first second : Tuple → Bool) (k1 k2 : ℕ) where
  -- so a match stays one, in the window with one moment more
  pub until_prolonged : (r : Run) (t : Tuple) → length r ≡ suc k2 →
      until_takes first second k1 k2 r ≡ true → until_takes first second k1 (suc k2) (r ++ (t ∷ [])) ≡ true
  until_prolonged r t long e =
      let m = (until_means first second k1 k2 r).0 e in
      let within = m.closing in
      (until_means first second k1 (suc k2) (r ++ (t ∷ []))).1
      (record {
        j = m.j;
        opened = m.opened;
        closing = omega arith;
        meets = ap second (position_stays r t m.j (omega arith)) ∙ m.meets;
        before = λ i l. ap first (position_stays r t i (omega arith)) ∙ m.before i l;
      })

-- ---- runs of one step more

-- the runs taken, by their first step
taken_step : (c : Chain) (n k : ℕ) (test : Run → Bool) (s : Tuple) →
    taken_weight c n (suc k) test s ≡ step c n (λ t. taken_weight c n k (λ r. test (s ∷ r)) t) s
unfolding taken_weight run_weight
taken_step c n k test s =
    total_runs_step c n _ (λ r. cond (test (s ∷ r)) (run_weight c r) 0) k s
    (λ t m r. cond_scale (test (s ∷ (t ∷ r))) (joint c s t) (run_weight c (t ∷ r)))

-- the one run of no steps
taken_none : (c : Chain) (n : ℕ) (test : Run → Bool) (s : Tuple) → taken_weight c n 0 test s ≡ cond (test (s ∷ [])) 1 0
unfolding taken_weight run_weight
taken_none c n test s = total_runs_zero c n _ s

module _ (c : Chain) (sound : Sound c) (n : ℕ) where
  -- where the run of no steps is taken, all runs of one step are
  first_step : (b : Bool) (test : Run → Bool) {s : Tuple} → Inside c.N n s → (b ≡ true → (t : Tuple) → test (s ∷ (t ∷ [])) ≡ true) →
      cond b 1 0 * c.D ^ n ≤ step c n (λ t. cond (test (s ∷ (t ∷ []))) 1 0) s
  first_step true test {s} i kept =
      let all = step_same c n (λ t. cond (test (s ∷ (t ∷ []))) 1 0) (λ t. 1) (λ t m. ap (λ b. cond b 1 0) (kept refl t)) s in
      let weight = step_constant c sound n 1 i in
      omega arith
  first_step false test i kept = omega arith

  -- where every run that one test takes is taken by another however it goes on, the weight taken grows by D^n at least
  pub prolonged : (k : ℕ) (test later : Run → Bool) {s : Tuple} → Inside c.N n s →
      ((r : Run) (t : Tuple) → length r ≡ suc k → test r ≡ true → later (r ++ (t ∷ [])) ≡ true) →
      taken_weight c n k test s * c.D ^ n ≤ taken_weight c n (suc k) later s
  prolonged zero test later {s} i kept =
      let here = taken_none c n test s in
      let there =
      taken_step c n 0 later s ∙ step_same c n _ _ (λ t m. taken_none c n (λ r. later (s ∷ r)) t) s in
      let grows = first_step (test (s ∷ [])) later i (λ e t. kept (s ∷ []) t refl e) in
      subst (λ (x : ℕ). x * c.D ^ n ≤ taken_weight c n 1 later s) (sym here)
      (subst (λ (x : ℕ). cond (test (s ∷ [])) 1 0 * c.D ^ n ≤ x) (sym there) grows)
  prolonged (suc k) test later {s} i kept =
      le_trans
      (le_of_eq
      (ap (λ (x : ℕ). x * c.D ^ n) (taken_step c n k test s) ∙
      sym (step_scale c n (c.D ^ n) (λ t. taken_weight c n k (λ r. test (s ∷ r)) t) s)))
      (le_trans
      (step_le c n _ _
      (λ t m. prolonged k (λ r. test (s ∷ r)) (λ r. later (s ∷ r)) m (λ r u long e. kept (s ∷ r) u (ap suc long) e)) s)
      (le_of_eq (sym (taken_step c n (suc k) later s))))

-- ---- longer watches

-- what grows by D^m at each step grows by D^(m × d) in d steps
growth : (top : ℕ → ℕ) (D m : ℕ) → ((k : ℕ) → top k * D ^ m ≤ top (suc k)) → (k d : ℕ) → top k * D ^ (m * d) ≤ top (k + d)
growth top D m each k zero =
    let none : D ^ (m * 0) ≡ 1 = ap (λ (x : ℕ). D ^ x) (mul-zero m) ∙ pow-zero D in
    let same : k ≡ k + 0 = omega arith in
    le_of_eq (ap (λ (x : ℕ). top k * x) none ∙ mul-one (top k) ∙ ap top same)
growth top D m each k (suc d) =
    let power : D ^ (m * suc d) ≡ D ^ (m * d) * D ^ m = ap (λ (x : ℕ). D ^ x) (mul-suc m d) ∙ pow-add D (m * d) m in
    let whole = ap (λ (x : ℕ). top k * x) power ∙ sym (mul_assoc (top k) (D ^ (m * d)) (D ^ m)) in
    let so_far = mul-le-mul_right (D ^ m) (growth top D m each k d) in
    let end : suc (k + d) ≡ k + suc d = omega arith in
    subst (λ (j : ℕ). top k * D ^ (m * suc d) ≤ top j) end (le_trans (le_of_eq whole) (le_trans so_far (each (k + d))))

module _ (k1 : ℕ) (f g : Formula) (n k2 k2' : ℕ) where
  -- which variables occur in an until does not go by its window
  pub same_named : named (until k1 k2 f g) n ≡ named (until k1 k2' f g) n
  unfolding named occurs_from
  same_named = refl

module _ (c : Chain) (n k1 : ℕ) (f g : Formula) where
  -- a run that an until takes is still taken, however it goes on, by the until whose window ends a moment later
  pub still_taken : (k2 : ℕ) (s : Tuple) (r : Run) (t : Tuple) → length r ≡ suc k2 →
      takes (until k1 k2 f g) c n s r ≡ true → takes (until k1 (suc k2) f g) c n s (r ++ (t ∷ [])) ≡ true
  unfolding named occurs_from
  still_taken k2 s r t long e = until_prolonged _ _ k1 k2 r t long e

module _ (c : Chain) (sound : Sound c) (n k1 : ℕ) (f g : Formula) {s : Tuple} (i : Inside c.N n s) where
  -- one step more
  pub one_step_more : (k2 : ℕ) →
      numerator (until k1 k2 f g) c n s * c.D ^ v (until k1 k2 f g) n ≤ numerator (until k1 (suc k2) f g) c n s
  unfolding numerator v named occurs_from
  one_step_more k2 =
      prolonged c sound (v (until k1 k2 f g) n) k2 (takes (until k1 k2 f g) c n s) (takes (until k1 (suc k2) f g) c n s)
      (named_inside (until k1 k2 f g) i) (still_taken c n k1 f g k2 s)

  -- any number of steps more
  pub longer_watch : (k2 k2' : ℕ) → k2 ≤ k2' →
      numerator (until k1 k2 f g) c n s * c.D ^ (v (until k1 k2 f g) n * (k2' - k2)) ≤ numerator (until k1 k2' f g) c n s
  unfolding v
  longer_watch k2 k2' h =
      let top : ℕ → ℕ = λ k. numerator (until k1 k f g) c n s in
      let vars = v (until k1 k2 f g) n in
      let each : (k : ℕ) → top k * c.D ^ vars ≤ top (suc k) = λ k.
      subst (λ (x : Some). top k * c.D ^ count x ≤ top (suc k)) (same_named k1 f g n k k2) (one_step_more k) in
      let end : k2 + (k2' - k2) ≡ k2' = omega arith in
      subst (λ (k : ℕ). top k2 * c.D ^ (vars * (k2' - k2)) ≤ top k) end (growth top c.D vars each k2 (k2' - k2))

-- the denominator grows by just that power
pub longer_denominator : (k1 : ℕ) (f g : Formula) (D n k2 k2' : ℕ) → k2 ≤ k2' →
    denominator (until k1 k2 f g) D n * D ^ (v (until k1 k2 f g) n * (k2' - k2)) ≡ denominator (until k1 k2' f g) D n
unfolding denominator v
longer_denominator k1 f g D n k2 k2' h =
    let vars = v (until k1 k2 f g) n in
    let steps : vars * k2 + vars * (k2' - k2) ≡ vars * k2' =
    sym (mul-add vars k2 (k2' - k2)) ∙ ap (λ (k : ℕ). vars * k) (omega arith) in
    sym (pow-add D (vars * k2) (vars * (k2' - k2))) ∙ ap (λ (x : ℕ). D ^ x) steps ∙
    ap (λ (x : Some). D ^ (count x * k2')) (same_named k1 f g n k2 k2')

-- ---- runs taken and runs not taken

-- a run adds its weight to one of the two
one_of_two : (b : Bool) (x : ℕ) → cond b x 0 + cond b 0 x ≡ x
one_of_two true x = omega arith
one_of_two false x = omega arith

-- a numerator is the total weight of the runs that the path takes
pub taken_runs : (p : PathFormula) (c : Chain) (n : ℕ) (s : Tuple) →
    numerator p c n s ≡ total (λ r. cond (takes p c n s r) (run_weight c r) 0) (runs c (v p n) (steps_of p) (chosen (named p n) s))
unfolding numerator taken_weight
taken_runs (next f) c n s = refl
taken_runs (until k1 k2 f g) c n s = refl

-- a denominator is the total weight of all runs of its variables that start at the tuple
pub all_runs : (p : PathFormula) (c : Chain) → Sound c → (n : ℕ) {s : Tuple} → Inside c.N n s →
    denominator p c.D n ≡ total (run_weight c) (runs c (v p n) (steps_of p) (chosen (named p n) s))
all_runs p c sound n i = denominator_steps p c.D n ∙ sym (runs_total c sound (v p n) (steps_of p) (named_inside p i))

-- so the two add up
pub taken_and_not : (p : PathFormula) (c : Chain) → Sound c → (n : ℕ) {s : Tuple} → Inside c.N n s →
    numerator p c n s + not_taken p c n s ≡ denominator p c.D n
unfolding not_taken
taken_and_not p c sound n {s} i =
    let all = runs c (v p n) (steps_of p) (chosen (named p n) s) in
    ap (λ (x : ℕ). x + not_taken p c n s) (taken_runs p c n s) ∙
    sym (total_add (λ r. cond (takes p c n s r) (run_weight c r) 0) (λ r. cond (takes p c n s r) 0 (run_weight c r)) all) ∙
    total_same _ (run_weight c) all (λ r m. one_of_two (takes p c n s r) (run_weight c r)) ∙
    sym (all_runs p c sound n i)
