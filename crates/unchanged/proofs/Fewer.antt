-- Where only some variables matter, only they have to step: a step, a next and an until of all variables are those of the some, times
-- a power of D for the others.
use Prim.Native.Nat.{ℕ, zero, suc, ◌+◌, ◌-◌, ◌*◌, ◌^◌, ◌≤◌}
use mathlib.Core.Bool.{Bool, true, false, cond}
use mathlib.Core.List.{[], ◌∷◌}
use mathlib.Core.Path.{◌≡◌, refl, sym, ap, ap₂, ◌∙◌, subst}
use native.Mathlib.Nat.{add-mul, mul_assoc, mul_left_comm, mul-one, mul-zero, pow-zero, pow-succ', suc-sub-suc}
use native.Mathlib.Omega.{arith}
use lib.ListN.{length}
use lib.Pow.{pow-add}
use Rattle.meaning.specs.Lists.{below, nothing, further}
use Rattle.meaning.specs.Chain.{Chain, Sound, Tuple, Inside}
use Rattle.meaning.specs.Named.{Some, count, chosen}
use Rattle.meaning.specs.Meaning.{next_takes, until_takes, taken_weight}
use Rattle.meaning.proofs.Sums.{total_same, total_scale_right}
use Rattle.meaning.proofs.Named.{chosen_inside}
use Rattle.meaning.proofs.Steps.{step, step_same, step_scale, step_none, step_first, next_step}
use Rattle.meaning.proofs.Until.{table, until_table}

-- some variables are no more than all
pub count_le : (bs : Some) → count bs ≤ length bs
unfolding count
count_le [] = omega arith
count_le (true ∷ bs) =
    let r = count_le bs in
    omega arith
count_le (false ∷ bs) =
    let r = count_le bs in
    omega arith

-- the power of D for k steps of n variables is that of m of them times that of the others
pub powers : (D : ℕ) {m n : ℕ} → m ≤ n → (k : ℕ) → D ^ (n * k) ≡ D ^ (m * k) * D ^ ((n - m) * k)
powers D {m} {n} l k =
    let e : n ≡ m + (n - m) = omega arith in
    ap (λ (x : ℕ). D ^ x) (ap (λ (x : ℕ). x * k) e ∙ add-mul m (n - m) k) ∙ pow-add D (m * k) ((n - m) * k)

-- a factor of every term of a layer
factor_out : (b d : Bool) (a x k : ℕ) → cond b (a * k) (cond d (x * k) 0) ≡ cond b a (cond d x 0) * k
factor_out true d a x k = refl
factor_out false true a x k = refl
factor_out false false a x k = omega arith

module _ (c : Chain) (sound : Sound c) where
  -- a step of a function that looks at the states of some variables: those step, and the weights of each other add up to D
  step_some : (bs : Some) (f : Tuple → ℕ) {s : Tuple} → Inside c.N (length bs) s →
      step c (length bs) (λ t. f (chosen bs t)) s ≡ step c (count bs) f (chosen bs s) * c.D ^ (length bs - count bs)
  unfolding chosen count Sound
  step_some [] f nothing = rw (pow-zero c.D, mul-one) (step_none c (λ t. f []) ∙ sym (step_none c f))
  step_some (true ∷ bs) f (further {x = s} {xs = ss} h i) =
      step_first c (length bs) (λ t. f (chosen (true ∷ bs) t)) s ss ∙
      total_same _ _ (below c.N)
      (λ t m.
      ap (λ (x : ℕ). c.weight s t * x) (step_some bs (λ ts. f (t ∷ ts)) i) ∙
      sym (mul_assoc (c.weight s t) _ (c.D ^ (length bs - count bs)))) ∙
      total_scale_right (c.D ^ (length bs - count bs)) _ (below c.N) ∙
      sym
      (ap₂ (λ (x y : ℕ). x * c.D ^ y) (step_first c (count bs) f s (chosen bs ss)) (suc-sub-suc (length bs) (count bs)))
  step_some (false ∷ bs) f (further {x = s} {xs = ss} h i) =
      let x = step c (count bs) f (chosen bs ss) in
      let r = length bs - count bs in
      let l = count_le bs in
      let e : suc (length bs) - count bs ≡ suc r = omega arith in
      step_first c (length bs) (λ t. f (chosen (false ∷ bs) t)) s ss ∙
      total_scale_right (step c (length bs) (λ t. f (chosen bs t)) ss) (c.weight s) (below c.N) ∙
      ap₂ (λ (a b : ℕ). a * b) (sound s h) (step_some bs f i) ∙
      mul_left_comm c.D x (c.D ^ r) ∙
      ap (λ (a : ℕ). x * a) (sym (ap (λ (a : ℕ). c.D ^ a) e ∙ pow-succ' c.D r))

  module _ (bs : Some) {n : ℕ} (long : length bs ≡ n) where
    -- the same where the function already has, inside the chain, the others' power for k steps: its step has that for k + 1
    step_fewer : (k : ℕ) (f g : Tuple → ℕ) → ((t : Tuple) → Inside c.N n t → f t ≡ g (chosen bs t) * c.D ^ ((n - count bs) * k)) →
        {s : Tuple} → Inside c.N n s → step c n f s ≡ step c (count bs) g (chosen bs s) * c.D ^ ((n - count bs) * suc k)
    step_fewer k f g same {s} i =
        let r = n - count bs in
        let x = step c (count bs) g (chosen bs s) in
        step_same c n f (λ t. g (chosen bs t) * c.D ^ (r * k)) same s ∙
        step_scale c n (c.D ^ (r * k)) (λ t. g (chosen bs t)) s ∙
        ap (λ (y : ℕ). y * c.D ^ (r * k))
        (subst (λ (m : ℕ). Inside c.N m s → step c m (λ t. g (chosen bs t)) s ≡ x * c.D ^ (m - count bs)) long
        (λ j. step_some bs g j) i) ∙
        mul_assoc x (c.D ^ r) (c.D ^ (r * k)) ∙
        ap (λ (y : ℕ). x * y) (sym (pow-add c.D r (r * k)) ∙ ap (λ (y : ℕ). c.D ^ y) (omega arith))

    module _ (first second first' second' : Tuple → Bool)
        (same_first : (t : Tuple) → Inside c.N n t → first t ≡ first' (chosen bs t))
        (same_second : (t : Tuple) → Inside c.N n t → second t ≡ second' (chosen bs t)) where
      -- the table of an until whose formulas look at the states of some variables is that of those, times the others' power for its steps
      table_fewer : (k1 k2 : ℕ) {s : Tuple} → Inside c.N n s →
          table c n first second k1 k2 s ≡ table c (count bs) first' second' k1 k2 (chosen bs s) * c.D ^ ((n - count bs) * k2)
      unfolding table
      table_fewer zero zero {s} i =
          rw (mul-zero (n - count bs), pow-zero c.D, mul-one) (ap (λ b. cond b 1 0) (same_second s i))
      table_fewer (suc k1) zero {s} i = omega arith
      table_fewer zero (suc k2) {s} i =
          (λ j.
          cond (same_second s i j)
          (powers c.D (subst (λ (m : ℕ). count bs ≤ m) long (count_le bs)) (suc k2) j)
          (cond (same_first s i j) (step_fewer k2 _ (table c (count bs) first' second' zero k2) (λ t w. table_fewer zero k2 w) i j) 0)) ∙
          factor_out (second' (chosen bs s)) (first' (chosen bs s)) _ _ (c.D ^ ((n - count bs) * suc k2))
      table_fewer (suc k1) (suc k2) {s} i =
          (λ j.
          cond (same_first s i j) (step_fewer k2 _ (table c (count bs) first' second' k1 k2) (λ t w. table_fewer k1 k2 w) i j) 0) ∙
          factor_out false (first' (chosen bs s)) 0 _ (c.D ^ ((n - count bs) * suc k2))

      -- so is the weight that such an until takes
      pub until_fewer : (k1 k2 : ℕ) {s : Tuple} → Inside c.N n s →
          taken_weight c n k2 (until_takes first second k1 k2) s ≡
          taken_weight c (count bs) k2 (until_takes first' second' k1 k2) (chosen bs s) * c.D ^ ((n - count bs) * k2)
      until_fewer k1 k2 {s} i =
          until_table c sound n first second k1 k2 i ∙
          table_fewer k1 k2 i ∙
          ap (λ (x : ℕ). x * c.D ^ ((n - count bs) * k2))
          (sym (until_table c sound (count bs) first' second' k1 k2
          (chosen_inside c.N bs (subst (λ (m : ℕ). Inside c.N m s) (sym long) i))))

    -- and that which a next takes: one step of the lowest layer of an until
    pub next_fewer : (meets meets' : Tuple → Bool) → ((t : Tuple) → Inside c.N n t → meets t ≡ meets' (chosen bs t)) →
        {s : Tuple} → Inside c.N n s →
        taken_weight c n 1 (next_takes meets) s ≡
        taken_weight c (count bs) 1 (next_takes meets') (chosen bs s) * c.D ^ ((n - count bs) * 1)
    unfolding table
    next_fewer meets meets' same {s} i =
        next_step meets c n s ∙
        step_fewer 0 _ (λ t. cond (meets' t) 1 0) (λ t w. table_fewer meets meets meets' meets' same same 0 0 w) i ∙
        ap (λ (x : ℕ). x * c.D ^ ((n - count bs) * 1)) (sym (next_step meets' c (count bs) (chosen bs s)))
