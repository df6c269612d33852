-- What 'until takes' means, and the numerator of an until as a table that goes back in time, one joint step a layer.
use Prim.Native.Nat.{ℕ, zero, suc, ◌*◌, ◌-◌, ◌^◌, ◌≤◌, ◌<◌}
use mathlib.Core.Bool.{Bool, true, false, cond, ◌&&◌, ◌||◌, and-true, or-false}
use mathlib.Core.List.{[], ◌∷◌}
use mathlib.Core.Logic.{◌↔◌}
use mathlib.Core.Path.{◌≡◌, refl, sym, ap, ap₂, ◌∙◌, fun_ext}
use native.Mathlib.Nat.{mul-zero}
use native.Mathlib.Omega.{arith}
use borrow.Author.Tests.{leb-true, le-leb, lt-leb}
use lib.Dec.{leb, leb-zero, leb-suc-zero, leb-suc-suc}
use lib.ListN.{length}
use Rattle.counting.proofs.Laws.{left_of, right_of, and_true as both-met}
use Rattle.meaning.specs.Lists.{below, every, there_is, total}
use Rattle.meaning.specs.Chain.{Chain, Sound, Tuple, Inside, joint, Run, run_weight, runs}
use Rattle.meaning.specs.Tree.{Formula, next, until}
use Rattle.meaning.specs.Named.{Some, count, named, v, chosen, placed}
use Rattle.meaning.specs.Meaning.{position, until_takes, taken_weight, beside, holds, numerator}
use Rattle.meaning.proofs.Sums.{cond_scale, total_zero}
use Rattle.meaning.proofs.Named.{chosen_inside, placed_inside, chosen_placed, placed_placed, placed_chosen, long_named}
use Rattle.meaning.proofs.Steps.{step, steps, step_same, step_constant, step_denominator, total_runs_zero}
use Rattle.meaning.proofs.Steps.{total_runs_step, runs_total, next_step}
use Rattle.meaning.proofs.Tests.{and_front}
use Rattle.meaning.proofs.Tests.{every_means, every_below_law, there_is_found}
use Rattle.meaning.proofs.Tests.{there_is_from, there_is_front, there_is_below, below_member, below_has}

-- there is a j as document 01 asks for
pub record Match (first second : Tuple → Bool) (k1 k2 : ℕ) (r : Run) : Type 0 where
  pub j : ℕ
  pub opened : k1 ≤ j
  pub closing : j ≤ k2
  pub meets : second (position r j) ≡ true
  pub before : (i : ℕ) → i < j → first (position r i) ≡ true

module _ (first second : Tuple → Bool) where
  -- position j meets the second formula, positions 0..j−1 the first, and j is k1 or more
  matches : ℕ → Run → ℕ → Bool
  matches k1 r j = leb k1 j && (second (position r j) && every (λ i. first (position r i)) (below j))

  -- until takes a run exactly if there is such a j
  pub until_means : (k1 k2 : ℕ) (r : Run) → (until_takes first second k1 k2 r ≡ true) ↔ Match first second k1 k2 r
  unfolding until_takes matches
  until_means k1 k2 r = (there, back)
    where
      there : until_takes first second k1 k2 r ≡ true → Match first second k1 k2 r
      there e =
          let q = there_is_found (matches k1 r) (below (suc k2)) e in
          let h = below_member (suc k2) q.1 in
          let rest = right_of (leb k1 q.0) _ q.2 in
          record {
            j = q.0;
            opened = leb-true k1 q.0 (left_of (leb k1 q.0) _ q.2);
            closing = omega arith;
            meets = left_of (second (position r q.0)) _ rest;
            before = λ i l.
                (every_means (λ x. first (position r x)) (below q.0)).0
                (right_of (second (position r q.0)) _ rest) i (below_has q.0 l);
          }

      back : Match first second k1 k2 r → until_takes first second k1 k2 r ≡ true
      back m =
          there_is_from (matches k1 r) m.j (below (suc k2)) (below_has (suc k2) (omega arith))
          (both-met (le-leb k1 m.j m.opened)
          (both-met m.meets
          ((every_means (λ x. first (position r x)) (below m.j)).1 (λ i w. m.before i (below_member m.j w)))))

  -- at a run that starts at s: j = 0, or position 0 meets the first formula and the rest of the run has a match
  until_rest : (k1 k1' k2 : ℕ) → ((j : ℕ) → leb k1 (suc j) ≡ leb k1' j) → (s : Tuple) (r : Run) →
      there_is (λ j. matches k1 (s ∷ r) (suc j)) (below (suc k2)) ≡ (first s && until_takes first second k1' k2 r)
  unfolding until_takes matches position
  until_rest k1 k1' k2 h s r =
      there_is_front (first s) (λ j. matches k1 (s ∷ r) (suc j)) (matches k1' r) (below (suc k2))
      (λ j.
      ap₂ (λ a b. a && (second (position r j) && b)) (h j) (every_below_law (λ i. first (position (s ∷ r) i)) j) ∙
      and_front (leb k1' j) (second (position r j)) (first s) (every (λ i. first (position r i)) (below j)))

  -- the window is open and closes at once
  until_last : (s : Tuple) (r : Run) → until_takes first second 0 0 (s ∷ r) ≡ second s
  unfolding until_takes position below there_is every
  until_last s r = or-false (second s && true) ∙ and-true (second s)

  -- no match at 0 while the window is not open
  matches_shut : (k1 : ℕ) (r : Run) → matches (suc k1) r 0 ≡ false
  unfolding matches
  matches_shut k1 r = rw (leb-suc-zero k1)

  -- the window closes before it opens
  until_never : (k1 : ℕ) (s : Tuple) (r : Run) → until_takes first second (suc k1) 0 (s ∷ r) ≡ false
  unfolding until_takes below there_is matches
  until_never k1 s r = ap (λ b. b || false) (matches_shut k1 (s ∷ r))

  -- the window is open, and b says whether position 0 meets the second formula
  until_open : (b : Bool) (k2 : ℕ) (s : Tuple) → second s ≡ b → (r : Run) →
      until_takes first second 0 (suc k2) (s ∷ r) ≡ (b || (first s && until_takes first second 0 k2 r))
  unfolding until_takes matches position below every
  until_open b k2 s e r =
      there_is_below (matches 0 (s ∷ r)) (suc k2) ∙
      ap₂ ◌||◌ (and-true (second s) ∙ e) (until_rest 0 0 k2 (λ j. leb-zero (suc j) ∙ sym (leb-zero j)) s r)

  -- the window is not open yet
  until_shut : (k1 k2 : ℕ) (s : Tuple) (r : Run) →
      until_takes first second (suc k1) (suc k2) (s ∷ r) ≡ (first s && until_takes first second k1 k2 r)
  unfolding until_takes matches
  until_shut k1 k2 s r =
      there_is_below (matches (suc k1) (s ∷ r)) (suc k2) ∙
      ap₂ ◌||◌ (matches_shut k1 (s ∷ r)) (until_rest (suc k1) k1 k2 (leb-suc-suc k1) s r)

-- The numerator of an until, by steps: k1 until the window opens, k2 until it closes. Where the window is open and the
-- second formula is met, all runs are taken; else a run is taken if the first is met and what follows is taken.
unfoldable pub table : Chain → ℕ → (first second : Tuple → Bool) → (k1 k2 : ℕ) → Tuple → ℕ
table c n first second zero zero s = cond (second s) 1 0
table c n first second (suc k1) zero s = 0
table c n first second zero (suc k2) s =
    cond (second s) (c.D ^ (n * suc k2)) (cond (first s) (step c n (λ t. table c n first second zero k2 t) s) 0)
table c n first second (suc k1) (suc k2) s = cond (first s) (step c n (λ t. table c n first second k1 k2 t) s) 0

module _ (c : Chain) (sound : Sound c) (n : ℕ) where
  -- runs of which only those count whose first tuple passes a test: a step of the total over what follows, or nothing
  guarded : (F : Run → ℕ) (takes : Run → Bool) (b : Bool) (k : ℕ) {s : Tuple} → Inside c.N n s →
      ((t : Tuple) (r : Run) → F (s ∷ (t ∷ r)) ≡ cond (b && takes (t ∷ r)) (run_weight c (s ∷ (t ∷ r))) 0) →
      total F (runs c n (suc k) s) ≡ cond b (step c n (taken_weight c n k takes) s) 0
  unfolding run_weight taken_weight
  guarded F takes true k {s} i h =
      total_runs_step c n F (λ r. cond (takes r) (run_weight c r) 0) k s
      (λ t m r. h t r ∙ cond_scale (takes (t ∷ r)) (joint c s t) (run_weight c (t ∷ r)))
  guarded F takes false k {s} i h =
      total_runs_step c n F (λ r. 0) k s (λ t m r. h t r ∙ sym (mul-zero (joint c s t))) ∙
      step_same c n _ (λ t. 0) (λ t m. total_zero (runs c n k t)) s ∙
      step_constant c sound n 0 i ∙
      mul-zero (c.D ^ n)

  module _ (first second : Tuple → Bool) where
    -- what stands between a layer and the one after it, where the window is open
    opened : (b : Bool) (k : ℕ) {s : Tuple} → Inside c.N n s → second s ≡ b →
        taken_weight c n (suc k) (until_takes first second 0 (suc k)) s ≡
        cond b (c.D ^ (n * suc k)) (cond (first s) (step c n (taken_weight c n k (until_takes first second 0 k)) s) 0)
    unfolding taken_weight run_weight
    opened true k {s} i e =
        total_runs_step c n _ (run_weight c) k s
        (λ t m r. ap (λ b. cond b (run_weight c (s ∷ (t ∷ r))) 0) (until_open first second true k s e (t ∷ r))) ∙
        step_same c n _ (λ t. c.D ^ (n * k)) (λ t m. runs_total c sound n k m) s ∙
        step_denominator c sound n k i
    opened false k {s} i e =
        guarded _ (until_takes first second 0 k) (first s) k i
        (λ t r. ap (λ b. cond b (run_weight c (s ∷ (t ∷ r))) 0) (until_open first second false k s e (t ∷ r)))

    -- the numerator of an until is the table
    pub until_table : (k1 k2 : ℕ) {s : Tuple} → Inside c.N n s →
        taken_weight c n k2 (until_takes first second k1 k2) s ≡ table c n first second k1 k2 s
    unfolding table taken_weight run_weight
    until_table zero zero {s} i =
        total_runs_zero c n _ s ∙ ap (λ b. cond b 1 0) (until_last first second s [])
    until_table (suc k1) zero {s} i =
        total_runs_zero c n _ s ∙ ap (λ b. cond b 1 0) (until_never first second k1 s [])
    until_table zero (suc k2) {s} i =
        opened (second s) k2 i refl ∙
        ap (λ x. cond (second s) (c.D ^ (n * suc k2)) (cond (first s) x 0))
        (step_same c n _ _ (λ t m. until_table zero k2 m) s)
    until_table (suc k1) (suc k2) {s} i =
        guarded _ (until_takes first second k1 k2) (first s) k2 i
        (λ t r. ap (λ b. cond b (run_weight c (s ∷ (t ∷ r))) 0) (until_shut first second k1 k2 s (t ∷ r))) ∙
        ap (λ x. cond (first s) x 0) (step_same c n _ _ (λ t m. until_table k1 k2 m) s)

-- The same, layer by layer as it is filled, at tuples of all n variables of which some step: layer l has l steps left, so k2 − l steps
-- are gone, and the window is open if those are k1 or more. Layer 0 asks the second formula; layer k2 is the numerator.
unfoldable pub layer : Chain → Some → (first second : Tuple → Bool) → (k1 k2 : ℕ) → ℕ → Tuple → ℕ
layer c those first second k1 k2 zero s = cond (leb k1 k2 && second s) 1 0
layer c those first second k1 k2 (suc l) s =
    cond (leb k1 (k2 - suc l) && second s)
    (c.D ^ (count those * suc l))
    (cond (first s) (steps c those (λ t. layer c those first second k1 k2 l t) s) 0)

module _ (c : Chain) (those : Some) (first second : Tuple → Bool) (k1 k2 : ℕ) where
  -- the table for k steps until the window opens and l until it closes, from the states that those variables have in a tuple
  table_at : (k l : ℕ) → Tuple → ℕ
  table_at k l s = table c (count those) (beside those s first) (beside those s second) k l (chosen those s)

  module _ {s : Tuple} (i : Inside c.N (length those) s) where
    -- a test is asked at the tuple itself
    here : (meets : Tuple → Bool) → meets s ≡ beside those s meets (chosen those s)
    here meets = ap meets (sym (placed_chosen c.N those i))

    -- a table at a tuple in which those variables have the states t
    table_placed : (k l : ℕ) {t : Tuple} → Inside c.N (count those) t →
        table_at k l (placed those s t) ≡ table c (count those) (beside those s first) (beside those s second) k l t
    unfolding table_at
    table_placed k l {t} j =
        let same : (meets : Tuple → Bool) → beside those (placed those s t) meets ≡ beside those s meets = λ meets.
        fun_ext (λ r. ap meets (placed_placed c.N those i j r)) in
        λ x. table c (count those) (same first x) (same second x) k l (chosen_placed c.N those i j x)

    -- a step of a layer that is the table for k more steps until the window opens
    step_layer : (l k : ℕ) → k1 - (k2 - l) ≡ k →
        ((t : Tuple) → Inside c.N (length those) t → layer c those first second k1 k2 l t ≡ table_at (k1 - (k2 - l)) l t) →
        steps c those (λ t. layer c those first second k1 k2 l t) s ≡
        step c (count those) (λ t. table c (count those) (beside those s first) (beside those s second) k l t) (chosen those s)
    unfolding steps
    step_layer l k e below-it =
        step_same c (count those) _ _
        (λ t j.
        below-it (placed those s t) (placed_inside c.N those i j) ∙ ap (λ x. table_at x l (placed those s t)) e ∙ table_placed k l j)
        (chosen those s)

    -- one layer from the table of the layer after it
    above_layer : (l : ℕ) → suc l ≤ k2 → (k : ℕ) → k1 - (k2 - suc l) ≡ k →
        ((t : Tuple) → Inside c.N (length those) t → layer c those first second k1 k2 l t ≡ table_at (k1 - (k2 - l)) l t) →
        layer c those first second k1 k2 (suc l) s ≡ table_at k (suc l) s
    unfolding layer table table_at
    above_layer l h zero e below-it =
        (λ x. cond (le-leb k1 (k2 - suc l) (omega arith) x && here second x) (c.D ^ (count those * suc l))
        (cond (here first x) (step_layer l 0 (omega arith) below-it x) 0))
    above_layer l h (suc k) e below-it =
        (λ x. cond (lt-leb k1 (k2 - suc l) (omega arith) x && second s) (c.D ^ (count those * suc l))
        (cond (here first x) (step_layer l k (omega arith) below-it x) 0))

    lowest_layer : (k : ℕ) → k1 - k2 ≡ k → layer c those first second k1 k2 0 s ≡ table_at k 0 s
    unfolding layer table table_at
    lowest_layer zero e = ap₂ (λ a b. cond (a && b) 1 0) (le-leb k1 k2 (omega arith)) (here second)
    lowest_layer (suc k) e = ap (λ b. cond (b && second s) 1 0) (lt-leb k1 k2 (omega arith))

  -- a layer is the table for the steps that are left
  layer_table : (l : ℕ) → l ≤ k2 → (s : Tuple) → Inside c.N (length those) s →
      layer c those first second k1 k2 l s ≡ table_at (k1 - (k2 - l)) l s
  layer_table zero h s i = lowest_layer i (k1 - (k2 - 0)) (omega arith)
  layer_table (suc l) h s i = above_layer i l h (k1 - (k2 - suc l)) refl (λ t j. layer_table l (omega arith) t j)

  -- the numerator of an until is the last layer
  pub until_layer : Sound c → {s : Tuple} → Inside c.N (length those) s →
      taken_weight c (count those) k2 (until_takes (beside those s first) (beside those s second) k1 k2) (chosen those s) ≡
      layer c those first second k1 k2 k2 s
  unfolding table_at
  until_layer sound {s} i =
      until_table c sound (count those) (beside those s first) (beside those s second) k1 k2 (chosen_inside c.N those i) ∙
      ap (λ k. table_at k k2 s) (omega arith) ∙
      sym (layer_table k2 (omega arith) s i)

-- the numerator of next, as it is computed: one step of the named variables
pub numerator_next : (f : Formula) (c : Chain) (n : ℕ) (s : Tuple) →
    numerator (next f) c n s ≡ steps c (named (next f) n) (λ t. cond (holds f c n t) 1 0) s
unfolding numerator steps v
numerator_next f c n s =
    let those = named (next f) n in
    next_step (beside those s (λ t. holds f c n t)) c (count those) (chosen those s)

-- and that of until: k2 layers
pub numerator_until : (k1 k2 : ℕ) (f g : Formula) (c : Chain) → Sound c → (n : ℕ) {s : Tuple} → Inside c.N n s →
    numerator (until k1 k2 f g) c n s ≡
    layer c (named (until k1 k2 f g) n) (λ t. holds f c n t) (λ t. holds g c n t) k1 k2 k2 s
unfolding numerator v
numerator_until k1 k2 f g c sound n i =
    let p = until k1 k2 f g in
    until_layer c (named p n) (λ t. holds f c n t) (λ t. holds g c n t) k1 k2 sound (long_named p i)
