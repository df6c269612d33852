-- Merging keeps the meaning (document 00, demand 3): on a chain and on a merged chain of it every path has the same
-- numerator and denominator, at a tuple and at the tuple of its groups, and every sentence the same verdict.
use Prim.Native.Nat.{ℕ, zero, suc, ◌+◌, ◌*◌, ◌^◌, ◌≤◌, ◌<◌}
use mathlib.Core.Bool.{Bool, true, false, cond, not, ◌&&◌}
use mathlib.Core.List.Memᴰ
use mathlib.Core.List.{List, [], ◌∷◌, map, Memᴰ}
use mathlib.Core.Logic.{◌⊎◌, inl, inr}
use mathlib.Core.Path.{◌≡◌, refl, sym, ap, ap₂, ◌∙◌}
use native.Mathlib.Decide.{ℕ_discrete}
use native.Mathlib.Nat.{mul-one, not-suc-le-zero, le_trans, le_of_eq}
use native.Mathlib.Omega.{arith}
use borrow.Author.Tests.{eqb-true, eqb-false, eq-eqb, ne_eqb}
use lib.Dec.{eqb}
use lib.IntN.{pos}
use lib.ListN.{length}
use Rattle.counting.proofs.Laws.{same_truth}
use Rattle.meaning.specs.Lists.{below, every, there_is, total, nothing, further}
use Rattle.meaning.specs.Chain.{Chain, Sound, Tuple, Inside}
use Rattle.meaning.specs.Tree.{Formula, always, labelled, negation, both, compare}
use Rattle.meaning.specs.Tree.{Expression, probability, constant, sum, difference, product}
use Rattle.meaning.specs.Tree.{PathFormula, next, until, Letter, for_all, exists}
use Rattle.meaning.specs.Named.{named, v, chosen, placed}
use Rattle.meaning.specs.Meaning.{next_takes, until_takes, taken_weight, beside}
use Rattle.meaning.specs.Meaning.{denominator, has_label, add_f, sub_f, mul_f, compared, holds, value, numerator}
use Rattle.meaning.specs.Meaning.{ranges, ranged, verdict}
use Rattle.meaning.specs.Merging.{weight_into, Grouping, Stable, Merged, member, merged}
use Rattle.meaning.proofs.Sums.{total_same, total_le, total_member, total_zero}
use Rattle.meaning.proofs.Sums.{total_scale, total_scale_right, total_swap, total_below}
use Rattle.meaning.proofs.Tests.{every_means, there_is_found, there_is_from, below_member, below_has}
use Rattle.meaning.proofs.Named.{chosen_map, placed_map, long_named, named_inside, named_placed}
use Rattle.meaning.proofs.Steps.{step, step_same, step_none, step_first, next_step}
use Rattle.meaning.proofs.Until.{table, until_table}

-- of the terms for the numbers below M only that for g counts: nothing where g is none of them
pick_none : (f : ℕ → ℕ) (g M : ℕ) → M ≤ g → total (λ h. cond (eqb g h) (f h) 0) (below M) ≡ 0
pick_none f g M l =
    total_same _ (λ h. 0) (below M)
    (λ h m.
    let k = below_member M m in
    ap (λ b. cond b (f h) 0) (ne_eqb g h (λ e. omega arith))) ∙
    total_zero (below M)

-- else that term
pub pick : (f : ℕ → ℕ) (g M : ℕ) → g < M → total (λ h. cond (eqb g h) (f h) 0) (below M) ≡ f g
pick f g zero l = absurd (not-suc-le-zero l)
pick f g (suc M) l = total_below (λ h. cond (eqb g h) (f h) 0) M ∙ last (ℕ_discrete g M) (pick f g M)
  where
    last : Dec (g ≡ M) → (g < M → total (λ h. cond (eqb g h) (f h) 0) (below M) ≡ f g) →
        total (λ h. cond (eqb g h) (f h) 0) (below M) + cond (eqb g M) (f M) 0 ≡ f g
    last (yes e) earlier =
        let z = pick_none f g M (omega arith) in
        let q : cond (eqb g M) (f M) 0 ≡ f g = ap (λ b. cond b (f M) 0) (eq-eqb g M e) ∙ ap f (sym e) in
        omega arith
    last (no d) earlier =
        let r = earlier (omega arith) in
        let q : cond (eqb g M) (f M) 0 ≡ 0 = ap (λ b. cond b (f M) 0) (ne_eqb g M d) in
        omega arith

-- a term counted only under a test, times a factor
cond_times : (b : Bool) (x y : ℕ) → cond b x 0 * y ≡ x * cond b y 0
cond_times true x y = refl
cond_times false x y = omega arith

module _ (c : Chain) (group : ℕ → ℕ) where
  -- one state's step, over states and over groups
  pub states_groups : (M : ℕ) → Grouping c group M → (f : ℕ → ℕ) (s : ℕ) →
      total (λ t. c.weight s t * f (group t)) (below c.N) ≡ total (λ h. weight_into c group s h * f h) (below M)
  unfolding weight_into
  states_groups M grouping f s =
      sym (
      total_same _ _ (below M)
      (λ h m.
      sym (total_scale_right (f h) (λ t. cond (eqb (group t) h) (c.weight s t) 0) (below c.N)) ∙
      total_same _ _ (below c.N) (λ t w. cond_times (eqb (group t) h) (c.weight s t) (f h))) ∙
      total_swap (λ h t. c.weight s t * cond (eqb (group t) h) (f h) 0) (below M) (below c.N) ∙
      total_same _ _ (below c.N)
      (λ t m.
      total_scale (c.weight s t) (λ h. cond (eqb (group t) h) (f h) 0) (below M) ∙
      ap (λ (x : ℕ). c.weight s t * x) (pick f (group t) M (grouping.inside t (below_member c.N m)))))

-- as many ones as numbers
total_ones : (n : ℕ) → total (λ i. 1) (below n) ≡ n
unfolding below total
total_ones zero = refl
total_ones (suc n) =
    let r = total_ones n in
    let e = total_below (λ i. 1) n in
    omega arith

-- there are no more groups than states
pub groups_at_most : (c : Chain) (group : ℕ → ℕ) (M : ℕ) → Grouping c group M → M ≤ c.N
groups_at_most c group M grouping =
    let ones = total_ones M in
    let each =
    total_le (λ h. 1) (λ h. total (λ t. cond (eqb (group t) h) 1 0) (below c.N)) (below M)
    (λ h w.
    let u = grouping.used h (below_member M w) in
    le_trans
    (le_of_eq (sym (ap (λ b. cond b 1 0) (eq-eqb (group u.0) h u.2))))
    (total_member (λ t. cond (eqb (group t) h) 1 0) (below_has c.N u.1))) in
    let turned = total_swap (λ h t. cond (eqb (group t) h) 1 0) (below M) (below c.N) in
    let all =
    total_same (λ t. total (λ h. cond (eqb (group t) h) 1 0) (below M)) (λ t. 1) (below c.N)
    (λ t w. pick (λ h. 1) (group t) M (grouping.inside t (below_member c.N w))) in
    let states = total_ones c.N in
    omega arith

module _ (c : Chain) (group : ℕ → ℕ) (m : Chain) (merge : Merged c group m) where
  -- one state's step on the chain, and that of its group on the merged chain
  one_merged : (f : ℕ → ℕ) {s : ℕ} → s < c.N →
      total (λ t. c.weight s t * f (group t)) (below c.N) ≡ total (λ h. m.weight (group s) h * f h) (below m.N)
  one_merged f {s} i =
      states_groups c group m.N merge.grouping f s ∙
      total_same _ _ (below m.N)
      (λ h w. ap (λ (x : ℕ). x * f h) (sym (merge.weights s i h (below_member m.N w))))

  -- the merged chain is sound too
  pub sound_merged : Sound c → Sound m
  unfolding Sound
  sound_merged sound g i =
      let q = merge.grouping.used g i in
      total_same _ _ (below m.N)
      (λ h w. ap (λ x. m.weight x h) (sym q.2) ∙ sym (mul-one (m.weight (group q.0) h))) ∙
      sym (one_merged (λ h. 1) q.1) ∙
      total_same _ _ (below c.N) (λ t w. mul-one (c.weight q.0 t)) ∙
      sound q.0 q.1 ∙
      sym merge.same_d

  -- the groups of the states of a tuple
  pub groups_inside : {n : ℕ} {s : Tuple} → Inside c.N n s → Inside m.N n (map group s)
  groups_inside nothing = nothing
  groups_inside (further {x = s} h i) = further (merge.grouping.inside s h) (groups_inside i)

  -- a joint step
  pub step_merged : {n : ℕ} {s : Tuple} → Inside c.N n s → (f : Tuple → ℕ) →
      step c n (λ t. f (map group t)) s ≡ step m n f (map group s)
  step_merged nothing f = step_none c (λ t. f (map group t)) ∙ sym (step_none m f)
  step_merged (further {n = n} {x = s} {xs = ss} h i) f =
      step_first c n (λ t. f (map group t)) s ss ∙
      total_same _ _ (below c.N)
      (λ t w. ap (λ (x : ℕ). c.weight s t * x) (step_merged i (λ ts. f (group t ∷ ts)))) ∙
      one_merged (λ g. step m n (λ ts. f (g ∷ ts)) (map group ss)) h ∙
      sym (step_first m n f (group s) (map group ss))

  -- functions on tuples and on tuples of groups that agree have steps that agree
  step_agree : {n : ℕ} (f g : Tuple → ℕ) → ((t : Tuple) → Inside c.N n t → f t ≡ g (map group t)) →
      {s : Tuple} → Inside c.N n s → step c n f s ≡ step m n g (map group s)
  step_agree {n} f g h {s} i = step_same c n f (λ t. g (map group t)) h s ∙ step_merged i g

  module _ (n : ℕ) (first second first' second' : Tuple → Bool)
      (same_first : (t : Tuple) → Inside c.N n t → first t ≡ first' (map group t))
      (same_second : (t : Tuple) → Inside c.N n t → second t ≡ second' (map group t)) where
    -- the table of an until
    table_merged : (k1 k2 : ℕ) {s : Tuple} → Inside c.N n s →
        table c n first second k1 k2 s ≡ table m n first' second' k1 k2 (map group s)
    unfolding table
    table_merged zero zero {s} i = ap (λ b. cond b 1 0) (same_second s i)
    table_merged (suc k1) zero {s} i = refl
    table_merged zero (suc k2) {s} i =
        λ j.
        cond (same_second s i j)
        (sym merge.same_d j ^ (n * suc k2))
        (cond (same_first s i j) (step_agree _ (table m n first' second' 0 k2) (λ t w. table_merged zero k2 w) i j) 0)
    table_merged (suc k1) (suc k2) {s} i =
        λ j. cond (same_first s i j) (step_agree _ (table m n first' second' k1 k2) (λ t w. table_merged k1 k2 w) i j) 0

  -- the runs that a path takes, by tests that agree
  module _ (p : PathFormula) (n : ℕ) {s : Tuple} (i : Inside c.N n s) where
    -- a test beside the other variables' states
    beside_merged : (test test' : Tuple → Bool) → ((t : Tuple) → Inside c.N n t → test t ≡ test' (map group t)) →
        (t : Tuple) → Inside c.N (v p n) t → beside (named p n) s test t ≡ beside (named p n) (map group s) test' (map group t)
    unfolding v
    beside_merged test test' same t w =
        same (placed (named p n) s t) (named_placed p i w) ∙
        ap test' (sym (placed_map c.N group (named p n) (long_named p i) w))

    -- where the named variables start
    start_merged : map group (chosen (named p n) s) ≡ chosen (named p n) (map group s)
    start_merged = sym (chosen_map c.N group (named p n) (long_named p i))

    next_merged : (test test' : Tuple → Bool) → ((t : Tuple) → Inside c.N n t → test t ≡ test' (map group t)) →
        taken_weight c (v p n) 1 (next_takes (beside (named p n) s test)) (chosen (named p n) s) ≡
        taken_weight m (v p n) 1 (next_takes (beside (named p n) (map group s) test')) (chosen (named p n) (map group s))
    next_merged test test' same =
        let there = beside (named p n) (map group s) test' in
        next_step (beside (named p n) s test) c (v p n) (chosen (named p n) s) ∙
        step_agree _ (λ t. cond (there t) 1 0) (λ t w. ap (λ b. cond b 1 0) (beside_merged test test' same t w)) (named_inside p i) ∙
        sym (next_step there m (v p n) (map group (chosen (named p n) s))) ∙
        ap (λ x. taken_weight m (v p n) 1 (next_takes there) x) start_merged

    until_merged : Sound c → (k1 k2 : ℕ) (first first' second second' : Tuple → Bool) →
        ((t : Tuple) → Inside c.N n t → first t ≡ first' (map group t)) →
        ((t : Tuple) → Inside c.N n t → second t ≡ second' (map group t)) →
        taken_weight c (v p n) k2 (until_takes (beside (named p n) s first) (beside (named p n) s second) k1 k2) (chosen (named p n) s) ≡
        taken_weight m (v p n) k2
        (until_takes (beside (named p n) (map group s) first') (beside (named p n) (map group s) second') k1 k2)
        (chosen (named p n) (map group s))
    until_merged sound k1 k2 first first' second second' one two =
        let there = beside (named p n) (map group s) in
        until_table c sound (v p n) (beside (named p n) s first) (beside (named p n) s second) k1 k2 (named_inside p i) ∙
        table_merged (v p n) _ _ (there first') (there second') (beside_merged first first' one) (beside_merged second second' two) k1 k2
        (named_inside p i) ∙
        sym (until_table m (sound_merged sound) (v p n) (there first') (there second') k1 k2 (groups_inside (named_inside p i))) ∙
        ap (λ x. taken_weight m (v p n) k2 (until_takes (there first') (there second') k1 k2) x) start_merged

  -- labels
  label_merged : {n : ℕ} (l i : ℕ) {s : Tuple} → Inside c.N n s → has_label c l i s ≡ has_label m l i (map group s)
  unfolding has_label
  label_merged l i nothing = refl
  label_merged l zero (further h w) = refl
  label_merged l (suc zero) (further {x = s} h w) = sym (merge.labels s h l)
  label_merged l (suc (suc i)) (further h w) = label_merged l (suc i) w

  -- denominators
  pub denominator_merged : (p : PathFormula) (n : ℕ) → denominator p c.D n ≡ denominator p m.D n
  denominator_merged p n = ap (λ D. denominator p D n) (sym merge.same_d)

  module _ (sound : Sound c) where
    -- Every formula is met at a tuple exactly if it is at the tuple of groups, every expression has the same value, and
    -- every path the same numerator.
    mutual
      unfolding holds

      pub holds_merged : (f : Formula) (n : ℕ) {s : Tuple} → Inside c.N n s →
          holds f c n s ≡ holds f m n (map group s)
      holds_merged always n i = refl
      holds_merged (labelled l x) n i = label_merged l x i
      holds_merged (negation f) n i = ap not (holds_merged f n i)
      holds_merged (both f g) n i = ap₂ ◌&&◌ (holds_merged f n i) (holds_merged g n i)
      holds_merged (compare r a b) n i = ap₂ (compared r) (value_merged a n i) (value_merged b n i)

      pub value_merged : (a : Expression) (n : ℕ) {s : Tuple} → Inside c.N n s →
          value a c n s ≡ value a m n (map group s)
      value_merged (probability p) n i =
          λ j. record { top = pos (numerator_merged p n i j); bottom = denominator_merged p n j }
      value_merged (constant a b) n i = refl
      value_merged (sum a b) n i = ap₂ add_f (value_merged a n i) (value_merged b n i)
      value_merged (difference a b) n i = ap₂ sub_f (value_merged a n i) (value_merged b n i)
      value_merged (product a b) n i = ap₂ mul_f (value_merged a n i) (value_merged b n i)

      pub numerator_merged : (p : PathFormula) (n : ℕ) {s : Tuple} → Inside c.N n s →
          numerator p c n s ≡ numerator p m n (map group s)
      numerator_merged (next f) n i =
          next_merged (next f) n i (λ t. holds f c n t) (λ t. holds f m n t) (λ t w. holds_merged f n w)
      numerator_merged (until k1 k2 f g) n i =
          until_merged (until k1 k2 f g) n i sound k1 k2
          (λ t. holds f c n t) (λ t. holds f m n t) (λ t. holds g c n t) (λ t. holds g m n t)
          (λ t w. holds_merged f n w) (λ t w. holds_merged g n w)

  -- a test of all states, and of all groups
  every_merged : (p q : ℕ → Bool) → ((s : ℕ) → s < c.N → p s ≡ q (group s)) →
      every p (below c.N) ≡ every q (below m.N)
  every_merged p q h =
      same_truth _ _
      (λ e.
      (every_means q (below m.N)).1
      (λ g w.
      let u = merge.grouping.used g (below_member m.N w) in
      ap q (sym u.2) ∙ sym (h u.0 u.1) ∙ (every_means p (below c.N)).0 e u.0 (below_has c.N u.1)))
      (λ e.
      (every_means p (below c.N)).1
      (λ s w.
      let i = below_member c.N w in
      h s i ∙ (every_means q (below m.N)).0 e (group s) (below_has m.N (merge.grouping.inside s i))))

  there_is_merged : (p q : ℕ → Bool) → ((s : ℕ) → s < c.N → p s ≡ q (group s)) →
      there_is p (below c.N) ≡ there_is q (below m.N)
  there_is_merged p q h =
      same_truth _ _
      (λ e.
      let u = there_is_found p (below c.N) e in
      let i = below_member c.N u.1 in
      there_is_from q (group u.0) (below m.N) (below_has m.N (merge.grouping.inside u.0 i))
      (sym (h u.0 i) ∙ u.2))
      (λ e.
      let v = there_is_found q (below m.N) e in
      let u = merge.grouping.used v.0 (below_member m.N v.1) in
      there_is_from p u.0 (below c.N) (below_has c.N u.1) (h u.0 u.1 ∙ ap q u.2 ∙ v.2))

  ranges_merged : (letter : Letter) (p q : ℕ → Bool) → ((s : ℕ) → s < c.N → p s ≡ q (group s)) →
      ranges letter p (below c.N) ≡ ranges letter q (below m.N)
  unfolding ranges
  ranges_merged for_all p q h = every_merged p q h
  ranges_merged exists p q h = there_is_merged p q h

  -- a prefix over tests that agree
  ranged_merged : (letters : List Letter) (p q : Tuple → Bool) →
      ((s : Tuple) → Inside c.N (length letters) s → p s ≡ q (map group s)) → ranged c letters p ≡ ranged m letters q
  unfolding ranged
  ranged_merged [] p q h = h [] nothing
  ranged_merged (letter ∷ letters) p q h =
      ranges_merged letter _ (λ g. ranged m letters (λ gs. q (g ∷ gs)))
      (λ s i. ranged_merged letters (λ ss. p (s ∷ ss)) (λ gs. q (group s ∷ gs)) (λ ss w. h (s ∷ ss) (further i w)))

  -- every sentence has the same verdict
  pub verdict_merged : Sound c → (letters : List Letter) (body : Formula) →
      verdict c letters body ≡ verdict m letters body
  unfolding verdict
  verdict_merged sound letters body =
      ranged_merged letters (holds body c (length letters)) (holds body m (length letters))
      (λ s i. holds_merged sound body (length letters) i)

  -- what has a merged chain is stable
  pub merged_stable : Stable c group m.N
  merged_stable =
      record {
        labels = λ s t i j e l. sym (merge.labels s i l) ∙ ap (m.label l) e ∙ merge.labels t j l;
        weights = λ s t i j e h w. sym (merge.weights s i h w) ∙ ap (λ g. m.weight g h) e ∙ merge.weights t j h w;
      }

module _ (group : ℕ → ℕ) (g : ℕ) where
  -- where the list has a member of the group g, the first one is a member of it and stands in the list
  pub member_found : {s : ℕ} (ss : List ℕ) → Memᴰ s ss → group s ≡ g →
      (group (member group g ss) ≡ g) × Memᴰ (member group g ss) ss
  unfolding member
  member_found [] w e = absurd (Memᴰ.not-nil w)
  member_found {s} (x ∷ xs) w e = look (eqb (group x) g) refl (Memᴰ.cases_cons w) (λ v. member_found xs v e)
    where
      look : (b : Bool) → eqb (group x) g ≡ b → (s ≡ x) ⊎ Memᴰ s xs →
          (Memᴰ s xs → (group (member group g xs) ≡ g) × Memᴰ (member group g xs) xs) →
          (group (cond b x (member group g xs)) ≡ g) × Memᴰ (cond b x (member group g xs)) (x ∷ xs)
      look true p place later = (eqb-true (group x) g p, Memᴰ.head refl)
      look false p (inl q) later = absurd (eqb-false (group x) g p (ap group (sym q) ∙ e))
      look false p (inr v) later =
          let r = later v in
          (r.0, Memᴰ.tail r.1)

-- a stable grouping has a merged chain: that of the first members
pub merged_is : (c : Chain) (group : ℕ → ℕ) (M : ℕ) → Grouping c group M → Stable c group M →
    Merged c group (merged c group M)
unfolding merged
merged_is c group M grouping stable =
    record {
      grouping = grouping;
      same_d = refl;
      labels = λ s i l. stable.labels (first s) s (first_below s i) i (first_group s i) l;
      weights = λ s i h w. stable.weights (first s) s (first_below s i) i (first_group s i) h w;
    }
  where
    first : ℕ → ℕ
    first s = member group (group s) (below c.N)

    first_group : (s : ℕ) → s < c.N → group (first s) ≡ group s
    first_group s i = (member_found group (group s) (below c.N) (below_has c.N i) refl).0

    first_below : (s : ℕ) → s < c.N → first s < c.N
    first_below s i = below_member c.N (member_found group (group s) (below c.N) (below_has c.N i) refl).1
