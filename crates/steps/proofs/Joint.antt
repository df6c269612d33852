-- A step of one variable means `step_one`, and one of those that move after another, the last first, is their joint step.
use Prim.Native.Nat.{ℕ, zero, suc, ◌+◌, ◌*◌, ◌-◌, ◌/◌, ◌%◌, ◌^◌, ◌≤◌, ◌<◌}
use mathlib.Core.Bool.{Bool, true, false}
use mathlib.Core.List.{List, [], ◌∷◌}
use mathlib.Core.Path.{◌≡◌, refl, sym, ap, ap₂, subst, ◌∙◌}
use native.Mathlib.Nat.{mul-div_cancel, mod-lt, pow-suc, pow-succ', pow-zero, pow-le-pow_right, mul-le-mul_right, le_refl}
use native.Mathlib.Omega.{arith}
use lib.ListN.{length, get_or, set, drop, drop_of_length-le}
use lib.Seq.{drop-cons}
use Rattle.counting.specs.Below.{sum_below}
use Rattle.counting.proofs.Laws.{sum_same}
use Rattle.meaning.specs.Lists.{below, total}
use Rattle.meaning.specs.Chain.{Chain, Sound, Tuple, Inside}
use Rattle.meaning.specs.Named.{Some, count}
use Rattle.meaning.proofs.Single.{step_one, step_from, step_one_at, step_from_joint}
use Rattle.meaning.proofs.Numbers.{tuple_of, tuple_inside, each_length}
use Rattle.layers.specs.Layers.{Layer, RestKept}
use Rattle.counting.specs.Entries.{cell}
use Rattle.steps.specs.Columns.{start, LayerFits, LayerStepped}
use Rattle.layers.specs.Held.{Holds}
use Rattle.steps.specs.Steps.{StepFits, Stepped}
use Rattle.steps.proofs.Columns.{column_of, start_split, start_column, place_below, column_below}
use Rattle.layers.proofs.Places.{pow_some, pow_place, state_at, tuple_moved}
use Rattle.meaning.proofs.Sums.{total_sum}
use Rattle.steps.proofs.Sums.{sum_bounded}

-- the row of a state adds up to D
pub row_sum : {c : Chain} {rows : List (List ℕ)} {N : ℕ} → Holds c rows N → (s : ℕ) → s < N →
    sum_below N (cell rows s) ≡ c.D
unfolding Sound
row_sum {c} {rows} {N} h s l =
    sum_same N (λ t m. h.weights s t l m) ∙
    sym (total_sum N (c.weight s)) ∙
    ap (λ (x : ℕ). total (c.weight s) (below x)) (sym h.states) ∙
    h.sound s (omega (arith, h.states))

-- every place of a tuple's column lies in the layer
place_in : (N stride above k t : ℕ) → 1 ≤ N → 1 ≤ stride → k < above * N * stride → t < N →
    start N stride k + t * stride < above * N * stride
place_in N stride above k t some apart l m =
    let e = start_column N stride some apart k in
    let c = column_below N stride some apart above k l in
    let p = place_below N stride some apart (column_of N stride k) t m above c in
    omega arith

-- ---- a layer in which one variable has been stepped
module _ {rows : List (List ℕ)} {N T : ℕ} {before after : List ℕ} (n i : ℕ) (some : 1 ≤ N) (whole : T ≡ N ^ n)
    (less : i < n) (h : LayerStepped rows N (N ^ (n - suc i)) T before after) where
  -- the layer of any function is that of the function stepped by the variable
  pub one_layer : (c : Chain) → Holds c rows N → (f : Tuple → ℕ) → Layer N n f before → Layer N n (step_one c i f) after
  one_layer c held f layer = record { at = here }
    where
      here : (k : ℕ) → k < N ^ n → get_or after k 0 ≡ step_one c i f (tuple_of N n k)
      here k l =
          let stride = N ^ (n - suc i) in
          let apart = pow_some N (n - suc i) some in
          let tuple = tuple_of N n k in
          let s = k / stride % N in
          let state = state_at N some n i k less l in
          let inside : i < length tuple = omega (arith, each_length (tuple_inside N n k l)) in
          let split = start_split N stride some apart k in
          let at : (t : ℕ) → t < N → get_or before (start N stride k + t * stride) 0 ≡ f (set tuple i t) = λ t m.
          layer.at (start N stride k + t * stride)
          (subst (λ (x : ℕ). start N stride k + t * stride < x) (sym (pow_place N n i less))
          (place_in N stride (N ^ i) k t some apart (subst (λ (x : ℕ). k < x) (pow_place N n i less) l) m)) ∙
          ap f (tuple_moved N some n i k (start N stride k + t * stride) t less l m (omega arith)) in
          h.each k (omega arith) ∙
          sum_same N (λ t m. ap₂ ◌*◌ (held.weights s t (mod-lt (k / stride) some) m) (at t m)) ∙
          sym (total_sum N (λ t. c.weight s t * f (set tuple i t))) ∙
          ap₂ (λ (x y : ℕ). total (λ t. c.weight x t * f (set tuple i t)) (below y)) (sym state) (sym held.states) ∙
          sym (step_one_at c i f tuple inside)

  -- its numbers are at most D times what they were
  pub one_small : (D bound : ℕ) → ((s : ℕ) → s < N → sum_below N (cell rows s) ≡ D) →
      ((k : ℕ) → k < T → get_or before k 0 ≤ bound) → (k : ℕ) → k < T → get_or after k 0 ≤ D * bound
  one_small D bound sums small k l =
      let stride = N ^ (n - suc i) in
      let apart = pow_some N (n - suc i) some in
      let s = k / stride % N in
      let place = pow_place N n i less in
      let e = h.each k l in
      let q = sum_bounded N (cell rows s) (λ t. get_or before (start N stride k + t * stride) 0) bound
      (λ t m.
      small (start N stride k + t * stride)
      (omega (arith, whole, place, place_in N stride (N ^ i) k t some apart (omega (arith, whole, place)) m))) in
      let d = ap (λ (x : ℕ). x * bound) (sums s (mod-lt (k / stride) some)) in
      omega arith

-- one factor more
scaled : (D m bound : ℕ) → D * (D ^ m * bound) ≡ D ^ suc m * bound
scaled D m bound =
    let e : D ^ suc m * bound ≡ D * D ^ m * bound = ap (λ (x : ℕ). x * bound) (pow-succ' D m) in
    omega arith

-- what a step says, by variables that are known by another name
pub stepped_by : {rows : List (List ℕ)} {N n T : ℕ} {bs cs : Some} {before after : List ℕ} → bs ≡ cs →
    Stepped rows N n bs T before after → Stepped rows N n cs T before after
stepped_by {rows} {N} {n} {T} {bs} {cs} {before} {after} e h = subst (λ (x : Some). Stepped rows N n x T before after) e h

-- no more of the last variables than of all
count_drop : (bs : Some) (k : ℕ) → count (drop k bs) ≤ count bs
unfolding count
count_drop bs zero = le_refl (count bs)
count_drop [] (suc k) = le_refl 0
count_drop (true ∷ bs) (suc k) = let r = count_drop bs k in omega arith
count_drop (false ∷ bs) (suc k) = count_drop bs k

-- the variables from place i on have stepped, if they move
pub record Stepping (rows : List (List ℕ)) (N n : ℕ) (those : Some) (T : ℕ) (before : List ℕ) (i stride : ℕ) (after : List ℕ) : Type 0 where
  pub strided : stride ≡ N ^ (n - i)
  pub each : (c : Chain) → Holds c rows N → (f : Tuple → ℕ) → Layer N n f before →
      Layer N n (λ s. step_from c i (drop i those) f s) after
  pub small : (D bound : ℕ) → ((s : ℕ) → s < N → sum_below N (cell rows s) ≡ D) →
      ((k : ℕ) → k < T → get_or before k 0 ≤ bound) → (k : ℕ) → k < T → get_or after k 0 ≤ D ^ count (drop i those) * bound
  pub kept : RestKept T before after

module _ {rows : List (List ℕ)} {N n T : ℕ} {those : Some} {before : List ℕ} where
  -- before the first turn
  pub stepping_none : length those ≡ n → Stepping rows N n those T before n 1 before
  unfolding step_from count
  stepping_none every = record {
    strided =
        let none : n - n ≡ 0 = omega arith in
        sym (ap (λ (x : ℕ). N ^ x) none ∙ pow-zero N);
    each = λ c h f layer. record {
      at = λ k l. layer.at k l ∙ ap (λ (bs : Some). step_from c n bs f (tuple_of N n k)) (sym none);
    };
    small = λ D bound sums small k l.
        let e : D ^ count (drop n those) * bound ≡ bound =
        ap (λ (bs : Some). D ^ count bs * bound) none ∙ ap (λ (x : ℕ). x * bound) (pow-zero D) ∙ omega arith in
        omega (arith, small k l);
    kept = record { long = refl; rest = refl };
  }
    where
      none : drop n those ≡ []
      none = drop_of_length-le those {i = n} (omega (arith, every))

  -- a loop begins behind the last variable, and has the whole layer before it
  pub stepping_first : StepFits rows N n those T before → {i : ℕ} → i ≡ n → (T ≡ N ^ i) × Stepping rows N n those T before i 1 before
  stepping_first fits e =
      subst (λ (x : ℕ). (T ≡ N ^ x) × Stepping rows N n those T before x 1 before) (sym e) (fits.sizes.whole, stepping_none fits.each)

  -- a loop counts down from `top`, and comes to the variable in place i
  module _ (fits : StepFits rows N n those T before) {i top stride : ℕ} {after : List ℕ}
      (done : Stepping rows N n those T before top stride after) (place : top ≡ suc i) (less : i < n) where
    h : Stepping rows N n those T before (suc i) stride after
    h = subst (λ (x : ℕ). Stepping rows N n those T before x stride after) place done

    -- the next variable, and those after it
    and_after : (b : Bool) → get_or those i false ≡ b → drop i those ≡ b ∷ drop (suc i) those
    and_after b e = drop-cons those i false (omega (arith, fits.each)) ∙ ap (λ (x : Bool). x ∷ drop (suc i) those) e

    -- one factor more, if it moves
    more_power : (D bound : ℕ) → get_or those i false ≡ true →
        D * (D ^ count (drop (suc i) those) * bound) ≡ D ^ count (drop i those) * bound
    unfolding count
    more_power D bound e =
        scaled D (count (drop (suc i) those)) bound ∙ ap (λ (bs : Some). D ^ count bs * bound) (sym (and_after true e))

    -- what a step of one variable asks
    pub layer_fits : get_or those i false ≡ true → LayerFits rows N stride T after
    layer_fits e = record {
      some = fits.sizes.some;
      states = fits.sizes.states;
      apart = subst (λ (x : ℕ). 1 ≤ x) (sym h.strided) (pow_some N (n - suc i) fits.sizes.some);
      above = N ^ i;
      whole = fits.sizes.whole ∙ pow_place N n i less ∙ ap (λ (x : ℕ). N ^ i * N * x) (sym h.strided);
      few = fits.sizes.few;
      room = omega (arith, fits.room, h.kept.long);
      bound = fits.chain.D ^ count (drop (suc i) those) * fits.bound;
      small = h.small fits.chain.D fits.bound (row_sum fits.holds) fits.small;
      fits = λ s l.
          let D = fits.chain.D in
          let f = ap (λ (x : ℕ). x * (D ^ count (drop (suc i) those) * fits.bound)) (row_sum fits.holds s l) in
          let p = more_power D fits.bound e in
          let q = mul-le-mul_right fits.bound (pow-le-pow_right fits.weighed (count_drop those i)) in
          omega (arith, fits.fits);
    }

    -- one variable fewer stands before it: so many blocks are left,
    pub blocks_left : {blocks states : ℕ} → blocks ≡ N ^ top → states ≡ N → blocks / states ≡ N ^ i
    blocks_left {blocks} {states} e same =
        ap (λ (x : ℕ). blocks / x) same ∙
        ap (λ (x : ℕ). x / N) (e ∙ ap (λ (x : ℕ). N ^ x) place ∙ pow-suc N i) ∙
        mul-div_cancel (N ^ i) fits.sizes.some

    -- and they are the whole layer
    pub blocks_whole : {blocks states : ℕ} → blocks ≡ N ^ top → states ≡ N → T ≡ blocks / states * N * stride
    blocks_whole e same =
        fits.sizes.whole ∙ pow_place N n i less ∙ ap (λ (x : ℕ). N ^ i * N * x) (sym h.strided) ∙
        ap (λ (x : ℕ). x * N * stride) (sym (blocks_left e same))

    -- the next stride
    strided_next : stride * N ≡ N ^ (n - i)
    strided_next =
        let one : n - i ≡ suc (n - suc i) = omega arith in
        ap (λ (x : ℕ). x * N) h.strided ∙ sym (pow-suc N (n - suc i)) ∙ ap (λ (x : ℕ). N ^ x) (sym one)

    -- it is at most T
    pub stride_small : stride * N ≤ T
    stride_small = omega (arith, strided_next, fits.sizes.whole, pow-le-pow_right fits.sizes.some {i = n - i} {j = n} (omega arith))

    -- one variable more, from what the layer and its numbers are with it
    one_more : {now : List ℕ} (b : Bool) → get_or those i false ≡ b →
        ((c : Chain) → Holds c rows N → (f : Tuple → ℕ) → Layer N n f before →
        Layer N n (λ s. step_from c i (b ∷ drop (suc i) those) f s) now) →
        ((D bound : ℕ) → ((s : ℕ) → s < N → sum_below N (cell rows s) ≡ D) → ((k : ℕ) → k < T → get_or before k 0 ≤ bound) →
        (k : ℕ) → k < T → get_or now k 0 ≤ D ^ count (b ∷ drop (suc i) those) * bound) →
        RestKept T after now → Stepping rows N n those T before i (stride * N) now
    one_more {now} b e each small kept = record {
      strided = strided_next;
      each = λ c held f layer.
          subst (λ (bs : Some). Layer N n (λ s. step_from c i bs f s) now) (sym (and_after b e)) (each c held f layer);
      small = λ D bound sums few k l.
          subst (λ (bs : Some). get_or now k 0 ≤ D ^ count bs * bound) (sym (and_after b e)) (small D bound sums few k l);
      kept = record {
        long = kept.long ∙ h.kept.long;
        rest = kept.rest ∙ h.kept.rest;
      };
    }

    -- the variable moves
    pub stepping_moved : {now : List ℕ} → get_or those i false ≡ true → LayerStepped rows N stride T after now →
        Stepping rows N n those T before i (stride * N) now
    unfolding step_from count
    stepping_moved {now} e one =
        one_more true e
        (λ c held f layer.
        one_layer n i fits.sizes.some fits.sizes.whole less placed c held
        (λ s. step_from c (suc i) (drop (suc i) those) f s) (h.each c held f layer))
        (λ D bound sums small k l.
        let p = scaled D (count (drop (suc i) those)) bound in
        omega (
          arith,
          one_small n i fits.sizes.some fits.sizes.whole less placed D
              (D ^ count (drop (suc i) those) * bound) sums (h.small D bound sums small) k l,
        ))
        one.kept
      where
        placed : LayerStepped rows N (N ^ (n - suc i)) T after now
        placed = subst (λ (x : ℕ). LayerStepped rows N x T after now) h.strided one

    -- it stays
    pub stepping_stayed : get_or those i false ≡ false → Stepping rows N n those T before i (stride * N) after
    unfolding step_from count
    stepping_stayed e = one_more false e h.each h.small (record { long = refl; rest = refl })

  -- after the last turn the joint step has been made
  pub stepping_all : {i stride : ℕ} {after : List ℕ} → StepFits rows N n those T before →
      Stepping rows N n those T before i stride after → i ≡ 0 → Stepped rows N n those T before after
  stepping_all fits h none = record {
    each = λ c held f layer. record {
      at = λ k l.
          (h.each c held f layer).at k l ∙
          ap (λ (x : ℕ). step_from c x (drop x those) f (tuple_of N n k)) none ∙
          step_from_joint c those
          (subst (λ (x : ℕ). Inside x (length those) (tuple_of N n k)) (sym held.states)
          (subst (λ (x : ℕ). Inside N x (tuple_of N n k)) (sym fits.each) (tuple_inside N n k l))) f;
    };
    kept = h.kept;
  }
