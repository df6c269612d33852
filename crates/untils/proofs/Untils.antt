-- An until by layers: what one turn makes of the third layer, and what stands there after l turns.
use Prim.Native.Nat.{ℕ, suc, ◌+◌, ◌*◌, ◌-◌, ◌^◌, ◌≤◌, ◌<◌}
use mathlib.Core.Bool.{Bool, true, false, cond, not, ◌&&◌}
use mathlib.Core.List.{List, [], ◌∷◌}
use mathlib.Core.Path.{◌≡◌, refl, sym, ap, ap₂, subst, ◌∙◌}
use native.Mathlib.Nat.{le_trans, le_of_eq, mul-le-mul_left, mul-zero, mul-suc, pow-zero, pow-le-pow_right}
use native.Mathlib.Numerals.{add-one}
use native.Mathlib.Omega.{arith}
use borrow.Author.Tests.{le-leb}
use lib.Dec.{eqb, leb}
use lib.ListN.{length, get_or, drop, length-drop}
use lib.Pow.{pow-add}
use lib.Seq.{get_or-drop}
use Rattle.meaning.specs.Size.{size_limit}
use Rattle.meaning.specs.Chain.{Chain, Sound, Tuple, Inside}
use Rattle.meaning.specs.Named.{Some, count, chosen, placed}
use Rattle.meaning.proofs.Named.{chosen_inside, placed_inside}
use Rattle.meaning.proofs.Numbers.{number_of, tuple_of, tuple_inside, number_tuple, number_below}
use Rattle.meaning.proofs.Steps.{steps, step_le, step_constant}
use Rattle.meaning.proofs.Until.{layer, until_layer}
use Rattle.layers.specs.Layers.{Layer, truth}
use Rattle.layers.specs.Held.{Holds}
use Rattle.steps.specs.Steps.{Stepped}
use Rattle.layers.specs.Layers.{WrittenAt}
use Rattle.untils.specs.Untils.{choice, choice_at, TurnFits, Turned, UntilFits, UntilTaken}
use Rattle.layers.proofs.Tails.{Back, back_at}
use Rattle.layers.proofs.Written.{kept_at, kept_from}

-- choices from equal numbers are equal
pub choice_same : (opened : Bool) (all : ℕ) {a a' b b' x x' : ℕ} → a ≡ a' → b ≡ b' → x ≡ x' →
    choice opened all a b x ≡ choice opened all a' b' x'
choice_same opened all p q r = λ i. choice opened all (p i) (q i) (r i)

-- a step of the tail, then the choice
pub turned_from : {rows : List (List ℕ)} {N n T : ℕ} {those : Some} {opened : Bool} {all : ℕ} {before tail mid after : List ℕ} →
    T ≡ N ^ n → Stepped rows N n those T (drop (T + T) before) tail → Back (T + T) before tail mid →
    WrittenAt (T + T) T (choice_at opened all T mid) mid after →
    Turned rows N n those T opened all before after
turned_from {T = T} {opened = opened} {all = all} {before = before} {mid = mid} whole stepped back written = record {
  long = written.long ∙ back.long;
  low = λ k l. written.low k l ∙ back.low k l;
  high = λ k l. written.high k l ∙ past k l;
  each = λ c held f layer k l.
      written.each k (omega arith) ∙
      choice_same opened all (back.low k (omega arith)) (back.low (T + k) (omega arith))
      (back_at back k ∙ (stepped.each c held f layer).at k l);
}
  where
    past : (k : ℕ) → T + T + T ≤ k → get_or mid k 0 ≡ get_or before k 0
    past k l =
        let e : T + T + (k - (T + T)) ≡ k = omega arith in
        ap (λ (x : ℕ). get_or mid x 0) (sym e) ∙
        back_at back (k - (T + T)) ∙
        kept_at stepped.kept (k - (T + T)) (omega arith) ∙
        get_or-drop (T + T) before (k - (T + T)) 0 ∙
        ap (λ (x : ℕ). get_or before x 0) e

-- the choice, by truths
choice_truth : (opened first second : Bool) (all number : ℕ) →
    choice opened all (cond first 1 0) (cond second 1 0) number ≡ cond (opened && second) all (cond first number 0)
choice_truth true true true all number = refl
choice_truth true true false all number = refl
choice_truth true false true all number = refl
choice_truth true false false all number = refl
choice_truth false true true all number = refl
choice_truth false true false all number = refl
choice_truth false false true all number = refl
choice_truth false false false all number = refl

-- a choice is no larger than what it chooses from
choice_le : (opened : Bool) (all first second number bound : ℕ) → all ≤ bound → number ≤ bound →
    choice opened all first second number ≤ bound
choice_le opened all first second number bound p q = outer (opened && not (eqb second 0)) (inner (eqb first 0))
  where
    inner : (b : Bool) → cond b 0 number ≤ bound
    inner true = omega arith
    inner false = q

    outer : {x : ℕ} (b : Bool) → x ≤ bound → cond b all x ≤ bound
    outer true r = p
    outer false r = r

-- a step of some variables of a function that is at most `bound` is at most D^v × bound
steps_le : (c : Chain) → Sound c → (those : Some) (f : Tuple → ℕ) (bound : ℕ) →
    ((t : Tuple) → Inside c.N (length those) t → f t ≤ bound) →
    {s : Tuple} → Inside c.N (length those) s → steps c those f s ≤ c.D ^ count those * bound
unfolding steps
steps_le c sound those f bound h {s} i =
    le_trans
    (step_le c (count those) (λ t. f (placed those s t)) (λ t. bound)
    (λ t j. h (placed those s t) (placed_inside c.N those i j)) (chosen those s))
    (le_of_eq (step_constant c sound (count those) bound (chosen_inside c.N those i)))

-- any numbers are the layer of some function
numbers_layer : (N n : ℕ) (w : List ℕ) → Layer N n (λ s. get_or w (number_of N s) 0) w
numbers_layer N n w = record { at = λ k l. ap (λ (x : ℕ). get_or w x 0) (sym (number_tuple N n k l)) }

-- a tuple is inside by equal numbers of states and variables
inside_those : {N n M m : ℕ} → M ≡ N → m ≡ n → (k : ℕ) → k < N ^ n → Inside M m (tuple_of N n k)
inside_those {N} {n} {M} {m} states every k l =
    subst (λ (x : ℕ). Inside x m (tuple_of N n k)) (sym states)
    (subst (λ (x : ℕ). Inside N x (tuple_of N n k)) (sym every) (tuple_inside N n k l))

of_n : {N n M m : ℕ} {t : Tuple} → M ≡ N → m ≡ n → Inside M m t → Inside N n t
of_n {N} {n} {M} {m} {t} states every i = subst (λ (x : ℕ). Inside N x t) every (subst (λ (x : ℕ). Inside x m t) states i)

-- no more variables move than there are
count_le : (bs : Some) → count bs ≤ length bs
unfolding count
count_le [] = omega arith
count_le (true ∷ bs) = let r = count_le bs in omega arith
count_le (false ∷ bs) = let r = count_le bs in omega arith

-- one denominator more
power_more : (d n l : ℕ) → d ^ (n * l) * d ^ n ≡ d ^ (n * suc l)
power_more d n l = sym (pow-add d (n * l) n) ∙ ap (λ (x : ℕ). d ^ x) (sym (mul-suc n l))

-- after `left` turns: the third layer counts the runs taken with so many steps left
pub record Untiling (rows : List (List ℕ)) (N n : ℕ) (those : Some) (T d k1 k2 : ℕ) (before : List ℕ) (all left : ℕ)
    (after : List ℕ) : Type 0 where
  pub up_to : left ≤ k2
  pub power : all ≡ d ^ (count those * left)
  pub long : length after ≡ length before
  pub low : (k : ℕ) → k < T + T → get_or after k 0 ≡ get_or before k 0
  pub high : (k : ℕ) → T + T + T ≤ k → get_or after k 0 ≡ get_or before k 0
  pub small : (k : ℕ) → k < T → get_or after (T + T + k) 0 ≤ d ^ (count those * left)
  pub each : (c : Chain) → Holds c rows N → c.D ≡ d → (first second : Tuple → Bool) →
      Layer N n (truth first) before → Layer N n (truth second) (drop T before) →
      Layer N n (λ s. layer c those first second k1 k2 left s) (drop (T + T) after)

module _ {rows : List (List ℕ)} {N n v T d k1 k2 : ℕ} {those : Some} {before : List ℕ}
    (fits : UntilFits rows N n those v T d k1 k2 before) where
  -- with no step left, where the third layer has been copied from the second
  none_left : ((k : ℕ) → k < T → get_or before (T + T + k) 0 ≡ get_or before (T + k) 0) →
      Untiling rows N n those T d k1 k2 before 1 0 before
  unfolding layer
  none_left copied = record {
    up_to = omega arith;
    power = sym none;
    long = refl;
    low = λ k l. refl;
    high = λ k l. refl;
    small = λ k l. omega (arith, copied k l, fits.ones k l, none);
    each = λ c held e first second one two. record {
      at = λ k l.
          get_or-drop (T + T) before k 0 ∙
          copied k (omega (arith, fits.sizes.whole)) ∙
          sym (get_or-drop T before k 0) ∙
          two.at k l ∙
          ap (λ b. cond (b && second (tuple_of N n k)) 1 0) (sym (le-leb k1 k2 fits.window));
    };
  }
    where
      none : d ^ (count those * 0) ≡ 1
      none = ap (λ (x : ℕ). d ^ x) (mul-zero (count those)) ∙ pow-zero d

  pub untiling_none : {left : ℕ} → left ≡ 0 → ((k : ℕ) → k < T → get_or before (T + T + k) 0 ≡ get_or before (T + k) 0) →
      Untiling rows N n those T d k1 k2 before 1 left before
  untiling_none e copied = subst (λ (l : ℕ). Untiling rows N n those T d k1 k2 before 1 l before) (sym e) (none_left copied)

  -- few variables move
  pub few_move : v ≤ 4
  few_move = omega (arith, fits.counted, count_le those, fits.each, fits.few)

  module _ {all left : ℕ} {after : List ℕ} (h : Untiling rows N n those T d k1 k2 before all left after)
      (less : left < k2) where
    -- the next denominator
    pub next_power : all * d ^ v ≡ d ^ (count those * suc left)
    next_power =
        ap₂ (λ (x y : ℕ). x * d ^ y) h.power fits.counted ∙ power_more d (count those) left

    -- and it is at most 2^62
    pub power_fits : d ^ (count those * suc left) ≤ size_limit
    power_fits =
        le_trans (pow-le-pow_right fits.weighed {i = count those * suc left} {j = count those * k2} (mul-le-mul_left (count those) less))
        fits.fits

    -- that of one step too
    pub step_fits : d ^ v ≤ size_limit
    step_fits =
        le_trans (pow-le-pow_right fits.weighed {i = v} {j = count those * suc left} (omega (arith, fits.counted))) power_fits

    -- what the next turn asks
    pub turn_fits : TurnFits rows N n those T after
    turn_fits = record {
      room = omega (arith, h.long, fits.room);
      step = record {
        chain = fits.chain;
        holds = fits.holds;
        weighed = omega (arith, fits.sums, fits.weighed);
        sizes = fits.sizes;
        few = fits.few;
        each = fits.each;
        room = omega (arith, length-drop (T + T) after, h.long, fits.room);
        bound = d ^ (count those * left);
        small = λ k l. omega (arith, get_or-drop (T + T) after k 0, h.small k l);
        fits =
            let e : fits.chain.D ^ count those * d ^ (count those * left) ≡ d ^ count those * d ^ (count those * left) =
            ap (λ (x : ℕ). x ^ count those * d ^ (count those * left)) fits.sums in
            omega (arith, power_more d (count those) left, power_fits);
      };
    }

    -- one turn more
    one_more : {more : ℕ} {now : List ℕ} → more ≡ all * d ^ v →
        Turned rows N n those T (leb k1 (k2 - (left + 1))) more after now →
        Untiling rows N n those T d k1 k2 before more (left + 1) now
    unfolding layer
    one_more {more} {now} e turned = record {
      up_to = omega arith;
      power = power;
      long = turned.long ∙ h.long;
      low = λ k l. turned.low k l ∙ h.low k l;
      high = λ k l. turned.high k l ∙ h.high k l;
      small = small;
      each = λ c held sums first second one two. record {
        at = λ k l.
            let s = tuple_of N n k in
            let f : Tuple → ℕ = λ t. layer c those first second k1 k2 left t in
            let all' : more ≡ c.D ^ (count those * suc left) =
            e ∙ next_power ∙ ap (λ (x : ℕ). x ^ (count those * suc left)) (sym sums) in
            get_or-drop (T + T) now k 0 ∙
            turned.each c held f (h.each c held sums first second one two) k l ∙
            choice_same (leb k1 (k2 - (left + 1))) more
            (h.low k (omega arith) ∙ one.at k l)
            (h.low (T + k) (omega arith) ∙ sym (get_or-drop T before k 0) ∙ two.at k l) refl ∙
            choice_truth (leb k1 (k2 - (left + 1))) (first s) (second s) more (steps c those f s) ∙
            ap (λ (x : ℕ). cond (leb k1 (k2 - (left + 1)) && second s) x (cond (first s) (steps c those f s) 0)) all' ∙
            ap (λ (x : ℕ).
            cond (leb k1 (k2 - x) && second s) (c.D ^ (count those * suc left)) (cond (first s) (steps c those f s) 0)) (add-one left) ∙
            ap (λ (x : ℕ). layer c those first second k1 k2 x s) (sym (add-one left));
      };
    }
      where
        power : more ≡ d ^ (count those * (left + 1))
        power = e ∙ next_power ∙ ap (λ (x : ℕ). d ^ (count those * x)) (sym (add-one left))

        small : (k : ℕ) → k < T → get_or now (T + T + k) 0 ≤ d ^ (count those * (left + 1))
        small k l =
            let c = fits.chain in
            let third = drop (T + T) after in
            let f : Tuple → ℕ = λ s. get_or third (number_of N s) 0 in
            let in_layer : k < N ^ n = omega (arith, fits.sizes.whole) in
            let states = fits.holds.states in
            let inside = inside_those states fits.each k in_layer in
            let bounded : steps c those f (tuple_of N n k) ≤ c.D ^ count those * d ^ (count those * left) =
            steps_le c fits.holds.sound those f (d ^ (count those * left))
            (λ t i.
            let less' = number_below N (of_n states fits.each i) in
            omega (
              arith,
              get_or-drop (T + T) after (number_of N t) 0,
              h.small (number_of N t) (omega (arith, fits.sizes.whole)),
            ))
            inside in
            let same : c.D ^ count those * d ^ (count those * left) ≡ d ^ count those * d ^ (count those * left) =
            ap (λ (x : ℕ). x ^ count those * d ^ (count those * left)) fits.sums in
            let one_more = power_more d (count those) left in
            let next : d ^ (count those * (left + 1)) ≡ d ^ (count those * suc left) =
            ap (λ (x : ℕ). d ^ (count those * x)) (add-one left) in
            le_trans (le_of_eq (turned.each c fits.holds f (numbers_layer N n third) k in_layer))
            (choice_le (leb k1 (k2 - (left + 1))) more (get_or after k 0) (get_or after (T + k) 0)
            (steps c those f (tuple_of N n k)) (d ^ (count those * (left + 1))) (le_of_eq power) (omega arith))

    -- the same by the turn's moment
    pub untiling_next : {more next moment : ℕ} {now : List ℕ} → more ≡ all * d ^ v → next ≡ left + 1 → moment ≡ k2 - (left + 1) →
        Turned rows N n those T (leb k1 moment) more after now → Untiling rows N n those T d k1 k2 before more next now
    untiling_next {more} {next} {moment} {now} e one at turned =
        subst (λ (l : ℕ). Untiling rows N n those T d k1 k2 before more l now) (sym one)
        (one_more e (subst (λ (m : ℕ). Turned rows N n those T (leb k1 m) more after now) at turned))

  -- after the last turn the third layer, copied to the front, is the numerator
  pub untiling_all : {all left : ℕ} {after now : List ℕ} → Untiling rows N n those T d k1 k2 before all left after →
      k2 ≤ left →
      WrittenAt 0 T (λ k. get_or after (T + T + k) 0) after now → UntilTaken rows N n those T d k1 k2 before now
  untiling_all {left = left} {after = after} {now = now} h done w = record {
    each = λ c held e first second one two. record {
      at = λ k l.
          let q : left ≡ k2 = omega arith in
          ap (λ (x : ℕ). get_or now x 0) (omega arith) ∙
          w.each k (omega (arith, fits.sizes.whole)) ∙
          sym (get_or-drop (T + T) after k 0) ∙
          (h.each c held e first second one two).at k l ∙
          ap (λ (x : ℕ). layer c those first second k1 k2 x (tuple_of N n k)) q ∙
          sym
          (until_layer c those first second k1 k2 held.sound
          (inside_those held.states fits.each k l));
    };
    kept = kept_from (w.long ∙ h.long) (λ k l. w.high k (omega arith) ∙ h.high k l);
  }

-- the copy that comes first: all that the until asks and says of the list before it holds of the list after it
module _ {rows : List (List ℕ)} {N n v T d k1 k2 : ℕ} {those : Some} {entry before : List ℕ}
    (fits : UntilFits rows N n those v T d k1 k2 entry)
    (copied : WrittenAt (T + T) T (λ k. get_or entry (T + k) 0) entry before) where
  -- what the until asks
  pub copied_fits : UntilFits rows N n those v T d k1 k2 before
  copied_fits = record {
    chain = fits.chain;
    holds = fits.holds;
    weighed = fits.weighed;
    sums = fits.sums;
    sizes = fits.sizes;
    room = omega (arith, fits.room, copied.long);
    ones = λ k l. omega (arith, fits.ones k l, copied.low (T + k) (omega arith));
    window = fits.window;
    few = fits.few;
    each = fits.each;
    counted = fits.counted;
    fits = fits.fits;
  }

  -- the third layer is the second
  pub copied_same : (k : ℕ) → k < T → get_or before (T + T + k) 0 ≡ get_or before (T + k) 0
  copied_same k l = copied.each k l ∙ sym (copied.low (T + k) (omega arith))

  -- what the until says
  pub copied_taken : {after : List ℕ} → UntilTaken rows N n those T d k1 k2 before after →
      UntilTaken rows N n those T d k1 k2 entry after
  copied_taken h = record {
    each = λ c held e first second one two.
        h.each c held e first second
        (record { at = λ k l. copied.low k (omega (arith, fits.sizes.whole)) ∙ one.at k l })
        (record {
          at = λ k l.
              get_or-drop T before k 0 ∙
              copied.low (T + k) (omega (arith, fits.sizes.whole)) ∙
              sym (get_or-drop T entry k 0) ∙
              two.at k l;
        });
    kept = kept_from (h.kept.long ∙ copied.long) (λ k l. kept_at h.kept k l ∙ copied.high k l);
  }
