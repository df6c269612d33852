-- An until whose formulas overlook the variables before the first that moves: its layer repeats that of the tuples in which they are in
-- state 0 (`repeated_taken`).
use Prim.Native.Nat.{ℕ, zero, suc, ◌+◌, ◌-◌, ◌*◌, ◌/◌, ◌%◌, ◌^◌, ◌≤◌, ◌<◌}
use mathlib.Core.Bool.{Bool, true, false, true≢false}
use mathlib.Core.List.{List, [], ◌∷◌, ◌++◌}
use mathlib.Core.Path.{◌≡◌, refl, sym, ap, ap₂, subst, ◌∙◌, fun_ext}
use native.Mathlib.Nat.{mod-lt, mod-eq_of_lt, div-eq_of_lt, div-div-eq-div-mul, div-lt_iff_lt-mul}
use native.Mathlib.Nat.{mul_comm, not-suc-le-zero, pow-le-pow_right, one-le-pow}
use native.Mathlib.Omega.{arith}
use lib.Arith.{digits_div, digits_mod, mod-mul}
use lib.ListN.{length, get_or, drop, length-drop}
use lib.Pow.{pow-add}
use lib.Seq.{get_or-drop}
use Rattle.meaning.specs.Size.{size_limit}
use Rattle.meaning.specs.Chain.{Chain, Tuple}
use Rattle.meaning.specs.Named.{Some, count, chosen, placed}
use Rattle.meaning.specs.Meaning.{until_takes, taken_weight, beside}
use Rattle.meaning.proofs.Numbers.{tuple_of, tuple_inside, each_length}
use Rattle.layers.specs.Layers.{Layer, truth, WrittenAt}
use Rattle.layers.proofs.Written.{kept_at, kept_from}
use Rattle.layers.proofs.Repeats.{repeated}
use Rattle.untils.specs.Untils.{UntilFits, UntilTaken, FromFirst, Overlooks, UntilRepeated}

-- ---- tuples that begin alike

-- a tuple's first d states and its last l, by its number
split_tuple : (N d l k : ℕ) → 1 ≤ N → k < N ^ (d + l) → tuple_of N (d + l) k ≡ tuple_of N d (k / N ^ l) ++ tuple_of N l (k % N ^ l)
unfolding tuple_of
split_tuple N zero l k some less =
    let e : 0 + l ≡ l = omega arith in
    let small : k < N ^ l = subst (λ (x : ℕ). k < N ^ x) e less in
    ap₂ (λ (x y : ℕ). tuple_of N x y) e (sym (mod-eq_of_lt small))
split_tuple N (suc d) l k some less =
    let e : suc d + l ≡ suc (d + l) = omega arith in
    let P = N ^ l in
    let pp : 0 < P = one-le-pow l N some in
    let pd : 0 < N ^ d = one-le-pow d N some in
    let m : N ^ (d + l) ≡ N ^ d * P = pow-add N d l in
    let kk : k % N ^ (d + l) ≡ k / P % N ^ d * P + k % P = ap (λ (x : ℕ). k % x) m ∙ mod-mul k {m = N ^ d} {c = P} pd pp in
    let first : k / N ^ (d + l) ≡ k / P / N ^ d =
    ap (λ (x : ℕ). k / x) (m ∙ mul_comm (N ^ d) P) ∙ sym (div-div-eq-div-mul k P (N ^ d)) in
    let second : k % N ^ (d + l) / P ≡ k / P % N ^ d = ap (λ (x : ℕ). x / P) kk ∙ digits_div (k / P % N ^ d) (mod-lt k pp) in
    let third : k % N ^ (d + l) % P ≡ k % P = ap (λ (x : ℕ). x % P) kk ∙ digits_mod (k / P % N ^ d) (mod-lt k pp) in
    ap (λ (x : ℕ). tuple_of N x k) e ∙
    ap₂ (λ (x : ℕ) (y : Tuple). x ∷ y) first
    (split_tuple N d l (k % N ^ (d + l)) some (mod-lt k (one-le-pow (d + l) N some)) ∙
    ap₂ (λ (x y : ℕ). tuple_of N d x ++ tuple_of N l y) second third)

-- none of the first l moves
abbrev Still : Some → ℕ → Type 0
Still bs l = (i : ℕ) → i < l → get_or bs i false ≡ false

-- so their states are not among those of the variables that move,
chosen_lead : (bs : Some) (L : ℕ) (a t : Tuple) → length a ≡ L → L ≤ length bs → Still bs L → chosen bs (a ++ t) ≡ chosen (drop L bs) t
unfolding chosen
chosen_lead bs zero [] t e l q = refl
chosen_lead bs zero (x ∷ a) t e l q = absurd (omega arith)
chosen_lead bs (suc L) [] t e l q = absurd (omega arith)
chosen_lead [] (suc L) (x ∷ a) t e l q = absurd (not-suc-le-zero l)
chosen_lead (true ∷ bs) (suc L) (x ∷ a) t e l q = absurd (true≢false (q 0 (omega arith)))
chosen_lead (false ∷ bs) (suc L) (x ∷ a) t e l q = chosen_lead bs L a t (omega arith) (omega arith) (λ i m. q (suc i) (omega arith))

-- they keep theirs where those have others,
placed_lead : (bs : Some) (L : ℕ) (a t r : Tuple) → length a ≡ L → L ≤ length bs → Still bs L →
    placed bs (a ++ t) r ≡ a ++ placed (drop L bs) t r
unfolding placed
placed_lead bs zero [] t r e l q = refl
placed_lead bs zero (x ∷ a) t r e l q = absurd (omega arith)
placed_lead bs (suc L) [] t r e l q = absurd (omega arith)
placed_lead [] (suc L) (x ∷ a) t r e l q = absurd (not-suc-le-zero l)
placed_lead (true ∷ bs) (suc L) (x ∷ a) t r e l q = absurd (true≢false (q 0 (omega arith)))
placed_lead (false ∷ bs) (suc L) (x ∷ a) t r e l q =
    ap (λ (y : Tuple). x ∷ y) (placed_lead bs L a t r (omega arith) (omega arith) (λ i m. q (suc i) (omega arith)))

-- and they do not count
count_lead : (bs : Some) (l : ℕ) → l ≤ length bs → Still bs l → count bs ≡ count (drop l bs)
unfolding count
count_lead bs zero h q = refl
count_lead [] (suc l) h q = absurd (not-suc-le-zero h)
count_lead (true ∷ bs) (suc l) h q = absurd (true≢false (q 0 (omega arith)))
count_lead (false ∷ bs) (suc l) h q = count_lead bs l (omega arith) (λ i m. q (suc i) (omega arith))

-- the weight taken of tests that overlook them, from a tuple that begins with a, is that from the rest of it, the tests asked behind z
taken_lead : (c : Chain) (bs : Some) (first second : Tuple → Bool) → Overlooks bs first → Overlooks bs second →
    (k1 k2 L : ℕ) (z a t : Tuple) → length z ≡ L → length a ≡ L → L ≤ length bs → Still bs L →
    taken_weight c (count (drop L bs)) k2
    (until_takes (beside (drop L bs) t (λ x. first (z ++ x))) (beside (drop L bs) t (λ x. second (z ++ x))) k1 k2) (chosen (drop L bs) t) ≡
    taken_weight c (count bs) k2 (until_takes (beside bs (a ++ t) first) (beside bs (a ++ t) second) k1 k2) (chosen bs (a ++ t))
taken_lead c bs first second one two k1 k2 L z a t long-z long-a few q =
    let same : (test : Tuple → Bool) → Overlooks bs test →
    beside (drop L bs) t (λ x. test (z ++ x)) ≡ beside bs (a ++ t) test = λ test over.
    fun_ext (λ r.
    over z a (placed (drop L bs) t r) (omega arith) (omega arith) (λ i l. q i (omega arith)) ∙
    ap test (sym (placed_lead bs L a t r long-a few q))) in
    let still = sym (count_lead bs L few q) in
    let begin = sym (chosen_lead bs L a t long-a few q) in
    λ i. taken_weight c (still i) k2 (until_takes (same first one i) (same second two i) k1 k2) (begin i)

-- ---- what is asked and left

-- `lent` are the variables from place L on, before which none moves
module _ {rows : List (List ℕ)} {N n v T d k1 k2 L states few : ℕ} {moving lent : Some} {before : List ℕ}
    (fits : UntilFits rows N n moving v T d k1 k2 before) (from : FromFirst moving L) (tail : lent ≡ drop L moving)
    (same : states ≡ N) (power : few ≡ states ^ length lent) where
  whole : few ≡ N ^ length lent
  whole = power ∙ ap (λ (x : ℕ). x ^ length lent) same

  -- they and those before them are all
  parts : n ≡ L + length lent
  parts = omega (arith, ap length tail, length-drop L moving, fits.each, from.up_to)

  -- those before them do not count
  same_count : count moving ≡ count lent
  same_count = count_lead moving L from.up_to from.quiet ∙ ap count (sym tail)

  -- the tuples of the last variables are no more than all
  pub few_tuples : few ≤ T
  few_tuples =
      omega (arith, whole, fits.sizes.whole, pow-le-pow_right fits.sizes.some {i = length lent} {j = n} (omega (arith, parts)))

  pub few_some : 1 ≤ few
  few_some = omega (arith, whole, one-le-pow (length lent) N fits.sizes.some)

  -- the tuple with a number: its states before the first that moves, and the rest
  tuple_parts : (k : ℕ) → k < N ^ n → tuple_of N n k ≡ tuple_of N L (k / N ^ length lent) ++ tuple_of N (length lent) (k % N ^ length lent)
  tuple_parts k l =
      ap (λ (x : ℕ). tuple_of N x k) parts ∙
      split_tuple N L (length lent) k fits.sizes.some (subst (λ (x : ℕ). k < N ^ x) parts l)

  leads : (k : ℕ) → k < N ^ n → k / N ^ length lent < N ^ L
  leads k l =
      let whole_n : N ^ n ≡ N ^ L * N ^ length lent = ap (λ (x : ℕ). N ^ x) parts ∙ pow-add N L (length lent) in
      (div-lt_iff_lt-mul (one-le-pow (length lent) N fits.sizes.some)).1 (omega (arith, whole_n))

  -- the first tuples begin with state 0
  begins : (k : ℕ) → k < few → tuple_of N n k ≡ tuple_of N L 0 ++ tuple_of N (length lent) k
  begins k l =
      let less : k < N ^ length lent = omega (arith, whole) in
      tuple_parts k (omega (arith, few_tuples, fits.sizes.whole)) ∙
      ap₂ (λ (x y : ℕ). tuple_of N L x ++ tuple_of N (length lent) y) (div-eq_of_lt less) (mod-eq_of_lt less)

  lead_long : (k : ℕ) → k < N ^ L → length (tuple_of N L k) ≡ L
  lead_long k l = each_length (tuple_inside N L k l)

  module _ {mid : List ℕ} (copied : WrittenAt few few (λ k. get_or before (T + k) 0) before mid) where
    -- what the until of the last variables asks
    pub last_fits : UntilFits rows N (length lent) lent v few d k1 k2 mid
    last_fits = record {
      chain = fits.chain;
      holds = fits.holds;
      weighed = fits.weighed;
      sums = fits.sums;
      sizes = record {
        some = fits.sizes.some;
        states = fits.sizes.states;
        whole = whole;
        few = omega (arith, few_tuples, fits.sizes.few);
      };
      room = omega (arith, few_tuples, fits.room, copied.long);
      ones = λ k l. omega (arith, copied.each k l, fits.ones k (omega (arith, few_tuples)));
      window = fits.window;
      few = omega (arith, parts, fits.few);
      each = refl;
      counted = fits.counted ∙ same_count;
      fits = subst (λ (x : ℕ). d ^ (x * k2) ≤ size_limit) same_count fits.fits;
    }

    -- the layer of a test in the front, and behind it, by the tuples of the last variables
    front_layer : (test : Tuple → Bool) → Layer N n (truth test) before → Layer N (length lent)
        (truth (λ x. test (tuple_of N L 0 ++ x))) mid
    front_layer test one = record {
      at = λ k l.
          let less : k < few = omega (arith, whole) in
          copied.low k less ∙
          one.at k (omega (arith, few_tuples, fits.sizes.whole)) ∙
          ap (truth test) (begins k less);
    }

    next_layer : (test : Tuple → Bool) → Layer N n (truth test) (drop T before) →
        Layer N (length lent) (truth (λ x. test (tuple_of N L 0 ++ x))) (drop few mid)
    next_layer test two = record {
      at = λ k l.
          let less : k < few = omega (arith, whole) in
          get_or-drop few mid k 0 ∙
          copied.each k less ∙
          sym (get_or-drop T before k 0) ∙
          two.at k (omega (arith, few_tuples, fits.sizes.whole)) ∙
          ap (truth test) (begins k less);
    }

    -- what is left after the until and the repetition
    pub repeated_taken : {now after : List ℕ} → UntilTaken rows N (length lent) lent few d k1 k2 mid now →
        WrittenAt few (T - few) (λ k. get_or now (k % few) 0) now after → UntilRepeated rows N n moving T d k1 k2 before after
    repeated_taken {now} {after} taken again = record {
      each = λ c held sums first second o1 o2 one two. record {
        at = λ k l.
            let j = k % few in
            let a = tuple_of N L (k / N ^ length lent) in
            let z = tuple_of N L 0 in
            let t = tuple_of N (length lent) j in
            let is : tuple_of N n k ≡ a ++ t = tuple_parts k l ∙ ap (λ (x : ℕ). a ++ tuple_of N (length lent) (k % x)) (sym whole) in
            let small = mod-lt k few_some in
            let less : k < T = omega (arith, fits.sizes.whole) in
            repeated less again ∙
            (taken.each c held sums (λ x. first (z ++ x)) (λ x. second (z ++ x)) (front_layer first one) (next_layer second two)).at j
            (omega (arith, whole)) ∙
            ap (λ (bs : Some).
            taken_weight c (count bs) k2
            (until_takes (beside bs t (λ x. first (z ++ x))) (beside bs t (λ x. second (z ++ x))) k1 k2) (chosen bs t)) tail ∙
            taken_lead c moving first second o1 o2 k1 k2 L z a t (lead_long 0 (one-le-pow L N fits.sizes.some))
            (lead_long (k / N ^ length lent) (leads k l)) from.up_to from.quiet ∙
            ap (λ (s : Tuple).
            taken_weight c (count moving) k2 (until_takes (beside moving s first) (beside moving s second) k1 k2) (chosen moving s))
            (sym is);
      };
      kept = kept_from (again.long ∙ taken.kept.long ∙ copied.long)
          (λ k l.
          again.high k (omega (arith, few_tuples)) ∙
          kept_at taken.kept k (omega (arith, few_tuples)) ∙
          copied.high k (omega (arith, few_tuples)));
    }

-- what is left, by variables that are known by another name
pub repeated_by : {rows : List (List ℕ)} {N n T d k1 k2 : ℕ} {bs cs : Some} {before after : List ℕ} → bs ≡ cs →
    UntilRepeated rows N n bs T d k1 k2 before after → UntilRepeated rows N n cs T d k1 k2 before after
repeated_by {rows} {N} {n} {T} {d} {k1} {k2} {bs} {cs} {before} {after} e h =
    subst (λ (x : Some). UntilRepeated rows N n x T d k1 k2 before after) e h
