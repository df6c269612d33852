-- A tuple read from the front, member by member: whether each is a state, and the tuple's number. Both go by what is left of
-- the tuple.
use Prim.Native.Nat.{ℕ, zero, suc, ◌+◌, ◌*◌, ◌^◌, ◌≤◌, ◌<◌}
use mathlib.Core.Bool.{Bool, true, ◌&&◌}
use mathlib.Core.List.{List, [], ◌∷◌}
use mathlib.Core.Path.{◌≡◌, refl, sym, ap, subst, ◌∙◌}
use native.Mathlib.Nat.{pow-zero, pow-succ', pow-le-pow_left, pow-le-pow_right, mul-le-mul_left}
use native.Mathlib.Omega.{arith}
use borrow.Author.Tests.{ltb-true, eqb-true}
use lib.Dec.{ltb, eqb}
use lib.ListN.{length, get_or, drop, drop_of_length-le}
use mir.Syntax.{w64}
use mir.Val.{Fits}
use Rattle.std.proofs.lemmas.List.{drop_more}
use Rattle.std.specs.List.{list_all}
use Rattle.counting.proofs.Laws.{left_of, right_of}
use Rattle.meaning.specs.Lists.{every, nothing, further}
use Rattle.meaning.specs.Chain.{Tuple, Inside}
use Rattle.meaning.proofs.Numbers.{number_of, tuple_of, number_below, tuple_number}
use Rattle.layers.specs.Layers.{Layer}
use Rattle.layers.specs.Held.{most_states, most_variables}
use Rattle.layers.proofs.Places.{pow_some}
use Rattle.paths.specs.Tuples.{members_below, tuple_right}
use Rattle.paths.specs.Places.{TupleReady, TuplePlace}

-- ---- whether each member is a state

-- the library's test of every element is the meaning's
pub every_listed : (test : ℕ → Bool) (s : List ℕ) → list_all test s ≡ every test s
unfolding every
every_listed test [] = refl
every_listed test (x ∷ s) = ap (λ (b : Bool). test x && b) (every_listed test s)

-- so the tuple consists of states
pub members_inside : (N : ℕ) (s : List ℕ) → members_below N s ≡ true → Inside N (length s) s
unfolding every
members_inside N [] e = nothing
members_inside N (x ∷ s) e =
    further (ltb-true x N (left_of (ltb x N) (members_below N s) e)) (members_inside N s (right_of (ltb x N) (members_below N s) e))

-- ---- the tuple's number

-- the number of the first i members, and what those left add to it
pub record Counted (N : ℕ) (s : List ℕ) (i place : ℕ) : Type 0 where
  pub number : place * N ^ length (drop i s) + number_of N (drop i s) ≡ number_of N s

some_state : {N n : ℕ} {s : List ℕ} → Inside N n s → 0 < n → 0 < N
some_state nothing l = absurd (omega arith)
some_state (further h i) l = omega arith

module _ {N : ℕ} {s : List ℕ} where
  -- one member more
  pub counted_next : {i place : ℕ} → Counted N s i place → i < length s → Counted N s (i + 1) (place * N + get_or s i 0)
  unfolding number_of
  counted_next {i} {place} h l =
      let x = get_or s i 0 in
      let left = drop (i + 1) s in
      let now : place * N ^ suc (length left) + (x * N ^ length left + number_of N left) ≡ number_of N s =
      subst (λ (r : List ℕ). place * N ^ length r + number_of N r ≡ number_of N s) (drop_more s i 0 l) h.number in
      let power : place * N ^ suc (length left) ≡ place * (N * N ^ length left) = ap (λ (k : ℕ). place * k) (pow-succ' N (length left)) in
      record { number = omega arith }

  -- the same of a number that is equal to it
  pub counted_by : {i place next : ℕ} → Counted N s i place → i < length s → next ≡ place * N + get_or s i 0 → Counted N s (i + 1) next
  counted_by {i} h l e = subst (Counted N s (i + 1)) (sym e) (counted_next h l)

  -- after the last turn it is the tuple's number
  pub counted_all : {i place : ℕ} → Counted N s i place → length s ≤ i → place ≡ number_of N s
  unfolding number_of
  counted_all {i} {place} h done =
      let now : place * N ^ zero + 0 ≡ number_of N s =
      subst (λ (r : List ℕ). place * N ^ length r + number_of N r ≡ number_of N s) (drop_of_length-le s done) h.number in
      let one : place * N ^ zero ≡ place * 1 = ap (λ (k : ℕ). place * k) (pow-zero N) in
      omega arith

  -- there are at most 32^4 tuples
  pub counted_small : {i place : ℕ} → Counted N s i place → TupleReady N s → 0 < length s → place < most_states ^ most_variables
  counted_small {i} {place} h ready l =
      let inside = members_inside N s ready.below in
      let some = some_state inside l in
      let whole : number_of N s < N ^ length s = number_below N inside in
      let scaled = mul-le-mul_left place (pow_some N (length (drop i s)) some) in
      let states : N ^ length s ≤ most_states ^ length s = pow-le-pow_left ready.states (length s) in
      let few : most_states ^ length s ≤ most_states ^ most_variables = pow-le-pow_right {n = most_states} (omega arith) ready.few in
      omega arith

  -- which is the tuple's place
  pub counted_place : {i place : ℕ} → Counted N s i place → length s ≤ i → members_below N s ≡ true → TuplePlace N s place
  counted_place {i} {place} h done e =
      let inside = members_inside N s e in
      let number = counted_all h done in
      record {
        inside = subst (λ (k : ℕ). k < N ^ length s) (sym number) (number_below N inside);
        same = ap (tuple_of N (length s)) number ∙ tuple_number N inside;
      }

-- one turn's product fits, whichever of the two stands first
pub product_fits : {x N : ℕ} → x < most_states ^ most_variables → N ≤ most_states ^ most_variables → Fits w64 (x * N)
product_fits {x} h few =
    let scaled = mul-le-mul_left x few in
    record { fits = omega arith }

-- with the member
pub sum_fits : {x N y : ℕ} → x < most_states ^ most_variables → N ≤ most_states ^ most_variables → y < most_states ^ most_variables →
    Fits w64 (x * N + y)
sum_fits {x} h few less =
    let scaled = mul-le-mul_left x few in
    record { fits = omega arith }

-- ---- a tuple that is one of the sentence's

-- it is as long as there are letters
pub right_long : (n N : ℕ) (s : List ℕ) → tuple_right n N s ≡ true → length s ≡ n
right_long n N s e = eqb-true (length s) n (left_of (eqb (length s) n) (members_below N s) e)

-- and its number can be computed
pub right_ready : (n N : ℕ) (s : List ℕ) → tuple_right n N s ≡ true → n ≤ most_variables → N ≤ most_states → TupleReady N s
right_ready n N s e letters states =
    let long = right_long n N s e in
    record { few = omega arith; states = states; below = right_of (eqb (length s) n) (members_below N s) e }

-- a layer holds its function's number of the tuple at the tuple's place
pub layer_there : {N n r : ℕ} {g : Tuple → ℕ} {w : List ℕ} {s : Tuple} → Layer N n g w → length s ≡ n → TuplePlace N s r →
    get_or w r 0 ≡ g s
layer_there {N} {n} {r} {g} {w} {s} h long place =
    h.at r (subst (λ (k : ℕ). r < N ^ k) long place.inside) ∙ ap g (subst (λ (k : ℕ). tuple_of N k r ≡ s) long place.same)
