-- A letter ranges over all states: one state decides it, or all of them do; and the letters that are left.
use Prim.Native.Nat.{ℕ, suc, ◌+◌, ◌-◌, ◌*◌, ◌^◌, ◌≤◌, ◌<◌}
use mathlib.Core.Bool.{Bool, true, false, beq, cond, not, true≢false, false≢true}
use mathlib.Core.List.{List, [], ◌∷◌, ◌++◌, map, append-nil, append_assoc}
use mathlib.Core.Path.{◌≡◌, refl, sym, ap, subst, ◌∙◌, fun_ext}
use native.Mathlib.Nat.{mul-le-mul_left, mul-le-mul_right, pow-succ', pow-zero, zero-add, add-zero, add-suc, suc-add}
use native.Mathlib.Omega.{arith}
use lib.Dec.{eqb}
use lib.ListN.{length, get_or, take, drop, length-append}
use Rattle.std.proofs.lemmas.Slice.{first_rest}
use Rattle.counting.proofs.Laws.{same_truth}
use Rattle.layers.specs.Layers.{Layer, truth}
use Rattle.layers.proofs.Places.{pow_some}
use Rattle.meaning.specs.Lists.{below, every, there_is, nothing, further}
use Rattle.meaning.specs.Chain.{Chain, Tuple, Inside}
use Rattle.meaning.specs.Tree.{Letter, for_all, exists, letter_of}
use Rattle.meaning.specs.Meaning.{ranges, ranged}
use Rattle.meaning.proofs.Tests.{every_means, every_same, there_is_same, there_is_found, there_is_from, below_member, below_has}
use Rattle.meaning.proofs.Numbers.{number_of, number_below, tuple_number}
use Rattle.descent.specs.Descent.{met_at, descended}

-- a state that decides: met for `E`, not met for `A`
pub decided : (e : Bool) (test : ℕ → Bool) (N s : ℕ) → s < N → test s ≡ e → ranges (letter_of e) test (below N) ≡ e
unfolding ranges
decided true test N s l h = there_is_from test s (below N) (below_has N l) h
decided false test N s l h = same_truth (every test (below N)) false
    (λ all. absurd (true≢false (sym ((every_means test (below N)).0 all s (below_has N l)) ∙ h)))
    (λ e. absurd (false≢true e))

-- no state decides
pub undecided : (e : Bool) (test : ℕ → Bool) (N : ℕ) → ((s : ℕ) → s < N → test s ≡ not e) → ranges (letter_of e) test (below N) ≡ not e
unfolding ranges
undecided true test N h = same_truth (there_is test (below N)) false
    (λ some.
    let q = there_is_found test (below N) some in
    absurd (true≢false (sym q.2 ∙ h q.0 (below_member N q.1))))
    (λ e. absurd (false≢true e))
undecided false test N h = (every_means test (below N)).1 (λ s m. h s (below_member N m))

-- the first letter, and the rest as they are lent
abbrev pub first_of : List Bool → Bool
first_of letters = get_or letters 0 false

abbrev pub rest_of : List Bool → List Bool
rest_of letters = take (length letters - 1) (drop 1 letters)

-- one of two truths is the other, or it is not
alike : (a b : Bool) → beq a b ≡ true → a ≡ b
alike true true e = refl
alike true false e = sym e
alike false true e = e
alike false false e = refl

unlike : (a b : Bool) → beq a b ≡ false → a ≡ not b
unlike true true e = e
unlike true false e = refl
unlike false true e = refl
unlike false false e = sym e

-- where no letter is left the descent returns the truth at the place
pub descended_none : (N base : ℕ) (letters : List Bool) (w : List ℕ) → length letters < 1 →
    met_at w base ≡ descended N (map letter_of letters) base w
unfolding descended
descended_none N base [] w h = refl
descended_none N base (x ∷ letters) w h = absurd (omega arith)

module _ (N base : ℕ) (letters : List Bool) (w : List ℕ) (some : 1 ≤ length letters) where
  both : letters ≡ first_of letters ∷ rest_of letters
  both = first_rest letters false some

  -- there is one letter more than are left
  pub one_more : length letters ≡ suc (length (rest_of letters))
  one_more = ap length both

  -- where one is left it ranges over all states
  ranged_first : ranges (letter_of (first_of letters)) (λ s. descended N (map letter_of (rest_of letters)) (base * N + s) w) (below N) ≡
      descended N (map letter_of letters) base w
  unfolding descended
  ranged_first = sym (ap (λ (l : List Bool). descended N (map letter_of l) base w) both)

  -- a state that decides it
  pub one_decides : {s : ℕ} {met : Bool} → s < N → met ≡ descended N (map letter_of (rest_of letters)) (base * N + s) w →
      beq met (first_of letters) ≡ true → first_of letters ≡ descended N (map letter_of letters) base w
  one_decides {s} {met} l e t =
      sym (decided (first_of letters) (λ s. descended N (map letter_of (rest_of letters)) (base * N + s) w) N s l
      (sym e ∙ alike met (first_of letters) t)) ∙
      ranged_first

  -- one that does not
  pub one_passed : (s : ℕ) {met : Bool} → met ≡ descended N (map letter_of (rest_of letters)) (base * N + s) w →
      beq met (first_of letters) ≡ false → descended N (map letter_of (rest_of letters)) (base * N + s) w ≡ not (first_of letters)
  one_passed s {met} e t = sym e ∙ unlike met (first_of letters) t

  -- none that does
  pub none_decides : ((s : ℕ) → s < N → descended N (map letter_of (rest_of letters)) (base * N + s) w ≡ not (first_of letters)) →
      not (first_of letters) ≡ descended N (map letter_of letters) base w
  none_decides h =
      sym (undecided (first_of letters) (λ s. descended N (map letter_of (rest_of letters)) (base * N + s) w) N h) ∙ ranged_first

-- one variable more is fixed: its places lie within those before
pub room_more : (N left base s size : ℕ) {n : ℕ} → n ≡ suc left → s < N → (base + 1) * N ^ n ≤ size →
    (base * N + s + 1) * N ^ left ≤ size
room_more N left base s size one h room =
    let power = ap (λ (x : ℕ). (base + 1) * N ^ x) one ∙ ap (λ (x : ℕ). (base + 1) * x) (pow-succ' N left) in
    let less : base * N + s + 1 ≤ (base + 1) * N = omega arith in
    let grown = mul-le-mul_right (N ^ left) less in
    omega arith

-- the place of one state more lies in the layer too
pub place_more : (N left base s size : ℕ) {n : ℕ} → n ≡ suc left → s < N → (base + 1) * N ^ n ≤ size → base * N + s < size
place_more N left base s size one h room =
    let more = room_more N left base s size one h room in
    let power : 1 ≤ N ^ left = pow_some N left (omega arith) in
    let grown = mul-le-mul_left (base * N + s + 1) power in
    omega arith

-- ---- the descent is the prefix's meaning

-- one more state, in the last place
number_last : (N : ℕ) (p : Tuple) (s : ℕ) → number_of N (p ++ (s ∷ [])) ≡ number_of N p * N + s
unfolding number_of
number_last N [] s =
    let e = pow-zero N in
    omega (arith, ap (λ (x : ℕ). s * x) e)
number_last N (x ∷ p) s =
    let long = length-append p (s ∷ []) in
    let one : length (p ++ (s ∷ [])) ≡ suc (length p) = omega arith in
    let power : N ^ length (p ++ (s ∷ [])) ≡ N * N ^ length p = ap (λ (k : ℕ). N ^ k) one ∙ pow-succ' N (length p) in
    let rest = number_last N p s in
    let scaled : x * N ^ length (p ++ (s ∷ [])) ≡ x * (N * N ^ length p) = ap (λ (k : ℕ). x * k) power in
    omega arith

inside_last : {N m : ℕ} {p : Tuple} → Inside N m p → (s : ℕ) → s < N → Inside N (suc m) (p ++ (s ∷ []))
inside_last nothing s l = further l nothing
inside_last (further h i) s l = further h (inside_last i s l)

-- a letter ranges alike over tests that agree at every state
ranges_same : (letter : Letter) (f g : ℕ → Bool) (N : ℕ) → ((s : ℕ) → s < N → f s ≡ g s) →
    ranges letter f (below N) ≡ ranges letter g (below N)
unfolding ranges
ranges_same for_all f g N h = every_same f g (below N) (λ s m. h s (below_member N m))
ranges_same exists f g N h = there_is_same f g (below N) (λ s m. h s (below_member N m))

module _ (c : Chain) (meets : Tuple → Bool) (w : List ℕ) where
  -- where the layer holds the truth of a formula, the number's truth is the formula's
  met_there : (n : ℕ) {p : Tuple} → Layer c.N n (truth meets) w → Inside c.N n p → met_at w (number_of c.N p) ≡ meets p
  met_there n {p} h i =
      ap (λ (x : ℕ). not (eqb x 0)) (h.at (number_of c.N p) (number_below c.N i)) ∙
      ap (λ (t : Tuple). not (eqb (truth meets t) 0)) (tuple_number c.N i) ∙ back (meets p)
    where
      back : (b : Bool) → not (eqb (cond b 1 0) 0) ≡ b
      back true = refl
      back false = refl

  -- from any states fixed so far
  descent_means : (letters : List Letter) {m : ℕ} {p : Tuple} → Inside c.N m p → Layer c.N (m + length letters) (truth meets) w →
      descended c.N letters (number_of c.N p) w ≡ ranged c letters (λ ss. meets (p ++ ss))
  unfolding descended ranged
  descent_means [] {m} {p} i h =
      met_there (m + 0) h (subst (λ (k : ℕ). Inside c.N k p) (sym (add-zero m)) i) ∙ ap meets (sym (append-nil p))
  descent_means (letter ∷ letters) {m} {p} i h = ranges_same letter _ _ c.N
      (λ s l.
      ap (λ (k : ℕ). descended c.N letters k w) (sym (number_last c.N p s)) ∙
      descent_means letters (inside_last i s l) (subst (λ (k : ℕ). Layer c.N k (truth meets) w)
      (add-suc m (length letters) ∙ sym (suc-add m (length letters))) h) ∙
      ap (λ (f : Tuple → Bool). ranged c letters f) (fun_ext (λ ss. ap meets (append_assoc p (s ∷ []) ss))))

  -- from the start
  pub descent_is : (letters : List Letter) → Layer c.N (length letters) (truth meets) w →
      descended c.N letters 0 w ≡ ranged c letters meets
  unfolding number_of
  descent_is letters h = descent_means letters nothing (subst (λ (k : ℕ). Layer c.N k (truth meets) w)
      (sym (zero-add (length letters))) h)
