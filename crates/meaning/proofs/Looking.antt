-- A state formula looks only at the variables that occur in it: at two tuples that have the same states there it is met or not alike.
use Prim.Native.Nat.{ℕ, zero, suc, ◌<◌}
use mathlib.Core.Bool.{Bool, true, false, not, ◌&&◌, ◌||◌, or-true, false≢true}
use mathlib.Core.List.{[], ◌∷◌, ◌++◌, map, map-map}
use mathlib.Core.Path.{◌≡◌, refl, sym, ap, ap₂, ◌∙◌}
use borrow.Author.Tests.{eq-eqb}
use native.Mathlib.Nat.{not-suc-le-zero}
use native.Mathlib.Omega.{arith}
use lib.IntN.{pos}
use lib.ListN.{length, get_or}
use Rattle.meaning.specs.Lists.{below, nothing, further}
use Rattle.meaning.specs.Chain.{Chain, Tuple, Inside}
use Rattle.meaning.specs.Tree.{Formula, always, labelled, negation, both, compare}
use Rattle.meaning.specs.Tree.{Expression, probability, constant, sum, difference, product}
use Rattle.meaning.specs.Tree.{PathFormula, next, until}
use Rattle.meaning.specs.Named.{Some, occurs, occurs_in, occurs_from, named, v, chosen, placed}
use Rattle.meaning.specs.Meaning.{next_takes, until_takes, taken_weight, denominator, has_label, add_f, sub_f, mul_f, compared}
use Rattle.meaning.specs.Meaning.{holds, value, numerator}
use Rattle.meaning.proofs.Tests.{below_front}

-- two tuples of as many states, which have the same state at each place, counted from 0, that passes the test
pub data Alike : (ℕ → Bool) → Tuple → Tuple → Type 0 where
  ended : {at : ℕ → Bool} → Alike at [] []
  longer : {at : ℕ → Bool} {x y : ℕ} {s t : Tuple} → (at 0 ≡ true → x ≡ y) → Alike (λ i. at (suc i)) s t → Alike at (x ∷ s) (y ∷ t)

-- tuples that are alike at some places are so at fewer
alike_fewer : {at here : ℕ → Bool} {s t : Tuple} → ((i : ℕ) → here i ≡ true → at i ≡ true) → Alike at s t → Alike here s t
alike_fewer h ended = ended
alike_fewer h (longer e a) = longer (λ p. e (h 0 p)) (alike_fewer (λ i. h (suc i)) a)

-- they stay alike where the same states are put into both
alike_placed : (bs : Some) (r : Tuple) {at : ℕ → Bool} {s t : Tuple} → Alike at s t → Alike at (placed bs s r) (placed bs t r)
unfolding placed
alike_placed [] r a = a
alike_placed (b ∷ bs) r ended = ended
alike_placed (true ∷ bs) [] (longer e a) = ended
alike_placed (true ∷ bs) (x ∷ r) (longer e a) = longer (λ p. refl) (alike_placed bs r a)
alike_placed (false ∷ bs) r (longer e a) = longer e (alike_placed bs r a)

-- the states at such a place have the same labels
alike_label : (c : Chain) (l i : ℕ) {at : ℕ → Bool} {s t : Tuple} → Alike at s t → at i ≡ true →
    has_label c l (suc i) s ≡ has_label c l (suc i) t
unfolding has_label
alike_label c l i ended p = refl
alike_label c l zero (longer e a) p = ap (c.label l) (e p)
alike_label c l (suc i) (longer e a) p = alike_label c l i a p

-- the marks of n + 1 variables: that of the first, and those of the others
marks_front : (at : ℕ → Bool) (n : ℕ) → map at (below (suc n)) ≡ at 0 ∷ map (λ i. at (suc i)) (below n)
marks_front at n = ap (map at) (below_front n) ∙ ap (λ (bs : Some). at 0 ∷ bs) (map-map at suc (below n))

-- the mark of each
marks_at : (at : ℕ → Bool) (n i : ℕ) → i < n → get_or (map at (below n)) i false ≡ at i
marks_at at zero i l = absurd (not-suc-le-zero l)
marks_at at (suc n) zero l = ap (λ (bs : Some). get_or bs 0 false) (marks_front at n)
marks_at at (suc n) (suc i) l =
    ap (λ (bs : Some). get_or bs (suc i) false) (marks_front at n) ∙ marks_at (λ k. at (suc k)) n i (omega arith)

-- whether a path names a variable
pub named_at_place : (p : PathFormula) (n i : ℕ) → i < n → get_or (named p n) i false ≡ occurs_from (suc i) p
unfolding named
named_at_place p n i l = marks_at (λ k. occurs_from (suc k) p) n i l

-- the states chosen at the places are the same
alike_chosen : (at : ℕ → Bool) (n : ℕ) {s t : Tuple} → Alike at s t → chosen (map at (below n)) s ≡ chosen (map at (below n)) t
unfolding below chosen
alike_chosen at zero a = refl
alike_chosen at (suc n) ended = rw (marks_front at n)
alike_chosen at (suc n) (longer {x = x} {y = y} {s = s} {t = t} e a) =
    rw (marks_front at n) (first (map (λ i. at (suc i)) (below n)) (at 0) e (alike_chosen (λ i. at (suc i)) n a))
  where
    first : (bs : Some) (b : Bool) → (b ≡ true → x ≡ y) → chosen bs s ≡ chosen bs t → chosen (b ∷ bs) (x ∷ s) ≡ chosen (b ∷ bs) (y ∷ t)
    first bs true e r = ap₂ (λ (z : ℕ) (u : Tuple). z ∷ u) (e refl) r
    first bs false e r = r

-- a tuple is alike another one into which its states at the places are put
alike_beside : {N : ℕ} (at : ℕ → Bool) {n : ℕ} {s t : Tuple} → Inside N n s → Inside N n t →
    Alike at t (placed (map at (below n)) s (chosen (map at (below n)) t))
unfolding below chosen placed
alike_beside at nothing nothing = ended
alike_beside at (further {n = n} {x = x} {xs = s} h i) (further {x = y} {xs = t} k j) =
    rw (marks_front at n) (first (map (λ i. at (suc i)) (below n)) (at 0) refl (alike_beside (λ i. at (suc i)) i j))
  where
    first : (bs : Some) (b : Bool) → at 0 ≡ b → Alike (λ i. at (suc i)) t (placed bs s (chosen bs t)) →
        Alike at (y ∷ t) (placed (b ∷ bs) (x ∷ s) (chosen (b ∷ bs) (y ∷ t)))
    first bs true e a = longer (λ p. refl) a
    first bs false e a = longer (λ p. absurd (false≢true (sym e ∙ p))) a

-- so it is alike one into which its states of a path's variables are put, at every variable that occurs in the path
pub alike_named : (p : PathFormula) {N n : ℕ} {s t : Tuple} → Inside N n s → Inside N n t →
    Alike (λ i. occurs_from (suc i) p) t (placed (named p n) s (chosen (named p n) t))
unfolding named
alike_named p i j = alike_beside (λ k. occurs_from (suc k) p) i j

-- tuples that are alike at the places of two tests are so at those of each
pub halves : (at here : ℕ → Bool) {s t : Tuple} → Alike (λ i. at i || here i) s t → Alike at s t × Alike here s t
halves at here a = (
  alike_fewer (λ i e. ap (λ b. b || here i) e) a,
  alike_fewer (λ i e. ap (λ b. at i || b) e ∙ or-true (at i)) a,
)

-- no variable has the number 0
label_none : (c : Chain) (l : ℕ) (s : Tuple) → has_label c l 0 s ≡ false
unfolding has_label
label_none c l [] = refl
label_none c l (x ∷ s) = refl

-- a label of a variable that has the same state in both
label_looks : (c : Chain) (l i : ℕ) {s t : Tuple} → Alike (λ j. occurs (suc j) (labelled l i)) s t → has_label c l i s ≡ has_label c l i t
unfolding occurs
label_looks c l zero {s} {t} a = label_none c l s ∙ sym (label_none c l t)
label_looks c l (suc i) a = alike_label c l i a (eq-eqb (suc i) (suc i) refl)

-- At tuples that have the same states at the variables that occur, a formula has the same answer, an expression the same value and a path
-- the same numerator: its runs start at the same states, and whatever is put into both tuples, they still have the same states there.
module _ (c : Chain) (n : ℕ) where
  mutual
    unfolding occurs named holds

    pub holds_looks : (f : Formula) {s t : Tuple} → Alike (λ i. occurs (suc i) f) s t → holds f c n s ≡ holds f c n t
    holds_looks always a = refl
    holds_looks (labelled l i) a = label_looks c l i a
    holds_looks (negation f) a = ap not (holds_looks f a)
    holds_looks (both f g) a =
        let h = halves (λ i. occurs (suc i) f) (λ i. occurs (suc i) g) a in
        ap₂ ◌&&◌ (holds_looks f h.0) (holds_looks g h.1)
    holds_looks (compare r x y) a =
        let h = halves (λ i. occurs_in (suc i) x) (λ i. occurs_in (suc i) y) a in
        ap₂ (compared r) (value_looks x h.0) (value_looks y h.1)

    value_looks : (x : Expression) {s t : Tuple} → Alike (λ i. occurs_in (suc i) x) s t → value x c n s ≡ value x c n t
    value_looks (probability p) a = λ j. record { top = pos (numerator_looks p a j); bottom = denominator p c.D n }
    value_looks (constant k l) a = refl
    value_looks (sum x y) a =
        let h = halves (λ i. occurs_in (suc i) x) (λ i. occurs_in (suc i) y) a in
        ap₂ add_f (value_looks x h.0) (value_looks y h.1)
    value_looks (difference x y) a =
        let h = halves (λ i. occurs_in (suc i) x) (λ i. occurs_in (suc i) y) a in
        ap₂ sub_f (value_looks x h.0) (value_looks y h.1)
    value_looks (product x y) a =
        let h = halves (λ i. occurs_in (suc i) x) (λ i. occurs_in (suc i) y) a in
        ap₂ mul_f (value_looks x h.0) (value_looks y h.1)

    numerator_looks : (p : PathFormula) {s t : Tuple} → Alike (λ i. occurs_from (suc i) p) s t → numerator p c n s ≡ numerator p c n t
    numerator_looks (next f) a =
        λ j.
        taken_weight c (v (next f) n) 1
        (next_takes (λ r. holds_looks f (alike_placed (named (next f) n) r a) j))
        (alike_chosen (λ i. occurs (suc i) f) n a j)
    numerator_looks (until k1 k2 f g) a =
        let h = halves (λ i. occurs (suc i) f) (λ i. occurs (suc i) g) a in
        λ j.
        taken_weight c (v (until k1 k2 f g) n) k2
        (until_takes
        (λ r. holds_looks f (alike_placed (named (until k1 k2 f g) n) r h.0) j)
        (λ r. holds_looks g (alike_placed (named (until k1 k2 f g) n) r h.1) j) k1 k2)
        (alike_chosen (λ i. occurs (suc i) f || occurs (suc i) g) n a j)

-- tuples are alike where they differ only in front, at places that do not pass the test
alike_front : {at : ℕ → Bool} (a b t : Tuple) → length a ≡ length b → ((i : ℕ) → i < length a → at i ≡ false) → Alike at (a ++ t) (b ++ t)
alike_front [] [] t e quiet = same t
  where
    same : {at : ℕ → Bool} (t : Tuple) → Alike at t t
    same [] = ended
    same (x ∷ t) = longer (λ p. refl) (same t)
alike_front [] (y ∷ b) t e quiet = absurd (omega arith)
alike_front (x ∷ a) [] t e quiet = absurd (omega arith)
alike_front (x ∷ a) (y ∷ b) t e quiet =
    let first = quiet 0 (omega arith) in
    longer (λ p. absurd (false≢true (sym first ∙ p))) (alike_front a b t (omega arith) (λ i l. quiet (suc i) (omega arith)))

-- so a formula overlooks the first variables where none of them occurs in it
pub overlooks : (c : Chain) (n : ℕ) (f : Formula) (a b t : Tuple) → length a ≡ length b →
    ((i : ℕ) → i < length a → occurs (suc i) f ≡ false) → holds f c n (a ++ t) ≡ holds f c n (b ++ t)
overlooks c n f a b t e quiet = holds_looks c n f (alike_front a b t e quiet)
