-- Tests and sums over the items of a list are those over the numbers below its length: for what the methods of iterators say.
use Prim.Native.Nat.{ℕ, zero, suc, ◌+◌, ◌*◌, ◌≤◌, ◌<◌}
use mathlib.Core.Bool.{Bool, true, false, ◌&&◌, ◌||◌}
use mathlib.Core.List.{List, [], ◌∷◌}
use mathlib.Core.Path.{◌≡◌, refl, sym, ap, ◌∙◌}
use native.Mathlib.Omega.{arith}
use lib.Dec.{ltb, eqb}
use lib.ListN.{length, get_or, take, drop}
use lib.Pointwise.{pointwise}
use Rattle.std.specs.List.{list_all, sum_by}
use Rattle.std.proofs.lemmas.List.Sums.{sum_by-cons}
use borrow.Author.Tests.{lt-ltb, le-ltb, ltb-true}
use Rattle.counting.proofs.Laws.{same_truth, every_same}
use Rattle.counting.specs.Below.{sum_below, every_below}

and_assoc : (a b c : Bool) → (a && (b && c)) ≡ (a && b && c)
and_assoc true b c = refl
and_assoc false b c = refl

-- the first number's test, and that of the others
every_first : (n : ℕ) (test : ℕ → Bool) → every_below (suc n) test ≡ (test 0 && every_below n (λ k. test (suc k)))
unfolding every_below
every_first zero test = by (test 0)
  where
    by : (b : Bool) → (true && b) ≡ (b && true)
    by true = refl
    by false = refl
every_first (suc n) test =
    ap (λ (b : Bool). b && test (suc n)) (every_first n test) ∙ sym (and_assoc (test 0) (every_below n (λ k. test (suc k))) (test (suc n)))

-- the first number's term, and those of the others
sum_first : (n : ℕ) (f : ℕ → ℕ) → sum_below (suc n) f ≡ f 0 + sum_below n (λ k. f (suc k))
unfolding sum_below
sum_first zero f = omega arith
sum_first (suc n) f =
    let rest = sum_first n f in
    omega arith

-- a test of every item is a test of every number below the length
pub every_listed : {A : Type 0} (test : A → Bool) (d : A) (xs : List A) →
    list_all test xs ≡ every_below (length xs) (λ k. test (get_or xs k d))
unfolding every_below
every_listed test d [] = refl
every_listed test d (x ∷ xs) =
    ap (λ (b : Bool). test x && b) (every_listed test d xs) ∙ sym (every_first (length xs) (λ k. test (get_or (x ∷ xs) k d)))

-- a sum over the items is one over the numbers below the length
pub sum_listed : {A : Type 0} (f : A → ℕ) (d : A) (xs : List A) → sum_by f xs ≡ sum_below (length xs) (λ k. f (get_or xs k d))
unfolding sum_below
sum_listed f d [] = refl
sum_listed f d (x ∷ xs) =
    sum_by-cons f x xs ∙ ap (λ (s : ℕ). f x + s) (sum_listed f d xs) ∙ sym (sum_first (length xs) (λ k. f (get_or (x ∷ xs) k d)))

both_more : (k from : ℕ) → ltb k from ≡ ltb (suc k) (suc from)
both_more k from =
    same_truth (ltb k from) (ltb (suc k) (suc from))
    (λ h.
    let less = ltb-true k from h in
    lt-ltb (suc k) (suc from) (omega arith))
    (λ h.
    let less = ltb-true (suc k) (suc from) h in
    lt-ltb k from (omega arith))

-- a test of every item from a place on
pub every_from : {A : Type 0} (test : A → Bool) (d : A) (from : ℕ) (xs : List A) →
    list_all test (drop from xs) ≡ every_below (length xs) (λ k. ltb k from || test (get_or xs k d))
unfolding every_below
every_from test d zero xs =
    every_listed test d xs ∙
    every_same (length xs) (λ k less. ap (λ (b : Bool). b || test (get_or xs k d)) (sym (le-ltb k 0 (omega arith))))
every_from test d (suc from) [] = refl
every_from test d (suc from) (x ∷ xs) =
    every_from test d from xs ∙
    every_same (length xs) (λ k less. ap (λ (b : Bool). b || test (get_or xs k d)) (both_more k from)) ∙
    ap (λ (b : Bool). (b || test x) && every_below (length xs) (λ k. ltb (suc k) (suc from) || test (get_or xs k d)))
    (sym (lt-ltb 0 (suc from) (omega arith))) ∙
    sym (every_first (length xs) (λ k. ltb k (suc from) || test (get_or (x ∷ xs) k d)))

-- a sum of n terms, each at most b
pub sum_most : (n b : ℕ) (f : ℕ → ℕ) → ((k : ℕ) → k < n → f k ≤ b) → sum_below n f ≤ b * n
unfolding sum_below
sum_most zero b f least = omega arith
sum_most (suc n) b f least =
    let rest = sum_most n b f (λ k less. least k (omega arith)) in
    let last = least n (omega arith) in
    omega arith

-- the front parts of two lists are equal if their items are, number by number
pub same_fronts : (n : ℕ) (a b : List ℕ) → n ≤ length a → n ≤ length b →
    pointwise eqb (take n a) (take n b) ≡ every_below n (λ k. eqb (get_or a k 0) (get_or b k 0))
unfolding every_below
same_fronts zero a b l k = refl
same_fronts (suc n) [] b l k = absurd (omega arith)
same_fronts (suc n) (x ∷ a) [] l k = absurd (omega arith)
same_fronts (suc n) (x ∷ a) (y ∷ b) l k =
    ap (λ (t : Bool). eqb x y && t) (same_fronts n a b (omega arith) (omega arith)) ∙
    sym (every_first n (λ i. eqb (get_or (x ∷ a) i 0) (get_or (y ∷ b) i 0)))
