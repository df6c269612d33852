-- The laws of totals over lists: each is said here once, and every other proof cites it.
use Prim.Native.Nat.{ℕ, zero, suc, ◌+◌, ◌*◌, ◌≤◌}
use mathlib.Core.Bool.{Bool, true, false, cond}
use mathlib.Core.List.{List, [], ◌∷◌, ◌++◌, map, flat_map, Memᴰ}
use mathlib.Core.Path.{◌≡◌, refl, sym, ap, ◌∙◌}
use native.Mathlib.Nat.{mul_comm}
use native.Mathlib.Omega.{arith}
use Rattle.counting.specs.Below.{sum_below}
use Rattle.meaning.specs.Lists.{below, total, lists}

module _ {A : Type 0} where
  -- joined lists
  pub total_append : (f : A → ℕ) (xs ys : List A) → total f (xs ++ ys) ≡ total f xs + total f ys
  unfolding total
  total_append f [] ys = omega arith
  total_append f (x ∷ xs) ys =
      let r = total_append f xs ys in
      omega arith

  -- terms that agree at every member
  pub total_same : (f g : A → ℕ) (xs : List A) → ((x : A) → Memᴰ x xs → f x ≡ g x) → total f xs ≡ total g xs
  unfolding total
  total_same f g [] h = refl
  total_same f g (x ∷ xs) h =
      let r = total_same f g xs (λ y m. h y (Memᴰ.tail m)) in
      let e = h x (Memᴰ.head refl) in
      omega arith

  -- terms that are no larger at every member
  pub total_le : (f g : A → ℕ) (xs : List A) → ((x : A) → Memᴰ x xs → f x ≤ g x) → total f xs ≤ total g xs
  unfolding total
  total_le f g [] h = omega arith
  total_le f g (x ∷ xs) h =
      let r = total_le f g xs (λ y m. h y (Memᴰ.tail m)) in
      let e = h x (Memᴰ.head refl) in
      omega arith

  -- one term is no larger than the total
  pub total_member : (f : A → ℕ) {x : A} {xs : List A} → Memᴰ x xs → f x ≤ total f xs
  unfolding total
  total_member f {x} (Memᴰ.head {x = y} {xs = ys} e) =
      let p : f x ≡ f y = ap f e in
      omega arith
  total_member f (Memᴰ.tail m) =
      let r = total_member f m in
      omega arith

  -- a total of nothing
  pub total_zero : (xs : List A) → total (λ x. 0) xs ≡ 0
  unfolding total
  total_zero [] = refl
  total_zero (x ∷ xs) =
      let r = total_zero xs in
      omega arith

  -- a total of sums
  pub total_add : (f g : A → ℕ) (xs : List A) → total (λ x. f x + g x) xs ≡ total f xs + total g xs
  unfolding total
  total_add f g [] = refl
  total_add f g (x ∷ xs) =
      let r = total_add f g xs in
      omega arith

  -- a common factor
  pub total_scale : (k : ℕ) (f : A → ℕ) (xs : List A) → total (λ x. k * f x) xs ≡ k * total f xs
  unfolding total
  total_scale k f [] = omega arith
  total_scale k f (x ∷ xs) =
      let r = total_scale k f xs in
      omega arith

  -- a common factor on the right
  pub total_scale_right : (k : ℕ) (f : A → ℕ) (xs : List A) → total (λ x. f x * k) xs ≡ total f xs * k
  total_scale_right k f xs =
      total_same (λ x. f x * k) (λ x. k * f x) xs (λ x m. mul_comm (f x) k) ∙
      total_scale k f xs ∙
      mul_comm k (total f xs)

module _ {A B : Type 0} where
  -- the order of two totals
  pub total_swap : (f : A → B → ℕ) (xs : List A) (ys : List B) →
      total (λ x. total (f x) ys) xs ≡ total (λ y. total (λ x. f x y) xs) ys
  unfolding total
  total_swap f [] ys = sym (total_zero ys)
  total_swap f (x ∷ xs) ys =
      ap (λ (r : ℕ). total (f x) ys + r) (total_swap f xs ys) ∙ sym (total_add (f x) (λ y. total (λ z. f z y) xs) ys)

  -- the total over images
  pub total_map : (f : B → ℕ) (g : A → B) (xs : List A) → total f (map g xs) ≡ total (λ x. f (g x)) xs
  unfolding total
  total_map f g [] = refl
  total_map f g (x ∷ xs) = ap (λ (r : ℕ). f (g x) + r) (total_map f g xs)

  -- the total over the members of many lists
  pub total_flat_map : (f : B → ℕ) (g : A → List B) (xs : List A) →
      total f (flat_map g xs) ≡ total (λ x. total f (g x)) xs
  unfolding total flat_map
  total_flat_map f g [] = refl
  total_flat_map f g (x ∷ xs) =
      total_append f (g x) (flat_map g xs) ∙ ap (λ (r : ℕ). total f (g x) + r) (total_flat_map f g xs)

-- over all lists of n + 1 members: over the first member, then over the others
pub total_lists : {A : Type 0} (f : List A → ℕ) (xs : List A) (n : ℕ) →
    total f (lists xs (suc n)) ≡ total (λ x. total (λ l. f (x ∷ l)) (lists xs n)) xs
unfolding lists
total_lists f xs n =
    total_flat_map f (λ x. map (λ l. x ∷ l) (lists xs n)) xs ∙
    total_same _ _ xs (λ x m. total_map f (λ l. x ∷ l) (lists xs n))

-- over the one list of no members
pub total_lists_zero : {A : Type 0} (f : List A → ℕ) (xs : List A) → total f (lists xs 0) ≡ f []
unfolding lists total
total_lists_zero f xs = omega arith

-- over one state more
pub total_below : (f : ℕ → ℕ) (n : ℕ) → total f (below (suc n)) ≡ total f (below n) + f n
unfolding below total
total_below f n =
    let r = total_append f (below n) (n ∷ []) in
    omega arith

-- a total over the numbers below n is the sum over them
pub total_sum : (n : ℕ) (f : ℕ → ℕ) → total f (below n) ≡ sum_below n f
unfolding total below sum_below
total_sum zero f = refl
total_sum (suc n) f = total_below f n ∙ ap (λ (x : ℕ). x + f n) (total_sum n f)

-- of terms of which only those that pass a test count: a factor in front
pub cond_scale : (b : Bool) (k x : ℕ) → cond b (k * x) 0 ≡ k * cond b x 0
cond_scale true k x = refl
cond_scale false k x = omega arith
