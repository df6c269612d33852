-- The laws of `every`, `there_is` and `below`: what the answers mean, and how they are taken apart.
use Prim.Native.Nat.{ℕ, zero, suc, ◌<◌}
use mathlib.Core.Bool.{Bool, true, false, ◌&&◌, ◌||◌, true≢false, false≢true, or-true, and-false, and-or_distrib_left}
use mathlib.Core.List.Memᴰ
use mathlib.Core.List.{List, [], ◌∷◌, ◌++◌, map, map-append, Memᴰ}
use mathlib.Core.Logic.{⊎_elim, ◌↔◌}
use mathlib.Core.Path.{◌≡◌, refl, sym, ap, ap₂, ◌∙◌}
use native.Mathlib.Decide.{ℕ_discrete}
use native.Mathlib.Nat.{not-suc-le-zero}
use native.Mathlib.Omega.{arith}
use Rattle.counting.proofs.Laws.{left_of, right_of, and_true}
use Rattle.meaning.specs.Lists.{below, every, there_is}

module _ {A : Type 0} where
  -- `every` is true exactly if each member meets the test
  pub every_means : (test : A → Bool) (xs : List A) →
      (every test xs ≡ true) ↔ ((x : A) → Memᴰ x xs → test x ≡ true)
  unfolding every
  every_means test [] = (λ e x m. absurd (Memᴰ.not-nil m), λ h. refl)
  every_means test (x ∷ xs) =
      let r = every_means test xs in (
        λ e y m.
            ⊎_elim
            (λ p. ap test p ∙ left_of (test x) (every test xs) e)
            (λ w. r.0 (right_of (test x) (every test xs) e) y w)
            (Memᴰ.cases_cons m),
        λ h. and_true (h x (Memᴰ.head refl)) (r.1 (λ y m. h y (Memᴰ.tail m))),
      )

  -- where `there_is` is true, there is a member that meets the test
  pub there_is_found : (test : A → Bool) (xs : List A) → there_is test xs ≡ true →
      (x : A) × Memᴰ x xs × (test x ≡ true)
  unfolding there_is
  there_is_found test [] e = absurd (false≢true e)
  there_is_found test (x ∷ xs) e = look (test x) refl e (there_is_found test xs)
    where
      look : (b : Bool) → test x ≡ b → (b || there_is test xs) ≡ true →
          (there_is test xs ≡ true → (y : A) × Memᴰ y xs × (test y ≡ true)) →
          (y : A) × Memᴰ y (x ∷ xs) × (test y ≡ true)
      look true p e later = (x, Memᴰ.head refl, p)
      look false p e later =
          let r = later e in
          (r.0, Memᴰ.tail r.1, r.2)

  -- and where there is one, it is true
  pub there_is_from : (test : A → Bool) (x : A) (xs : List A) → Memᴰ x xs → test x ≡ true → there_is test xs ≡ true
  unfolding there_is
  there_is_from test x xs (Memᴰ.head {x = y} {xs = ys} e) p = ap (λ b. b || there_is test ys) (ap test (sym e) ∙ p)
  there_is_from test x xs (Memᴰ.tail {x = y} {xs = ys} m) p =
      ap (λ b. test y || b) (there_is_from test x ys m p) ∙ or-true (test y)

  -- tests that agree at every member
  pub every_same : (p q : A → Bool) (xs : List A) → ((x : A) → Memᴰ x xs → p x ≡ q x) → every p xs ≡ every q xs
  unfolding every
  every_same p q [] h = refl
  every_same p q (x ∷ xs) h =
      ap₂ ◌&&◌ (h x (Memᴰ.head refl)) (every_same p q xs (λ y m. h y (Memᴰ.tail m)))

  -- the same of `there_is`
  pub there_is_same : (p q : A → Bool) (xs : List A) → ((x : A) → Memᴰ x xs → p x ≡ q x) →
      there_is p xs ≡ there_is q xs
  unfolding there_is
  there_is_same p q [] h = refl
  there_is_same p q (x ∷ xs) h =
      ap₂ ◌||◌ (h x (Memᴰ.head refl)) (there_is_same p q xs (λ y m. h y (Memᴰ.tail m)))

  -- a condition that does not look at the member goes in front of `there_is`
  pub there_is_front : (b : Bool) (p q : A → Bool) (xs : List A) → ((x : A) → p x ≡ (b && q x)) →
      there_is p xs ≡ (b && there_is q xs)
  unfolding there_is
  there_is_front b p q [] h = sym (and-false b)
  there_is_front b p q (x ∷ xs) h =
      ap₂ ◌||◌ (h x) (there_is_front b p q xs h) ∙ sym (and-or_distrib_left b (q x) (there_is q xs))

module _ {A B : Type 0} where
  -- tests of images
  pub every_map : (test : B → Bool) (g : A → B) (xs : List A) → every test (map g xs) ≡ every (λ x. test (g x)) xs
  unfolding every
  every_map test g [] = refl
  every_map test g (x ∷ xs) = ap (λ b. test (g x) && b) (every_map test g xs)

  -- the same of `there_is`
  pub there_is_map : (test : B → Bool) (g : A → B) (xs : List A) → there_is test (map g xs) ≡ there_is (λ x. test (g x)) xs
  unfolding there_is
  there_is_map test g [] = refl
  there_is_map test g (x ∷ xs) = ap (λ b. test (g x) || b) (there_is_map test g xs)

-- of two tests of which none is met the first is not
pub or_left : (a b : Bool) → (a || b) ≡ false → a ≡ false
or_left true b e = e
or_left false b e = refl

-- nor is the second
pub or_right : (a b : Bool) → (a || b) ≡ false → b ≡ false
or_right true b e = absurd (true≢false e)
or_right false b e = e

-- a condition within two others, taken to the front
pub and_front : (a b x y : Bool) → (a && (b && (x && y))) ≡ (x && (a && (b && y)))
and_front true true x y = refl
and_front true false x y = sym (and-false x)
and_front false b x y = sym (and-false x)

-- the members of `below n` are below n
pub below_member : (n : ℕ) {i : ℕ} → Memᴰ i (below n) → i < n
unfolding below
below_member zero m = absurd (Memᴰ.not-nil m)
below_member (suc n) m =
    ⊎_elim
    (λ w.
    let r = below_member n w in
    omega arith)
    (λ w.
    let e = Memᴰ.eq_of_singleton w in
    omega arith)
    (Memᴰ.append_cases (below n) m)

-- and every number below n is one
pub below_has : (n : ℕ) {i : ℕ} → i < n → Memᴰ i (below n)
unfolding below
below_has zero h = absurd (not-suc-le-zero h)
below_has (suc n) {i} h = place (ℕ_discrete i n) (below_has n)
  where
    place : Dec (i ≡ n) → (i < n → Memᴰ i (below n)) → Memᴰ i (below n ++ (n ∷ []))
    place (yes e) earlier = Memᴰ.append_right (below n) (Memᴰ.head e)
    place (no d) earlier = Memᴰ.append_left (n ∷ []) (earlier (omega arith))

-- the first of the numbers below n + 1 is 0, the others are one more than those below n
pub below_front : (n : ℕ) → below (suc n) ≡ 0 ∷ map suc (below n)
unfolding below
below_front zero = refl
below_front (suc n) =
    ap (λ l. l ++ (suc n ∷ [])) (below_front n) ∙ ap (λ l. 0 ∷ l) (sym (map-append suc (below n) (n ∷ [])))

-- so all of them meet a test exactly if 0 does and those after it do
pub every_below_law : (test : ℕ → Bool) (n : ℕ) →
    every test (below (suc n)) ≡ (test 0 && every (λ i. test (suc i)) (below n))
unfolding every
every_below_law test n = ap (every test) (below_front n) ∙ ap (λ b. test 0 && b) (every_map test suc (below n))

-- some of them meets it exactly if 0 does or one of those after it
pub there_is_below : (test : ℕ → Bool) (n : ℕ) →
    there_is test (below (suc n)) ≡ (test 0 || there_is (λ i. test (suc i)) (below n))
unfolding there_is
there_is_below test n = ap (there_is test) (below_front n) ∙ ap (λ b. test 0 || b) (there_is_map test suc (below n))
