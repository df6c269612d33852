-- The list of all runs is what it is said to be: it has every run of k steps from the tuple and no run twice. So a
-- total over it counts each run once.
use Prim.Native.Nat.{ℕ, zero, suc, ◌^◌, ◌<◌, ◌*◌}
use mathlib.Core.List.Memᴰ
use mathlib.Core.List.{List, [], ◌∷◌, ◌++◌, map, flat_map, Memᴰ}
use mathlib.Core.List.{head-eq_of_cons-eq, tail-eq_of_cons-eq}
use mathlib.Core.Logic.{⊎_elim}
use mathlib.Core.Path.{◌≡◌, refl, sym, ap, ◌∙◌, subst}
use native.Mathlib.Omega.{arith}
use native.Mathlib.Nat.{pow-zero, pow-succ'}
use lib.ListN.{length, length-append, length-map}
use Rattle.meaning.specs.Lists.{below, lists, Each, nothing, further, Distinct, nobody, another}
use Rattle.meaning.specs.Chain.{Chain, Tuple, Inside, tuples, tuple_count, Run, runs}
use Rattle.meaning.proofs.Tests.{below_member, below_has}

module _ {A B : Type 0} where
  -- a member of one of many lists, and back
  flat_member : (g : A → List B) (xs : List A) {y : B} → Memᴰ y (flat_map g xs) →
      (x : A) × Memᴰ x xs × Memᴰ y (g x)
  unfolding flat_map
  flat_member g [] m = absurd (Memᴰ.not-nil m)
  flat_member g (x ∷ xs) m =
      ⊎_elim
      (λ w. (x, Memᴰ.head refl, w))
      (λ w.
      let r = flat_member g xs w in
      (r.0, Memᴰ.tail r.1, r.2))
      (Memᴰ.append_cases (g x) m)

  flat_has : (g : A → List B) {x : A} {xs : List A} {y : B} → Memᴰ x xs → Memᴰ y (g x) →
      Memᴰ y (flat_map g xs)
  unfolding flat_map
  flat_has g {y = y} (Memᴰ.head {x = z} {xs = zs} e) m =
      Memᴰ.append_left (flat_map g zs) (subst (λ w. Memᴰ y (g w)) e m)
  flat_has g (Memᴰ.tail {x = z} w) m = Memᴰ.append_right (g z) (flat_has g w m)

  -- images under a map that keeps members apart
  distinct_map : (f : A → B) {xs : List A} → ((x y : A) → f x ≡ f y → x ≡ y) → Distinct xs → Distinct (map f xs)
  distinct_map f one nobody = nobody
  distinct_map f one (another {x = x} {xs = xs} new d) =
      another
      (λ m.
      let r = Memᴰ.of_map f xs m in
      new (Memᴰ.cast (sym (one r.0 x r.2)) r.1))
      (distinct_map f one d)

module _ {A : Type 0} where
  -- two lists that have no member in common
  distinct_append : {xs ys : List A} → Distinct xs → Distinct ys →
      ((x : A) → Memᴰ x xs → Memᴰ x ys → ⊥) → Distinct (xs ++ ys)
  distinct_append nobody e apart = e
  distinct_append (another {x = x} {xs = xs} new d) e apart =
      another
      (λ m. ⊎_elim new (apart x (Memᴰ.head refl)) (Memᴰ.append_cases xs m))
      (distinct_append d e (λ y m. apart y (Memᴰ.tail m)))

module _ {A : Type 0} where
  -- a list of n members from xs has n members that have what the members of xs have
  pub lists_member : (P : A → Type 0) (xs : List A) → ((x : A) → Memᴰ x xs → P x) →
      (n : ℕ) {l : List A} → Memᴰ l (lists xs n) → Each P n l
  unfolding lists
  lists_member P xs h zero m = subst (Each P 0) (sym (Memᴰ.eq_of_singleton m)) nothing
  lists_member P xs h (suc n) m =
      let r = flat_member (λ x. map (λ l. x ∷ l) (lists xs n)) xs m in
      let q = Memᴰ.of_map (λ l. r.0 ∷ l) (lists xs n) r.2 in
      subst (Each P (suc n)) q.2 (further (h r.0 r.1) (lists_member P xs h n q.1))

  -- and every list of n such members is among them
  pub lists_has : (P : A → Type 0) (xs : List A) → ((x : A) → P x → Memᴰ x xs) →
      {n : ℕ} {l : List A} → Each P n l → Memᴰ l (lists xs n)
  unfolding lists
  lists_has P xs h nothing = Memᴰ.head refl
  lists_has P xs h (further {n = n} {x = x} p e) =
      flat_has (λ y. map (λ l. y ∷ l) (lists xs n)) (h x p) (Memᴰ.map (λ l. x ∷ l) (lists_has P xs h e))

  -- members of zs in front of the lists of ls: none twice
  distinct_fronts : (ls : List (List A)) {zs : List A} → Distinct ls → Distinct zs →
      Distinct (flat_map (λ x. map (λ l. x ∷ l) ls) zs)
  unfolding flat_map
  distinct_fronts ls d nobody = nobody
  distinct_fronts ls d (another {x = z} {xs = zs} new e) =
      distinct_append
      (distinct_map (λ l. z ∷ l) (λ a b. tail-eq_of_cons-eq) d)
      (distinct_fronts ls d e)
      (λ y here there.
      let p = Memᴰ.of_map (λ l. z ∷ l) ls here in
      let q = flat_member (λ x. map (λ l. x ∷ l) ls) zs there in
      let r = Memᴰ.of_map (λ l. q.0 ∷ l) ls q.2 in
      new (Memᴰ.cast (head-eq_of_cons-eq (p.2 ∙ sym r.2)) q.1))

  -- no list of n members stands twice among them
  pub lists_distinct : {xs : List A} → Distinct xs → (n : ℕ) → Distinct (lists xs n)
  unfolding lists
  lists_distinct d zero = another (λ m. Memᴰ.not-nil m) nobody
  lists_distinct {xs} d (suc n) = distinct_fronts (lists xs n) (lists_distinct d n) d

-- no number stands twice among those below n
pub below_distinct : (n : ℕ) → Distinct (below n)
unfolding below
below_distinct zero = nobody
below_distinct (suc n) =
    distinct_append
    (below_distinct n)
    (another (λ m. Memᴰ.not-nil m) nobody)
    (λ x m w.
    let h = below_member n m in
    let e = Memᴰ.eq_of_singleton w in
    omega arith)

module _ (c : Chain) (n : ℕ) where
  -- a tuple is a list of n states
  pub tuples_inside : {s : Tuple} → Memᴰ s (tuples c n) → Inside c.N n s
  unfolding tuples
  tuples_inside m = lists_member (λ t. t < c.N) (below c.N) (λ t w. below_member c.N w) n m

  -- every list of n states is among the tuples
  pub tuples_has : {s : Tuple} → Inside c.N n s → Memᴰ s (tuples c n)
  unfolding tuples
  tuples_has h = lists_has (λ t. t < c.N) (below c.N) (λ t w. below_has c.N w) h

  -- none stands there twice
  pub tuples_distinct : Distinct (tuples c n)
  unfolding tuples
  tuples_distinct = lists_distinct (below_distinct c.N) n

  -- a run of k steps from s is s followed by k tuples
  pub runs_member : (k : ℕ) (s : Tuple) {r : Run} → Memᴰ r (runs c n k s) →
      (rest : Run) × (s ∷ rest ≡ r) × Each (Inside c.N n) k rest
  unfolding runs
  runs_member k s m =
      let q = Memᴰ.of_map (λ r. s ∷ r) (lists (tuples c n) k) m in
      (q.0, q.2, lists_member (Inside c.N n) (tuples c n) (λ t w. tuples_inside w) k q.1)

  -- every such list is among the runs
  pub runs_has : (k : ℕ) (s : Tuple) {rest : Run} → Each (Inside c.N n) k rest → Memᴰ (s ∷ rest) (runs c n k s)
  unfolding runs
  runs_has k s h = Memᴰ.map (λ r. s ∷ r) (lists_has (Inside c.N n) (tuples c n) (λ t w. tuples_has w) h)

  -- each run stands once
  pub runs_distinct : (k : ℕ) (s : Tuple) → Distinct (runs c n k s)
  unfolding runs
  runs_distinct k s = distinct_map (λ r. s ∷ r) (λ a b. tail-eq_of_cons-eq) (lists_distinct tuples_distinct k)

-- there are n numbers below n
pub length_below : (n : ℕ) → length (below n) ≡ n
unfolding below
length_below zero = refl
length_below (suc n) =
    let e = length-append (below n) (n ∷ []) in
    let r = length_below n in
    omega arith

-- z members in front of each of q lists: z × q lists
length_fronts : {A : Type 0} (ls : List (List A)) (zs : List A) →
    length (flat_map (λ x. map (λ l. x ∷ l) ls) zs) ≡ length zs * length ls
unfolding flat_map
length_fronts ls [] = omega arith
length_fronts ls (z ∷ zs) =
    let r = length_fronts ls zs in
    let a = length-append (map (λ l. z ∷ l) ls) (flat_map (λ x. map (λ l. x ∷ l) ls) zs) in
    let b = length-map ls (λ l. z ∷ l) in
    omega arith

-- there are z^n lists of n members of a list of z
pub length_lists : {A : Type 0} (xs : List A) (n : ℕ) → length (lists xs n) ≡ length xs ^ n
unfolding lists
length_lists xs zero = sym (pow-zero (length xs))
length_lists xs (suc n) =
    length_fronts (lists xs n) xs ∙ ap (λ (m : ℕ). length xs * m) (length_lists xs n) ∙ sym (pow-succ' (length xs) n)

-- T is the number of tuples
pub length_tuples : (c : Chain) (n : ℕ) → length (tuples c n) ≡ tuple_count c n
unfolding tuples tuple_count
length_tuples c n = length_lists (below c.N) n ∙ ap (λ (m : ℕ). m ^ n) (length_below c.N)
