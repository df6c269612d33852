-- The first state of a group: it is used exactly if there is one, and it is the member whose mask and weights the merged
-- model takes.
use Prim.Native.Nat.{ℕ, zero, suc, ◌+◌, ◌-◌, ◌≤◌, ◌<◌}
use mathlib.Core.Bool.{Bool, true, false, cond, ◌||◌, true≢false}
use mathlib.Core.List.{List, [], ◌∷◌, ◌++◌}
use mathlib.Core.Path.{◌≡◌, refl, sym, ap, ap₂, ◌∙◌}
use native.Mathlib.Decide.{dec_lt}
use native.Mathlib.Omega.{arith}
use borrow.Author.Tests.{eqb-true, eq-eqb, lt-ltb, le-ltb, ltb-true}
use Rattle.std.specs.Prelude.{Option, Some, None, is_some, IsSome}
use lib.Dec.{ltb, eqb}
use lib.ListN.{length, get_or, drop, length-append, length-drop, get_or-append}
use lib.Seq.{get_or-drop, get_or-append-add}
use Rattle.counting.specs.Below.{every_below, table}
use Rattle.counting.proofs.Laws.{same_truth, every_at, table_is, table_at, length_table}
use Rattle.meaning.specs.Lists.{below, there_is}
use Rattle.meaning.specs.Merging.{member}
use Rattle.meaning.proofs.Tests.{there_is_found, there_is_from, below_member, below_has}
use Rattle.groups.specs.Groups.{group_of, is_used, member_of}
use Rattle.groups.specs.Working.{FirstMember, FirstIn}

module _ (f : ℕ → ℕ) (g : ℕ) where
  -- only one state, or n, is the first
  pub member_once : {n a b : ℕ} → FirstMember f g n a → FirstMember f g n b → a ≡ b
  member_once {n} {a} {b} h k = here (dec_lt a b) (dec_lt b a)
    where
      here : Dec (a < b) → Dec (b < a) → a ≡ b
      here (yes less) other = absurd (k.before a less (h.found (omega (arith, k.within))))
      here (no less) (yes more) = absurd (h.before b more (k.found (omega (arith, h.within))))
      here (no less) (no more) = omega arith

  -- the contract of `first_of` leaves one result
  pub first_once : (n : ℕ) (a b : Option ℕ) → FirstIn f g n a → FirstIn f g n b → a ≡ b
  first_once n None None h k = refl
  first_once n None (Some r) h k = absurd (h r k.0 (k.1.found k.0))
  first_once n (Some r) None h k = absurd (k r h.0 (h.1.found h.0))
  first_once n (Some r) (Some s) h k = ap Some (member_once h.1 k.1)

  -- some state below n has the group exactly if the first one is below n
  pub used_first : {n r : ℕ} → FirstMember f g n r → ltb r n ≡ there_is (λ s. eqb (f s) g) (below n)
  used_first {n} {r} h = same_truth (ltb r n) (there_is (λ s. eqb (f s) g) (below n))
      (λ e.
      let less = ltb-true r n e in
      there_is_from (λ s. eqb (f s) g) r (below n) (below_has n less) (eq-eqb (f r) g (h.found less)))
      (λ e.
      let w = there_is_found (λ s. eqb (f s) g) (below n) e in
      let small = below_member n w.1 in
      less w.0 small (eqb-true (f w.0) g w.2) (dec_lt r n))
    where
      less : (s : ℕ) → s < n → f s ≡ g → Dec (r < n) → ltb r n ≡ true
      less s small e (yes l) = lt-ltb r n l
      less s small e (no more) = absurd (h.before s (omega arith) e)

  -- the same, where 'none' is said by itself
  pub used_in : (n : ℕ) (r : Option ℕ) → FirstIn f g n r → is_some r ≡ there_is (λ s. eqb (f s) g) (below n)
  used_in n None h = same_truth false (there_is (λ s. eqb (f s) g) (below n))
      (λ e. absurd (true≢false (sym e)))
      (λ e.
      let w = there_is_found (λ s. eqb (f s) g) (below n) e in
      absurd (h w.0 (below_member n w.1) (eqb-true (f w.0) g w.2)))
  used_in n (Some r) h = sym (lt-ltb r n h.0) ∙ used_first h.1

  -- the first member of two joined lists stands in the first list, if that has one, else in the second
  member_left : (xs ys : List ℕ) → there_is (λ s. eqb (f s) g) xs ≡ true → member f g (xs ++ ys) ≡ member f g xs
  unfolding member there_is
  member_left [] ys e = absurd (true≢false (sym e))
  member_left (x ∷ xs) ys e = look (eqb (f x) g) e (member_left xs ys)
    where
      look : (b : Bool) → (b || there_is (λ s. eqb (f s) g) xs) ≡ true →
          (there_is (λ s. eqb (f s) g) xs ≡ true → member f g (xs ++ ys) ≡ member f g xs) →
          cond b x (member f g (xs ++ ys)) ≡ cond b x (member f g xs)
      look true e later = refl
      look false e later = later e

  member_right : (xs ys : List ℕ) → there_is (λ s. eqb (f s) g) xs ≡ false → member f g (xs ++ ys) ≡ member f g ys
  unfolding member there_is
  member_right [] ys e = refl
  member_right (x ∷ xs) ys e = look (eqb (f x) g) e (member_right xs ys)
    where
      look : (b : Bool) → (b || there_is (λ s. eqb (f s) g) xs) ≡ false →
          (there_is (λ s. eqb (f s) g) xs ≡ false → member f g (xs ++ ys) ≡ member f g ys) →
          cond b x (member f g (xs ++ ys)) ≡ member f g ys
      look true e later = absurd (true≢false e)
      look false e later = later e

  -- the first state below n that has the group is its member
  pub member_first : {n r : ℕ} → FirstMember f g n r → r < n → member f g (below n) ≡ r
  unfolding below member
  member_first {n = zero} {r = r} h less = absurd (omega arith)
  member_first {n = suc n} {r = r} h less = go (dec_lt r n) (λ l. member_first (shorter (omega arith)) l)
    where
      shorter : r ≤ n → FirstMember f g n r
      shorter l = record { within = l; before = h.before; found = λ small. h.found less }

      go : Dec (r < n) → (r < n → member f g (below n) ≡ r) → member f g (below n ++ (n ∷ [])) ≡ r
      go (yes small) earlier =
          member_left (below n) (n ∷ []) (sym (used_first (shorter (omega arith))) ∙ lt-ltb r n small) ∙ earlier small
      go (no large) earlier =
          let e : r ≡ n = omega arith in
          member_right (below n) (n ∷ []) (sym (used_first (shorter (omega arith))) ∙ le-ltb r n (omega arith)) ∙
          ap (λ (b : Bool). cond b n 0) (eq-eqb (f n) g (ap f (sym e) ∙ h.found less)) ∙
          sym e

-- the first state of a state's group is a state, and is its member
pub own_first : (n : ℕ) (grouping : List ℕ) (s : ℕ) {g r : ℕ} → s < n → length grouping ≡ n → g ≡ group_of grouping s →
    FirstMember (group_of grouping) g (length grouping) r → (r < n) × (member_of n grouping (group_of grouping s) ≡ r)
own_first n grouping s {g} {r} l long e h = go (dec_lt s r)
  where
    go : Dec (s < r) → (r < n) × (member_of n grouping (group_of grouping s) ≡ r)
    go (yes past) = absurd (h.before s past (sym e))
    go (no least) = (
      omega arith,
      ap₂ (λ n g. member_of n grouping g) (sym long) (sym e) ∙ member_first (group_of grouping) g h (omega arith),
    )

-- where every group below a count is used, each has a first state, which is its member
module _ (grouping : List ℕ) (count : ℕ) (all : every_below count (is_used grouping) ≡ true) (g : ℕ) (few : g < count) where
  pub first_some : FirstIn (group_of grouping) g (length grouping) None → ⊥
  first_some none =
      true≢false
      (sym (every_at count (is_used grouping) all g few) ∙ sym (used_in (group_of grouping) g (length grouping) None none))

  pub first_is : (r : Option ℕ) → FirstIn (group_of grouping) g (length grouping) r → IsSome r
  first_is None h = absurd (first_some h)
  first_is (Some r) h = refl

  pub first_member : (r : ℕ) → FirstIn (group_of grouping) g (length grouping) (Some r) →
      (r < length grouping) × (member_of (length grouping) grouping g ≡ r)
  first_member r h = (h.0, member_first (group_of grouping) g h.1 h.0)

-- a table that was written over the front of a list of one and the same d: f's values below the count, and d from it on
pub front_table : {A : Type 0} (n count : ℕ) (f : ℕ → A) (d : A) → count ≤ n →
    table count f ++ drop count (table n (λ k. d)) ≡ table n (λ k. cond (ltb k count) (f k) d)
front_table {A} n count f d few =
    table_is n (λ k. cond (ltb k count) (f k) d) d (table count f ++ drop count (table n (λ k. d)))
    (length-append (table count f) (drop count (table n (λ k. d))) ∙
    ap₂ ◌+◌ (length_table count f) (length-drop count (table n (λ k. d)) ∙ ap (λ k. k - count) (length_table n (λ k. d))) ∙
    omega arith)
    (λ k l. go k l (dec_lt k count))
  where
    rest : List A
    rest = drop count (table n (λ k. d))

    go : (k : ℕ) → k < n → Dec (k < count) → get_or (table count f ++ rest) k d ≡ cond (ltb k count) (f k) d
    go k l (yes small) =
        get_or-append (table count f) rest d k (omega (arith, length_table count f)) ∙
        table_at count f d k small ∙
        sym (ap (λ b. cond b (f k) d) (lt-ltb k count small))
    go k l (no past) =
        let e : length (table count f) + (k - count) ≡ k = omega (arith, length_table count f) in
        ap (λ j. get_or (table count f ++ rest) j d) (sym e) ∙
        get_or-append-add (table count f) rest (k - count) d ∙
        get_or-drop count (table n (λ k. d)) (k - count) d ∙
        table_at n (λ k. d) d (count + (k - count)) (omega arith) ∙
        sym (ap (λ b. cond b (f k) d) (le-ltb k count (omega arith)))
