-- A row's weights that are not 0 are named one after another, and a sum over them is the sum over the row.
use Prim.Native.Nat.{ℕ, zero, suc, ◌+◌, ◌*◌, ◌≤◌, ◌<◌}
use mathlib.Core.List.{List, [], ◌∷◌}
use mathlib.Core.Path.{◌≡◌, refl, sym, ap, ap₂, subst, ◌∙◌}
use native.Mathlib.Decide.{dec_lt}
use native.Mathlib.Omega.{arith}
use lib.ListN.{length, get_or, set, length-set}
use lib.Seq.{get_or-set_same, get_or-set_other}
use Rattle.std.specs.Prelude.{Option, Some, IfSome}
use Rattle.meaning.specs.Size.{size_limit}
use Rattle.counting.specs.Below.{sum_below}
use Rattle.counting.proofs.Laws.{sum_none, sum_more, sum_same}
use Rattle.row_sums.specs.Sparse.{named_at, products_at, Naming, Named}

-- the terms up to one of them are at most the whole
pub part_le : (n : ℕ) (f : ℕ → ℕ) (t : ℕ) → t < n → sum_below t f + f t ≤ sum_below n f
unfolding sum_below
part_le zero f t l = omega arith
part_le (suc n) f t l = here (λ less. part_le n f t less) (dec_lt t n)
  where
    here : (t < n → sum_below t f + f t ≤ sum_below n f) → Dec (t < n) → sum_below t f + f t ≤ sum_below n f + f n
    here r (yes less) = omega (arith, r less)
    here r (no more) =
        let e : t ≡ n = omega arith in
        omega (arith, ap (λ (x : ℕ). sum_below x f + f x) e)

-- two terms more, and they are at most the whole
pub two_more : (i : ℕ) (f : ℕ → ℕ) → sum_below (i + 2) f ≡ sum_below i f + (f i + f (i + 1))
two_more i f =
    let p = sum_more i f in
    let q = sum_more (i + 1) f in
    let e : sum_below (i + 2) f ≡ sum_below (i + 1 + 1) f = ap (λ (x : ℕ). sum_below x f) (omega arith) in
    omega arith

-- a sum of two terms
pub two_first : (f : ℕ → ℕ) → sum_below 2 f ≡ f 0 + f (0 + 1)
two_first f =
    let p = two_more 0 f in
    let q = sum_none f in
    omega arith

-- a sum with the next two terms is at most the whole
pub two_le : (n i : ℕ) (f : ℕ → ℕ) → i + 1 < n → sum_below i f + (f i + f (i + 1)) ≤ sum_below n f
two_le n i f less =
    let p = sum_more i f in
    let q = part_le n f (i + 1) less in
    omega arith

-- terms that are 0 add nothing
sum_past : (k m : ℕ) (f : ℕ → ℕ) → k ≤ m → ((i : ℕ) → k ≤ i → i < m → f i ≡ 0) → sum_below m f ≡ sum_below k f
unfolding sum_below
sum_past k zero f l h =
    let e : 0 ≡ k = omega arith in
    ap (λ (x : ℕ). sum_below x f) e
sum_past k (suc m) f l h = here (λ few. sum_past k m f few (λ i a b. h i a (omega arith))) (dec_lt m k)
  where
    here : (k ≤ m → sum_below m f ≡ sum_below k f) → Dec (m < k) → sum_below m f + f m ≡ sum_below k f
    here r (yes same) =
        let e : suc m ≡ k = omega arith in
        ap (λ (x : ℕ). sum_below x f) e
    here r (no more) = omega (arith, r (omega arith), h m (omega arith) (omega arith))

module _ {row : List ℕ} {t count : ℕ} {places : List ℕ} (h : Naming row t count places) where
  -- the weight of the next state is 0
  pub naming_skip : get_or row t 0 ≡ 0 → Naming row (t + 1) count places
  naming_skip e = record {
    long = h.long;
    inside = h.inside;
    few = h.few;
    rest = h.rest;
    each = λ g.
        h.each g ∙
        (let p = sum_more t (λ s. get_or row s 0 * g s) in
        let q : get_or row t 0 * g t ≡ 0 * g t = ap (λ (x : ℕ). x * g t) e in
        omega arith);
  }

  -- the next state is named
  pub naming_next : {v : ℕ} → count < 7 → t < 32 → v ≡ t → Naming row (t + 1) (count + 1) (set places count v)
  naming_next {v} few small e = record {
    long = length-set places count v ∙ h.long;
    inside = λ i l. inside_at i l (dec_lt i count);
    few = omega arith;
    rest = λ i a b. ap (λ (x : ℕ). get_or row x 0) (other i (omega arith)) ∙ h.rest i (omega arith) b;
    each = λ g.
        sum_more count (named_at row (set places count v) g) ∙
        ap₂ (λ (x y : ℕ). x + y)
        (sum_same count (λ i l. ap (λ (x : ℕ). get_or row x 0 * g x) (other i (omega arith))) ∙ h.each g)
        (ap (λ (x : ℕ). get_or row x 0 * g x) here) ∙
        sym (sum_more t (λ s. get_or row s 0 * g s));
  }
    where
      here : get_or (set places count v) count 0 ≡ t
      here = get_or-set_same places count v 0 (omega (arith, h.long)) ∙ e

      other : (i : ℕ) → (i ≡ count → ⊥) → get_or (set places count v) i 0 ≡ get_or places i 0
      other i out = get_or-set_other places count i v 0 out

      inside_at : (i : ℕ) → i < 8 → Dec (i < count) → get_or (set places count v) i 0 < 32
      inside_at i l (yes less) = omega (arith, other i (omega arith), h.inside i l)
      inside_at i l (no more) = past (dec_lt count i)
        where
          past : Dec (count < i) → get_or (set places count v) i 0 < 32
          past (yes far) = omega (arith, other i (omega arith), h.inside i l)
          past (no near) =
              let p : i ≡ count = omega arith in
              let q = ap (λ (x : ℕ). get_or (set places count v) x 0) p in
              omega (arith, here)

  -- a sum over the places is one over the row
  pub naming_named : Named row t count places
  naming_named = record {
    inside = h.inside;
    each = λ g m enough room.
        sum_past count m (named_at row places g) enough
        (λ i a b. ap (λ (x : ℕ). x * g (get_or places i 0)) (h.rest i a (omega arith)) ∙ omega arith) ∙
        h.each g;
  }

-- places that all name one weight that is 0
pub naming_none : {row places : List ℕ} (z : ℕ) → length places ≡ 8 → z < 32 → get_or row z 0 ≡ 0 →
    ((i : ℕ) → i < 8 → get_or places i 0 ≡ z) → Naming row 0 0 places
naming_none {row} {places} z long small e all = record {
  long = long;
  inside = λ i l. omega (arith, all i l);
  few = omega arith;
  rest = λ i a b. ap (λ (x : ℕ). get_or row x 0) (all i b) ∙ e;
  each = λ g. sum_none (named_at row places g) ∙ sym (sum_none (λ s. get_or row s 0 * g s));
}

-- more places do as well
pub named_more : {row places : List ℕ} {N most more : ℕ} → Named row N most places → most ≤ more → Named row N more places
named_more h l = record { inside = h.inside; each = λ g m enough room. h.each g m (omega arith) room }

-- what holds of the count, if there is one, holds of the one that is there
pub of_count : {n : ℕ} {o : Option ℕ} (P : ℕ → Type 0) → o ≡ Some n → IfSome o P → P n
of_count P e h = subst (λ (o : Option ℕ). IfSome o P) e h

-- the sum so far and the next two products are at most that of all places
pub pair_fits : (row places column : List ℕ) →
    sum_below 8 (named_at row places (λ t. get_or column t 0)) ≤ size_limit → (i : ℕ) → i ≤ 6 →
    sum_below i (named_at row places (λ t. get_or column t 0)) + products_at row places column i ≤ size_limit
pair_fits row places column fits i less =
    let p = two_le 8 i (named_at row places (λ t. get_or column t 0)) (omega arith) in
    omega arith

-- the sum with one pair more
pub pair_more : (row places column : List ℕ) (i : ℕ) {total more : ℕ} →
    total ≡ sum_below (2 * i) (named_at row places (λ t. get_or column t 0)) → more ≡ products_at row places column (2 * i) →
    total + more ≡ sum_below (2 * (i + 1)) (named_at row places (λ t. get_or column t 0))
pair_more row places column i e f =
    let g = named_at row places (λ t. get_or column t 0) in
    ap₂ (λ (a b : ℕ). a + b) e f ∙ sym (two_more (2 * i) g) ∙ ap (λ (x : ℕ). sum_below x g) (omega arith)

-- eight times one number
pub eight : (z i : ℕ) → i < 8 → get_or (z ∷ z ∷ z ∷ z ∷ z ∷ z ∷ z ∷ z ∷ []) i 0 ≡ z
eight z zero l = refl
eight z (suc zero) l = refl
eight z (suc (suc zero)) l = refl
eight z (suc (suc (suc zero))) l = refl
eight z (suc (suc (suc (suc zero)))) l = refl
eight z (suc (suc (suc (suc (suc zero))))) l = refl
eight z (suc (suc (suc (suc (suc (suc zero)))))) l = refl
eight z (suc (suc (suc (suc (suc (suc (suc zero))))))) l = refl
eight z (suc (suc (suc (suc (suc (suc (suc (suc i)))))))) l = absurd (omega arith)

-- one row more is named, that of place s by whatever name
pub rows_next : (rows places : List (List ℕ)) {one : List ℕ} {N s i most count more : ℕ} → length places ≡ 32 → s < 32 →
    ((k : ℕ) → k < s → Named (get_or rows k []) N most (get_or places k [])) → Named (get_or rows i []) N count one → i ≡ s →
    most ≤ more → count ≤ more →
    (k : ℕ) → k < s + 1 → Named (get_or rows k []) N more (get_or (set places s one) k [])
rows_next rows places {one} {N} {s} {i} {most} {count} {more} long less earlier last same a b k l = here (dec_lt k s)
  where
    here : Dec (k < s) → Named (get_or rows k []) N more (get_or (set places s one) k [])
    here (yes small) =
        subst (λ (x : List ℕ). Named (get_or rows k []) N more x)
        (sym (get_or-set_other places s k one [] (omega arith))) (named_more (earlier k small) a)
    here (no large) =
        let e : s ≡ k = omega arith in
        let own : Named (get_or rows s []) N count one = subst (λ (x : ℕ). Named (get_or rows x []) N count one) same last in
        subst (λ (x : ℕ). Named (get_or rows x []) N more (get_or (set places s one) x [])) e
        (subst (λ (x : List ℕ). Named (get_or rows s []) N more x)
        (sym (get_or-set_same places s one [] (omega arith))) (named_more own b))
