-- What the plain layers mean: each holds the truth of its formula at every tuple, where those of the parts did.
use Prim.Native.Nat.{ℕ, suc, ◌-◌, ◌/◌, ◌%◌, ◌^◌, ◌<◌}
use mathlib.Core.Bool.{Bool, true, false, cond, not, ◌&&◌}
use mathlib.Core.List.{List}
use mathlib.Core.Path.{◌≡◌, refl, sym, ap, ap₂, ◌∙◌}
use native.Mathlib.Nat.{mod-lt}
use native.Mathlib.Omega.{arith}
use borrow.Author.Tests.{eqb-true, eqb-false}
use lib.Dec.{eqb}
use lib.ListN.{length, get_or, drop}
use lib.Seq.{get_or-drop}
use Rattle.meaning.specs.Chain.{Chain, Tuple}
use Rattle.meaning.specs.Meaning.{has_label}
use Rattle.meaning.proofs.Laws.{has_label_at}
use Rattle.meaning.proofs.Numbers.{tuple_of, tuple_inside, each_length}
use Rattle.layers.specs.Layers.{Layer, truth, WrittenFront, negated_at, both_at, bit_at}
use Rattle.layers.proofs.Places.{state_at}

-- a bit is 1 or 0, as the test says
bit_test : (x : ℕ) → x < 2 → x ≡ cond (eqb x 1) 1 0
bit_test x h = by_test (eqb x 1) refl
  where
    by_test : (b : Bool) → eqb x 1 ≡ b → x ≡ cond b 1 0
    by_test true e = eqb-true x 1 e
    by_test false e =
        let other = eqb-false x 1 e in
        omega arith

module _ {N n T : ℕ} (whole : T ≡ N ^ n) {before after : List ℕ} where
  -- numbers that are written by place are a layer where the places are those of the tuples
  pub written_layer : {f : ℕ → ℕ} {g : Tuple → ℕ} → WrittenFront T f before after →
      ((k : ℕ) → k < N ^ n → f k ≡ g (tuple_of N n k)) → Layer N n g after
  written_layer h same = record { at = λ k l. h.each k (omega arith) ∙ same k l }

  -- ones are the truth of `true`
  pub always_layer : WrittenFront T (λ k. 1) before after → Layer N n (truth (λ s. true)) after
  always_layer h = written_layer h (λ k l. refl)

  -- bits of the masks are the truth of a label
  pub labelled_layer : (c : Chain) (masks : List ℕ) (l i stride : ℕ) → 0 < N → i < n → stride ≡ N ^ (n - suc i) →
      ((s : ℕ) → s < N → c.label l s ≡ eqb (bit_at masks l s) 1) →
      WrittenFront T (λ k. bit_at masks l (k / stride % N)) before after → Layer N n (truth (has_label c l (suc i))) after
  labelled_layer c masks l i stride some h e labels w = written_layer w here
    where
      here : (k : ℕ) → k < N ^ n →
          bit_at masks l (k / stride % N) ≡ cond (has_label c l (suc i) (tuple_of N n k)) 1 0
      here k less =
          let s = k / stride % N in
          let state : s ≡ get_or (tuple_of N n k) i 0 =
          ap (λ (x : ℕ). k / x % N) e ∙ sym (state_at N some n i k h less) in
          let inside : i < length (tuple_of N n k) = omega (arith, each_length (tuple_inside N n k less)) in
          bit_test (bit_at masks l s) (mod-lt (get_or masks s 0 / 2 ^ l) (omega arith)) ∙
          ap (λ b. cond b 1 0)
          (sym (labels s (mod-lt (k / stride) some)) ∙ ap (λ (x : ℕ). c.label l x) state ∙
          sym (has_label_at c l i (tuple_of N n k) inside))

  -- not
  pub negated_layer : (p : Tuple → Bool) → Layer N n (truth p) before →
      WrittenFront T (negated_at before) before after → Layer N n (truth (λ s. not (p s))) after
  negated_layer p h w = written_layer w
      (λ k l. ap (λ (x : ℕ). cond (eqb x 0) 1 0) (h.at k l) ∙ turned (p (tuple_of N n k)))
    where
      turned : (b : Bool) → ◌≡◌ {A = ℕ} (cond (eqb (cond b 1 0) 0) 1 0) (cond (not b) 1 0)
      turned true = refl
      turned false = refl

  -- and
  pub both_layer : (p q : Tuple → Bool) → Layer N n (truth p) before → Layer N n (truth q) (drop T before) →
      WrittenFront T (both_at T before) before after →
      Layer N n (truth (λ s. p s && q s)) after
  both_layer p q h h' w = written_layer w
      (λ k l.
      ap₂ (λ (x y : ℕ). cond (eqb y 0) 0 x) (h.at k l) (sym (get_or-drop T before k 0) ∙ h'.at k l) ∙
      joined (p (tuple_of N n k)) (q (tuple_of N n k)))
    where
      joined : (a b : Bool) → ◌≡◌ {A = ℕ} (cond (eqb (cond b 1 0) 0) 0 (cond a 1 0)) (cond (a && b) 1 0)
      joined true true = refl
      joined true false = refl
      joined false true = refl
      joined false false = refl
