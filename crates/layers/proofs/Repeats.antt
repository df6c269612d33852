-- Numbers that repeat, and the bits of a label that do.
use Prim.Native.Nat.{ℕ, ◌+◌, ◌-◌, ◌*◌, ◌/◌, ◌%◌, ◌≤◌, ◌<◌}
use mathlib.Core.List.{List}
use mathlib.Core.Path.{◌≡◌, sym, ap, subst, ◌∙◌}
use native.Mathlib.Decide.{dec_lt}
use native.Mathlib.Nat.{mod-lt, mod-eq_of_lt, mod-eq-sub-mod, mul-le-mul}
use native.Mathlib.Omega.{arith}
use lib.Arith.{digits_div, mod-mul}
use lib.ListN.{length, get_or}
use Rattle.layers.specs.Layers.{WrittenAt, WrittenFront, bit_at}
use Rattle.layers.proofs.Written.{Writing, kept_at, kept_from}

-- a number is one of the first, or repeats that `few` places before it
repeats : (few k : ℕ) (before after : List ℕ) → (k < few → get_or after k 0 ≡ get_or before k 0) →
    (few ≤ k → get_or after (few + (k - few)) 0 ≡ get_or before ((k - few) % few) 0) → get_or after k 0 ≡ get_or before (k % few) 0
repeats few k before after first further = by (dec_lt k few)
  where
    by : Dec (k < few) → get_or after k 0 ≡ get_or before (k % few) 0
    by (yes y) = first y ∙ ap (λ (x : ℕ). get_or before x 0) (sym (mod-eq_of_lt y))
    by (no x) =
        let e : k ≡ few + (k - few) = omega arith in
        ap (λ (x : ℕ). get_or after x 0) e ∙
        further (omega arith) ∙
        ap (λ (x : ℕ). get_or before x 0) (sym (mod-eq-sub-mod {n = k} {m = few} (omega arith)))

-- while the numbers from `few` on are being written, up to k,
pub repeated_at : {few more k : ℕ} {before after : List ℕ} → 1 ≤ few → Writing few more (λ k. get_or before (k % few) 0) before k after →
    get_or after k 0 ≡ get_or before (k % few) 0
repeated_at {few} {more} {k} {before} {after} some h = repeats few k before after (h.low k) (λ m. h.each (k - few) (omega arith))

-- and when all are written
pub repeated : {few count k : ℕ} {before after : List ℕ} → k < count →
    WrittenAt few (count - few) (λ k. get_or before (k % few) 0) before after → get_or after k 0 ≡ get_or before (k % few) 0
repeated {few} {count} {k} {before} {after} less h = repeats few k before after (h.low k) (λ m. h.each (k - few) (omega arith))

-- ---- the bits of a label

-- the stretches of the first s states are written
pub record Stretches (masks : List ℕ) (l stride : ℕ) (before : List ℕ) (s : ℕ) (after : List ℕ) : Type 0 where
  pub long : length after ≡ length before
  pub each : (k : ℕ) → k < s * stride → get_or after k 0 ≡ bit_at masks l (k / stride)
  pub high : (k : ℕ) → s * stride ≤ k → get_or after k 0 ≡ get_or before k 0

module _ {masks : List ℕ} {l stride : ℕ} {before : List ℕ} where
  -- one state more
  pub stretches_next : {s bit : ℕ} {after now : List ℕ} → Stretches masks l stride before s after → bit ≡ bit_at masks l s →
      WrittenAt (s * stride) stride (λ k. bit) after now → Stretches masks l stride before (s + 1) now
  stretches_next {s} {bit} {after} {now} h e w = record {
    long = w.long ∙ h.long;
    each = λ k m. by k m (dec_lt k (s * stride));
    high = λ k m. w.high k (omega arith) ∙ h.high k (omega arith);
  }
    where
      by : (k : ℕ) → k < (s + 1) * stride → Dec (k < s * stride) → get_or now k 0 ≡ bit_at masks l (k / stride)
      by k m (yes y) = w.low k y ∙ h.each k y
      by k m (no x) =
          let place : k ≡ s * stride + (k - s * stride) = omega arith in
          let state : k / stride ≡ s = ap (λ (x : ℕ). x / stride) place ∙ digits_div s (omega arith) in
          ap (λ (x : ℕ). get_or now x 0) place ∙ w.each (k - s * stride) (omega arith) ∙ e ∙ ap (bit_at masks l) (sym state)

  -- all of them
  pub stretches_all : {s states : ℕ} {after : List ℕ} → Stretches masks l stride before s after → s ≡ states →
      WrittenFront (states * stride) (λ k. bit_at masks l (k / stride)) before after
  stretches_all {s} {states} {after} h done =
      subst (λ x. WrittenFront (x * stride) (λ k. bit_at masks l (k / stride)) before after) done
      (record { each = h.each; kept = kept_from h.long h.high })

-- repeated, they are those of all tuples
pub bits_repeated : (masks : List ℕ) (l : ℕ) {states stride T : ℕ} {before mid after : List ℕ} → 1 ≤ states → 1 ≤ stride →
    states * stride ≤ T →
    WrittenFront (states * stride) (λ k. bit_at masks l (k / stride)) before mid →
    WrittenAt (states * stride) (T - states * stride) (λ k. get_or mid (k % (states * stride)) 0) mid after →
    WrittenFront T (λ k. bit_at masks l (k / stride % states)) before after
bits_repeated masks l {states} {stride} {T} {before} {mid} {after} some apart few once again = record {
  each = λ k less.
      let P = states * stride in
      let small : k % P < P = mod-lt k (omega (arith, mul-le-mul some apart)) in
      let state : k % P / stride ≡ k / stride % states =
      ap (λ (x : ℕ). x / stride) (mod-mul k {m = states} {c = stride} some apart) ∙ digits_div (k / stride % states) (mod-lt k apart) in
      repeated less again ∙ once.each (k % P) small ∙ ap (bit_at masks l) state;
  kept = kept_from (again.long ∙ once.kept.long)
      (λ k m. again.high k (omega (arith, few)) ∙ kept_at once.kept k (omega (arith, few)));
}
