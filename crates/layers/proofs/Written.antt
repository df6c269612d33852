-- A loop that writes the front of a list, one number a turn.
use Prim.Native.Nat.{ℕ, ◌+◌, ◌-◌, ◌≤◌, ◌<◌}
use mathlib.Core.List.{List}
use mathlib.Core.Path.{◌≡◌, sym, ap, subst, ◌∙◌}
use native.Mathlib.Omega.{arith}
use native.Mathlib.Decide.{dec_lt}
use lib.ListN.{length, get_or, set, drop, length-set, length-drop}
use lib.Seq.{ext_get_or, get_or-drop, get_or-set_same, get_or-set_other}
use Rattle.layers.specs.Layers.{RestKept}

-- a number past the first `count` has not changed
pub kept_at : {count : ℕ} {before after : List ℕ} → RestKept count before after → (k : ℕ) → count ≤ k →
    get_or after k 0 ≡ get_or before k 0
kept_at {count} {before} {after} h k l =
    let e : count + (k - count) ≡ k = omega arith in
    let r : get_or after (count + (k - count)) 0 ≡ get_or before (count + (k - count)) 0 =
    sym (get_or-drop count after (k - count) 0) ∙
    ap (λ x. get_or x (k - count) 0) h.rest ∙
    get_or-drop count before (k - count) 0 in
    rw e at r

-- lists of one length whose numbers from `count` on are the same
pub kept_from : {count : ℕ} {before after : List ℕ} → length after ≡ length before →
    ((k : ℕ) → count ≤ k → get_or after k 0 ≡ get_or before k 0) → RestKept count before after
kept_from {count} {before} {after} long same = record {
  long = long;
  rest =
      ext_get_or 0 (drop count after) (drop count before) (simp (length-drop) (omega arith))
      (λ k l. get_or-drop count after k 0 ∙ same (count + k) (omega arith) ∙ sym (get_or-drop count before k 0));
}

-- of the `count` numbers from `base` on the first i are written, and the others are as before
pub record Writing (base count : ℕ) (f : ℕ → ℕ) (before : List ℕ) (i : ℕ) (after : List ℕ) : Type 0 where
  pub up_to : i ≤ count
  pub room : base + count ≤ length before
  pub long : length after ≡ length before
  pub each : (k : ℕ) → k < i → get_or after (base + k) 0 ≡ f k
  pub low : (k : ℕ) → k < base → get_or after k 0 ≡ get_or before k 0
  pub high : (k : ℕ) → base + i ≤ k → get_or after k 0 ≡ get_or before k 0

module _ {base count : ℕ} {f : ℕ → ℕ} {before : List ℕ} where
  -- one number more
  pub writing_next : {i at v : ℕ} {after : List ℕ} → Writing base count f before i after → i < count → at ≡ base + i →
      v ≡ f i → Writing base count f before (i + 1) (set after at v)
  writing_next {i} {at} {v} {after} h less place e = record {
    up_to = omega arith;
    room = h.room;
    long = length-set after at v ∙ h.long;
    each = λ k l. here k l (dec_lt k i);
    low = λ k l. get_or-set_other after at k v 0 (omega arith) ∙ h.low k l;
    high = λ k l. get_or-set_other after at k v 0 (omega arith) ∙ h.high k (omega arith);
  }
    where
      here : (k : ℕ) → k < i + 1 → Dec (k < i) → get_or (set after at v) (base + k) 0 ≡ f k
      here k l (yes small) = get_or-set_other after at (base + k) v 0 (omega arith) ∙ h.each k small
      here k l (no large) =
          let p : i ≡ k = omega arith in
          let q : at ≡ base + k = omega arith in
          let room : at < length after = omega (arith, h.long, h.room) in
          subst (λ (x : ℕ). get_or (set after at v) x 0 ≡ f k) q (get_or-set_same after at v 0 room ∙ e ∙ ap f p)
