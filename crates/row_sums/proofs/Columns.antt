-- One column is stepped from its first place on.
use Prim.Native.Nat.{ℕ, ◌+◌, ◌*◌, ◌/◌, ◌≤◌, ◌<◌}
use mathlib.Core.List.{List, []}
use mathlib.Core.Path.{◌≡◌, refl, sym, ap, subst, ◌∙◌}
use native.Mathlib.Decide.{dec_lt}
use native.Mathlib.Nat.{mul-div_cancel, le_trans, le_of_eq}
use native.Mathlib.Omega.{arith}
use lib.ListN.{length, get_or, set, length-set}
use lib.Seq.{get_or-set_same, get_or-set_other}
use Rattle.counting.specs.Below.{sum_below}
use Rattle.counting.specs.Entries.{cell}
use Rattle.counting.proofs.Laws.{sum_same}
use Rattle.meaning.specs.Size.{size_limit}
use Rattle.row_sums.specs.Sparse.{named_at, RowsPaired}
use Rattle.row_sums.specs.Columns.{stepped, ColumnRead, ColumnFits, ColumnStepped}

-- two places of a column are those of one state
same_state : (stride a b : ℕ) → 1 ≤ stride → a * stride ≡ b * stride → a ≡ b
same_state stride a b h e =
    sym (mul-div_cancel a h) ∙ ap (λ (x : ℕ). x / stride) e ∙ mul-div_cancel b h

-- a row's sum over the copied column is that of its step, by whatever name the row goes
pub column_sum : (rows : List (List ℕ)) (s : ℕ) {i n N stride at : ℕ} {w column : List ℕ} → i ≡ s → n ≡ N →
    ColumnRead n stride at w column → sum_below N (λ t. cell rows i t * get_or column t 0) ≡ stepped rows N stride w at s
column_sum rows s {N = N} {column = column} same e read =
    ap (λ (x : ℕ). sum_below N (λ t. cell rows x t * get_or column t 0)) same ∙
    sum_same _ (λ t l. ap (λ (x : ℕ). cell rows s t * x) (read.each t (omega (arith, e))))

-- the first s states of the column are stepped, the other places are as before
pub record ColumnStepping (rows : List (List ℕ)) (N stride at : ℕ) (before : List ℕ) (s : ℕ)
    (after : List ℕ) : Type 0 where
  pub up_to : s ≤ N
  pub long : length after ≡ length before
  pub each : (t : ℕ) → t < s → get_or after (at + t * stride) 0 ≡ stepped rows N stride before at t
  pub same : (k : ℕ) → ((t : ℕ) → t < s → k ≡ at + t * stride → ⊥) → get_or after k 0 ≡ get_or before k 0

module _ {rows : List (List ℕ)} {N stride at : ℕ} {before : List ℕ} where
  column_next_at : {s v : ℕ} {after : List ℕ} → ColumnFits rows N stride at before →
      ColumnStepping rows N stride at before s after → s < N → v ≡ stepped rows N stride before at s →
      ColumnStepping rows N stride at before (s + 1) (set after (at + s * stride) v)
  column_next_at {s} {v} {after} fits h less e = record {
    up_to = omega arith;
    long = length-set after (at + s * stride) v ∙ h.long;
    each = λ t l. here t l (dec_lt t s);
    same = λ k out.
        get_or-set_other after (at + s * stride) k v 0 (out s (omega arith)) ∙ h.same k (λ t l. out t (omega arith));
  }
    where
      here : (t : ℕ) → t < s + 1 → Dec (t < s) →
          get_or (set after (at + s * stride) v) (at + t * stride) 0 ≡ stepped rows N stride before at t
      here t l (yes small) =
          get_or-set_other after (at + s * stride) (at + t * stride) v 0
          (λ p.
          let q = same_state stride t s fits.apart (omega arith) in
          omega arith) ∙
          h.each t small
      here t l (no large) =
          let p : s ≡ t = omega arith in
          let room : at + s * stride < length after = omega (arith, h.long, fits.lies.inside s less) in
          subst
          (λ (x : ℕ). get_or (set after (at + s * stride) v) (at + x * stride) 0 ≡ stepped rows N stride before at x) p
          (get_or-set_same after (at + s * stride) v 0 room ∙ e)

  -- one state more
  pub column_next : {s place v : ℕ} {after : List ℕ} → ColumnFits rows N stride at before →
      ColumnStepping rows N stride at before s after → s < N → place ≡ at + s * stride →
      v ≡ stepped rows N stride before at s → ColumnStepping rows N stride at before (s + 1) (set after place v)
  column_next {s} {place} {v} {after} fits h less there e =
      subst (λ (x : ℕ). ColumnStepping rows N stride at before (s + 1) (set after x v)) (sym there)
      (column_next_at fits h less e)

  -- after the last turn the column has been stepped
  pub column_all : {s : ℕ} {after : List ℕ} → ColumnStepping rows N stride at before s after → N ≤ s →
      ColumnStepped rows N stride at before after
  column_all h done = record {
    long = h.long;
    each = λ t l. h.each t (omega arith);
    same = λ k out. h.same k (λ t l. out t (omega arith));
  }

-- the sums over the copied column
module _ {rows : List (List ℕ)} {N stride at : ℕ} {before column : List ℕ} (fits : ColumnFits rows N stride at before)
    (read : ColumnRead N stride at before column) {s : ℕ} (less : s < N) where
  pub dense_fits : {i : ℕ} → i ≡ s → sum_below N (λ t. cell rows i t * get_or column t 0) ≤ size_limit
  dense_fits same = le_trans (le_of_eq (column_sum rows s same refl read)) (fits.fits s less)

  module _ {places : List (List ℕ)} {pairs : ℕ} (named : RowsPaired rows N pairs places) where
    pub named_fits : sum_below 8 (named_at (get_or rows s []) (get_or places s []) (λ t. get_or column t 0)) ≤ size_limit
    named_fits =
        le_trans (le_of_eq ((named.each s less).each (λ t. get_or column t 0) 8 (omega (arith, named.few)) (omega arith)))
        (dense_fits refl)

    pub named_sum : sum_below (2 * pairs) (named_at (get_or rows s []) (get_or places s []) (λ t. get_or column t 0)) ≡
        stepped rows N stride before at s
    named_sum =
        (named.each s less).each (λ t. get_or column t 0) (2 * pairs) (omega arith) (omega (arith, named.few)) ∙
        column_sum rows s refl refl read
