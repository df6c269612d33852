-- One column after another is stepped.
use Prim.Native.Nat.{ℕ, ◌+◌, ◌*◌, ◌/◌, ◌%◌, ◌≤◌, ◌<◌}
use mathlib.Core.List.{List}
use mathlib.Core.Path.{◌≡◌, sym, ap, ap₂, ◌∙◌}
use native.Mathlib.Decide.{dec_lt}
use native.Mathlib.Nat.{mod-lt, div-add-mod', div-lt_iff_lt-mul, mul-div_cancel, le_trans, mul-le-mul_right}
use native.Mathlib.Omega.{arith}
use lib.Arith.{digits_div, digits_mod, digits_lt}
use lib.ListN.{length, get_or}
use Rattle.counting.proofs.Laws.{sum_same}
use Rattle.counting.specs.Entries.{cell}
use Rattle.row_sums.specs.Columns.{stepped, ColumnFits, ColumnStepped}
use Rattle.steps.specs.Columns.{start, LayerFits, LayerStepped}
use Rattle.steps.proofs.Sums.{sum_bounded}
use Rattle.layers.proofs.Written.{kept_from}

-- the number of the column in which place k stands
abbrev pub column_of : (N stride k : ℕ) → ℕ
column_of N stride k = k / stride / N * stride + k % stride

-- where column j starts
abbrev pub start_of : (N stride j : ℕ) → ℕ
start_of N stride j = j / stride * (stride * N) + j % stride

module _ (N stride : ℕ) (some : 1 ≤ N) (apart : 1 ≤ stride) where
  -- a place, by its column's start and its state
  pub start_split : (k : ℕ) → k ≡ start N stride k + k / stride % N * stride
  start_split k =
      let p = div-add-mod' k stride in
      let q = div-add-mod' (k / stride) N in
      let r : k / stride * stride ≡ (k / stride / N * N + k / stride % N) * stride =
      ap (λ (x : ℕ). x * stride) (sym q) in
      omega arith

  -- the two starts of a column are one
  pub start_column : (k : ℕ) → start_of N stride (column_of N stride k) ≡ start N stride k
  start_column k =
      ap₂ (λ (x y : ℕ). x * (stride * N) + y)
      (digits_div (k / stride / N) (mod-lt k apart)) (digits_mod (k / stride / N) (mod-lt k apart))

  -- the place of state s in column j
  module _ (j s : ℕ) (less : s < N) where
    place : start_of N stride j + s * stride ≡ (j / stride * N + s) * stride + j % stride
    place = omega arith

    place_div : (start_of N stride j + s * stride) / stride ≡ j / stride * N + s
    place_div = ap (λ (x : ℕ). x / stride) place ∙ digits_div (j / stride * N + s) (mod-lt j apart)

    place_mod : (start_of N stride j + s * stride) % stride ≡ j % stride
    place_mod = ap (λ (x : ℕ). x % stride) place ∙ digits_mod (j / stride * N + s) (mod-lt j apart)

    -- it stands in column j
    pub place_column : column_of N stride (start_of N stride j + s * stride) ≡ j
    place_column =
        ap₂ (λ (x y : ℕ). x / N * stride + y) place_div place_mod ∙
        ap (λ (x : ℕ). x * stride + j % stride) (digits_div (j / stride) less) ∙
        div-add-mod' j stride

    -- it lies in the layer where the column does
    pub place_below : (above : ℕ) → j < above * stride → start_of N stride j + s * stride < above * N * stride
    place_below above l =
        let q : j / stride < above = (div-lt_iff_lt-mul apart).1 l in
        let r = digits_lt (digits_lt q less) (mod-lt j apart) in
        omega arith

  -- a place of the layer stands in one of its columns
  pub column_below : (above k : ℕ) → k < above * N * stride → column_of N stride k < above * stride
  column_below above k l =
      let p : k / stride < above * N = (div-lt_iff_lt-mul apart).1 l in
      let q : k / stride / N < above = (div-lt_iff_lt-mul some).1 p in
      digits_lt q (mod-lt k apart)

  -- column b of block a starts at place p
  pub start_at : (a b : ℕ) {n p : ℕ} → n ≡ N → b < stride → p ≡ a * (stride * n) + b → start_of N stride (a * stride + b) ≡ p
  start_at a b same l e =
      ap₂ (λ (x y : ℕ). x * (stride * N) + y) (digits_div a l) (digits_mod a l) ∙
      sym (ap (λ (x : ℕ). a * (stride * x) + b) same) ∙
      sym e

-- the columns before j are stepped, the others and what lies past the layer are as before
pub record LayerStepping (rows : List (List ℕ)) (N stride T : ℕ) (before : List ℕ) (j : ℕ)
    (after : List ℕ) : Type 0 where
  pub long : length after ≡ length before
  pub each : (k : ℕ) → k < T → column_of N stride k < j →
      get_or after k 0 ≡ stepped rows N stride before (start N stride k) (k / stride % N)
  pub left : (k : ℕ) → k < T → j ≤ column_of N stride k → get_or after k 0 ≡ get_or before k 0
  pub past : (k : ℕ) → T ≤ k → get_or after k 0 ≡ get_or before k 0

module _ {rows : List (List ℕ)} {N stride T : ℕ} {before : List ℕ} where
  -- how many blocks there are
  pub blocks_are : (fits : LayerFits rows N stride T before) {blocks : ℕ} → T ≡ blocks * N * stride → blocks ≡ fits.above
  blocks_are fits {blocks} whole =
      let rows_of : blocks * N ≡ fits.above * N =
      sym (mul-div_cancel (blocks * N) fits.apart) ∙
      ap (λ (x : ℕ). x / stride) (sym whole ∙ fits.whole) ∙
      mul-div_cancel (fits.above * N) fits.apart in
      sym (mul-div_cancel blocks fits.some) ∙ ap (λ (x : ℕ). x / N) rows_of ∙ mul-div_cancel fits.above fits.some

  -- column b of block a is one of the layer's
  pub column_less : (fits : LayerFits rows N stride T before) {blocks a b : ℕ} → T ≡ blocks * N * stride →
      a < blocks → b < stride → a * stride + b < fits.above * stride
  column_less fits whole l m = digits_lt (omega (arith, l, blocks_are fits whole)) m

  module _ (fits : LayerFits rows N stride T before) {j : ℕ} (less : j < fits.above * stride) where
    -- where there is a column, its length and its start are small
    pub column_small : (stride * N ≤ T) × (start_of N stride j < T)
    column_small = (
      (let q : j / stride < fits.above = (div-lt_iff_lt-mul fits.apart).1 less in
          let r = mul-le-mul_right {m = 1} {n = fits.above} (stride * N) (omega arith) in
          omega (arith, fits.whole)),
      omega (arith, fits.whole, place_below N stride fits.some fits.apart j 0 fits.some fits.above less),
    )

    -- a place of column j lies in the layer
    inside : (s : ℕ) → s < N → start_of N stride j + s * stride < T
    inside s l = omega (arith, fits.whole, place_below N stride fits.some fits.apart j s l fits.above less)

    module _ {after : List ℕ} (h : LayerStepping rows N stride T before j after) where
      -- it has not been written yet
      fresh : (s : ℕ) → s < N →
          get_or after (start_of N stride j + s * stride) 0 ≡ get_or before (start_of N stride j + s * stride) 0
      fresh s l =
          let e = place_column N stride fits.some fits.apart j s l in
          h.left (start_of N stride j + s * stride) (inside s l) (omega arith)

      pub column_fits : ColumnFits rows N stride (start_of N stride j) after
      column_fits = record {
        lies = record {
          states = fits.states;
          near = omega (arith, column_small, fits.few);
          inside = λ s l. omega (arith, inside s l, fits.room, h.long);
        };
        apart = fits.apart;
        fits = λ s l.
            le_trans
            (sum_bounded N (cell rows s) (λ t. get_or after (start_of N stride j + t * stride) 0) fits.bound
            (λ t m. omega (arith, fresh t m, fits.small (start_of N stride j + t * stride) (inside t m))))
            (fits.fits s l);
      }

      pub layer_next : {now : List ℕ} → ColumnStepped rows N stride (start_of N stride j) after now →
          LayerStepping rows N stride T before (j + 1) now
      layer_next {now} step = record {
        long = step.long ∙ h.long;
        each = λ k l small. here k l small (dec_lt (column_of N stride k) j);
        left = λ k l large. outside k (λ e. omega arith) ∙ h.left k l (omega arith);
        past = λ k l. step.same k (λ s m e. omega (arith, inside s m)) ∙ h.past k l;
      }
        where
          outside : (k : ℕ) → (column_of N stride k ≡ j → ⊥) → get_or now k 0 ≡ get_or after k 0
          outside k out =
              step.same k
              (λ s m e. out (ap (column_of N stride) e ∙ place_column N stride fits.some fits.apart j s m))

          here : (k : ℕ) → k < T → column_of N stride k < j + 1 → Dec (column_of N stride k < j) →
              get_or now k 0 ≡ stepped rows N stride before (start N stride k) (k / stride % N)
          here k l small (yes earlier) = outside k (λ e. omega arith) ∙ h.each k l earlier
          here k l small (no later) =
              let e : column_of N stride k ≡ j = omega arith in
              let begins : start N stride k ≡ start_of N stride j =
              sym (start_column N stride fits.some fits.apart k) ∙ ap (start_of N stride) e in
              let s = k / stride % N in
              let state : s < N = mod-lt (k / stride) fits.some in
              let there : k ≡ start_of N stride j + s * stride =
              start_split N stride fits.some fits.apart k ∙ ap (λ (x : ℕ). x + s * stride) begins in
              ap (λ (x : ℕ). get_or now x 0) there ∙
              step.each s state ∙
              sum_same N (λ t m. ap (λ (x : ℕ). cell rows s t * x) (fresh t m)) ∙
              ap (λ (x : ℕ). stepped rows N stride before x s) (sym begins)

  -- after the last turn every column has been stepped
  pub layer_all : {j : ℕ} {after : List ℕ} → (fits : LayerFits rows N stride T before) →
      LayerStepping rows N stride T before j after → fits.above * stride ≤ j →
      LayerStepped rows N stride T before after
  layer_all {j} fits h done = record {
    each = λ k l.
        let c = column_below N stride fits.some fits.apart fits.above k (omega arith) in
        h.each k l (omega arith);
    kept = kept_from h.long h.past;
  }
