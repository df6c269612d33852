-- Rows 4 and 5 say what documents 01 and 02 say of a file, byte by byte. `laid_out`, by which row 4 is stated, holds of a file of right
-- length exactly if the file is laid out in the document's own words: the fields' own bytes stand by themselves (Standing); what is
-- left are the fixed bytes, the bounds and the zeros. `rows_right`, by which row 5 is stated, is likewise said of the bytes. Assumes
-- nothing.
use Prim.Native.Nat.{ℕ, zero, suc, ◌+◌, ◌-◌, ◌*◌, ◌/◌, ◌%◌, ◌^◌, ◌≤◌, ◌<◌}
use mathlib.Core.Bool.{Bool, true, false, ◌&&◌, ◌||◌}
use mathlib.Core.List.{List}
use mathlib.Core.Logic.{◌⊎◌, inl, inr, ◌↔◌}
use mathlib.Core.Path.{◌≡◌, refl, sym, ap, ◌∙◌}
use native.Mathlib.Decide.{dec_lt}
use native.Mathlib.Nat.{one-le-pow}
use native.Mathlib.Omega.{arith}
use borrow.Author.Tests.{lt-ltb, le-ltb, le-leb, lt-leb, ltb-true, eq-eqb, eqb-true}
use lib.Dec.{ltb, leb, eqb}
use lib.ListN.{length, get_or-eq_default}
use Rattle.counting.specs.Below.{sum_below, every_below}
use Rattle.counting.proofs.Laws.{every_at, every_all, and_true, left_of, right_of, sum_same, Tested, holds, fails, tested}
use Rattle.block.specs.Block.{byte_of, two, blocks_in}
use Rattle.model.specs.Layout.{mask_of, weight_of, mask_at, weight_at, fields_of, head_byte, row_byte, content_byte, blocks, byte_of_two}
use Rattle.model.specs.Rules.{within, mask_right, weight_right, fields_right, adds_up}
use Rattle.model.specs.Rules.{empty_row, halted, rows_right, length_right, laid_out}
use Rattle.model.specs.Words.{N, A, version_of, D, LaidOut, AddUp}
use Rattle.model.proofs.Places.{byte_there}
use Rattle.model.proofs.Rightness.{laid_fields, states_some, states_few, labels_some, labels_few, total_some, total_few, version_few}
use Rattle.model.proofs.Rightness.{mask_at_right, weight_past}
use Rattle.model.proofs.Standing.{Bytes, byte_of_zero, head_rest, row_end, content_row, content_head}
use Rattle.model.proofs.Standing.{mask_of_file, weight_of_file, past_masks, past_rows, head_stands, head_first}
use Rattle.model.proofs.Standing.{row_first, row_second, row_stands}

-- a number of two bytes is 0 exactly if both are
two_zero : (a b : ℕ) → two a b ≡ 0 → (a ≡ 0) × (b ≡ 0)
two_zero a b e = (omega arith, omega arith)

zero_two : {a b : ℕ} → a ≡ 0 → b ≡ 0 → two a b ≡ 0
zero_two e f = omega arith

-- a number between bounds is within them
bounded : (low high x : ℕ) → (low ≤ x) × (x ≤ high) → within low high x ≡ true
bounded low high x h = and_true (le-leb low x h.0) (le-leb x high h.1)

-- the right half of a test by cases, where the left half fails
right_half : (a b : Bool) → a ≡ false → (a || b) ≡ true → b ≡ true
right_half a b e h = sym (ap (λ (x : Bool). x || b) e) ∙ h

-- an 'or' whose right half holds
either : (a b : Bool) → b ≡ true → (a || b) ≡ true
either true b e = refl
either false b e = e

-- a mask is below a power, or is 0, which is below it too
below_or_zero : (x a : ℕ) (in_front : Bool) → (in_front && ltb x (2 ^ a) || eqb x 0) ≡ true → x < 2 ^ a
below_or_zero x a b e = by b e (tested (ltb x (2 ^ a)))
  where
    zero_below : eqb x 0 ≡ true → x < 2 ^ a
    zero_below z = omega (arith, eqb-true x 0 z, one-le-pow a 2 (omega arith))

    by : (b : Bool) → (b && ltb x (2 ^ a) || eqb x 0) ≡ true → Tested (ltb x (2 ^ a)) → x < 2 ^ a
    by b e (holds t) = ltb-true x (2 ^ a) t
    by true e (fails f) = zero_below (right_half (ltb x (2 ^ a)) (eqb x 0) f e)
    by false e (fails f) = zero_below e

not_both : (s t n : ℕ) → (n ≤ s) ⊎ (n ≤ t) → (ltb s n && ltb t n) ≡ false
not_both s t n (inl h) = rw (le-ltb s n h) refl
not_both s t n (inr h) = rw (le-ltb t n h) (by (ltb s n))
  where
    by : (b : Bool) → (b && false) ≡ false
    by true = refl
    by false = refl

module _ (file : List ℕ) (bytes : Bytes file) where
  -- ---- what is laid out is so in words

  module _ (e : laid_out file (fields_of file) ≡ true) where
    right : fields_right (fields_of file) ≡ true
    right = laid_fields file (fields_of file) e

    abbrev counted_test : Bool
    counted_test = eqb (blocks_in file) (blocks (fields_of file).n)

    abbrev bytes_test : Bool
    bytes_test = every_below (blocks_in file) (λ i. every_below 510 (λ j. eqb (byte_of file i j) (content_byte (fields_of file) i j)))

    counted : blocks_in file ≡ 1 + (N file + 6) / 7
    unfolding laid_out fields_of
    counted = eqb-true (blocks_in file) (blocks (fields_of file).n)
        (right_of (fields_right (fields_of file)) counted_test (left_of (fields_right (fields_of file) && counted_test) bytes_test e))

    each : (i j : ℕ) → i < blocks_in file → j < 510 → byte_of file i j ≡ content_byte (fields_of file) i j
    unfolding laid_out
    each i j l k = eqb-true (byte_of file i j) (content_byte (fields_of file) i j)
        (every_at 510 (λ j. eqb (byte_of file i j) (content_byte (fields_of file) i j))
        (every_at (blocks_in file) (λ i. every_below 510 (λ j. eqb (byte_of file i j) (content_byte (fields_of file) i j)))
        (right_of (fields_right (fields_of file) && counted_test) bytes_test e) i l) j k)

    each_row : (i j : ℕ) → 1 ≤ i → i < blocks_in file → j < 510 → byte_of file i j ≡ row_byte (fields_of file) i j
    each_row i j one l k = each i j l k ∙ content_row (fields_of file) i j one

    masks_right : (s : ℕ) → s < N file → mask_at file s < 2 ^ A file
    unfolding fields_of
    masks_right s l =
        let small : s < 32 = omega (arith, states_few (fields_of file) right) in
        rw (sym (mask_of_file file bytes s small))
        (below_or_zero (mask_of (fields_of file) s) (A file) (ltb s (N file)) (mask_at_right (fields_of file) right s small))

    rest_zero : (j : ℕ) → 8 + 2 * N file ≤ j → j < 510 → byte_of file 0 j ≡ 0
    unfolding fields_of
    rest_zero j h l = each 0 j (omega (arith, counted)) l ∙ content_head (fields_of file) j ∙ by (dec_lt j 72)
      where
        by : Dec (j < 72) → head_byte (fields_of file) j ≡ 0
        by (yes mask) =
            let s = (j - 8) / 2 in
            let gone : N file ≤ s = omega arith in
            let none : mask_of (fields_of file) s ≡ 0 =
            eqb-true (mask_of (fields_of file) s) 0
            (right_half (ltb s (N file) && ltb (mask_of (fields_of file) s) (2 ^ A file)) (eqb (mask_of (fields_of file) s) 0)
            (ap (λ (b : Bool). b && ltb (mask_of (fields_of file) s) (2 ^ A file)) (le-ltb s (N file) gone))
            (mask_at_right (fields_of file) right s (omega arith))) in
            head_rest (fields_of file) j (omega arith) ∙ ap (λ (x : ℕ). byte_of_two x ((j - 8) % 2)) none ∙ byte_of_zero ((j - 8) % 2)
        by (no past) = past_masks file bytes j (omega arith)

    weights_zero : (s t : ℕ) → s < 7 * (blocks_in file - 1) → t < 32 → (N file ≤ s) ⊎ (N file ≤ t) → weight_at file s t ≡ 0
    unfolding fields_of
    weights_zero s t l k out = by (dec_lt s 32)
      where
        by : Dec (s < 32) → weight_at file s t ≡ 0
        by (yes small) = sym (weight_of_file file bytes s t small k)
            ∙ weight_past (fields_of file) right s t small k (not_both s t (N file) out)
        by (no past) = zero_two (byte_there file (omega arith) ∙ row_zero 0 (omega arith)) (row_zero 1 (omega arith))
          where
            row_zero : (b : ℕ) → b < 2 → byte_of file (1 + s / 7) (2 + 64 * (s % 7) + 2 * t + b) ≡ 0
            row_zero b lb =
                each_row (1 + s / 7) (2 + 64 * (s % 7) + 2 * t + b) (omega arith) (omega arith) (omega arith) ∙
                past_rows file bytes (1 + s / 7) (2 + 64 * (s % 7) + 2 * t + b) (omega arith) (omega arith) (omega arith)

    laid_words : LaidOut file
    unfolding fields_of
    laid_words =
        let some : 0 < blocks_in file = omega (arith, counted) in
        record {
          first = each 0 0 some (omega arith) ∙ head_first file bytes;
          states = (states_some (fields_of file) right, states_few (fields_of file) right);
          labels = (labels_some (fields_of file) right, labels_few (fields_of file) right);
          version = version_few (fields_of file) right;
          sums = (total_some (fields_of file) right, total_few (fields_of file) right);
          masks = masks_right;
          rest = rest_zero;
          marks = λ i one l. (
            each_row i 0 one l (omega arith) ∙ row_first file bytes i,
            each_row i 1 one l (omega arith)
                ∙ row_second file bytes i,
          );
          weights = weights_zero;
          ends = λ i j one l low high. each_row i j one l high ∙ row_end (fields_of file) i j low;
          count = counted;
        }

  -- ---- and what is so in words is laid out

  module _ (whole : length file ≡ 512 * blocks_in file) (w : LaidOut file) where
    -- past the file's end every byte is 0
    past_end : (i j : ℕ) → blocks_in file ≤ i → byte_of file i j ≡ 0
    past_end i j h = get_or-eq_default file 0 (omega (arith, whole))

    -- masks from N on are zero
    no_mask_there : (s : ℕ) → N file ≤ s → s < 32 → mask_at file s ≡ 0
    no_mask_there s h l = zero_two (w.rest (8 + 2 * s) (omega arith) (omega arith)) (w.rest (8 + 2 * s + 1) (omega arith) (omega arith))

    -- so are weights in rows and columns from N on
    no_weight_there : (s t : ℕ) → s < 32 → t < 32 → (N file ≤ s) ⊎ (N file ≤ t) → weight_at file s t ≡ 0
    no_weight_there s t l k out = by (dec_lt s (7 * (blocks_in file - 1)))
      where
        by : Dec (s < 7 * (blocks_in file - 1)) → weight_at file s t ≡ 0
        by (yes there) = w.weights s t there k out
        by (no past) =
            let over : blocks_in file ≤ 1 + s / 7 = omega (arith, w.count) in
            zero_two (past_end (1 + s / 7) (2 + 64 * (s % 7) + 2 * t) over) (past_end (1 + s / 7) (2 + 64 * (s % 7) + 2 * t + 1) over)

    mask_fits : (s : ℕ) → s < 32 → mask_right (fields_of file) s ≡ true
    unfolding fields_of
    mask_fits s l = rw (mask_of_file file bytes s l) (by (dec_lt s (N file)))
      where
        by : Dec (s < N file) → (ltb s (N file) && ltb (mask_at file s) (2 ^ A file) || eqb (mask_at file s) 0) ≡ true
        by (yes below) = rw (lt-ltb s (N file) below, lt-ltb (mask_at file s) (2 ^ A file) (w.masks s below)) refl
        by (no past) = rw (le-ltb s (N file) (omega arith)) (eq-eqb (mask_at file s) 0 (no_mask_there s (omega arith) l))

    weight_fits : (s t : ℕ) → s < 32 → t < 32 → weight_right (fields_of file) s t ≡ true
    unfolding fields_of
    weight_fits s t l k = rw (weight_of_file file bytes s t l k) (by (dec_lt s (N file)) (dec_lt t (N file)))
      where
        past : (N file ≤ s) ⊎ (N file ≤ t) → (ltb s (N file) && ltb t (N file) || eqb (weight_at file s t) 0) ≡ true
        past out = rw (not_both s t (N file) out) (eq-eqb (weight_at file s t) 0 (no_weight_there s t l k out))

        by : Dec (s < N file) → Dec (t < N file) → (ltb s (N file) && ltb t (N file) || eqb (weight_at file s t) 0) ≡ true
        by (yes a) (yes b) = rw (lt-ltb s (N file) a, lt-ltb t (N file) b) refl
        by (yes a) (no b) = past (inr (omega arith))
        by (no a) d = past (inl (omega arith))

    fits : fields_right (fields_of file) ≡ true
    unfolding fields_right fields_of
    fits =
        and_true
        (and_true
        (and_true
        (and_true (and_true (bounded 1 32 (N file) w.states) (bounded 1 16 (A file) w.labels)) (bounded 1 65535 (D file) w.sums))
        (le-leb (version_of file) 1 w.version))
        (every_all 32 (mask_right (fields_of file)) mask_fits))
        (every_all 32 (λ s. every_below 32 (weight_right (fields_of file) s))
        (λ s l. every_all 32 (weight_right (fields_of file) s) (λ t k. weight_fits s t l k)))

    -- block 0
    head_there : (j : ℕ) → j < 510 → byte_of file 0 j ≡ content_byte (fields_of file) 0 j
    head_there = head_stands file bytes w.first (λ k l. w.rest (72 + k) (omega (arith, w.states.1)) (omega arith))

    -- a byte of a row from 32 on
    row_there : (i j : ℕ) → 1 ≤ i → i < blocks_in file → 2 ≤ j → j < 450 → 32 ≤ 7 * (i - 1) + (j - 2) / 64 → byte_of file i j ≡ 0
    row_there i j one l h k past =
        let s = 7 * (i - 1) + (j - 2) / 64 in
        let t = (j - 2) % 64 / 2 in
        let both = two_zero (byte_of file (1 + s / 7) (2 + 64 * (s % 7) + 2 * t)) (byte_of file (1 + s / 7) (2 + 64 * (s % 7) + 2 * t + 1))
        (w.weights s t (omega arith) (omega arith) (inl (omega (arith, w.states.1)))) in
        by (dec_lt ((j - 2) % 2) 1) both.0 both.1
      where
        by : Dec ((j - 2) % 2 < 1) →
            byte_of file (1 + (7 * (i - 1) + (j - 2) / 64) / 7) (2 + 64 * ((7 * (i - 1) + (j - 2) / 64) % 7) + 2 * ((j - 2) % 64 / 2)) ≡ 0 →
            byte_of file (1 + (7 * (i - 1) + (j - 2) / 64) / 7)
            (2 + 64 * ((7 * (i - 1) + (j - 2) / 64) % 7) + 2 * ((j - 2) % 64 / 2) + 1) ≡ 0 →
            byte_of file i j ≡ 0
        by (yes low) a b = byte_there file (omega arith) ∙ a
        by (no high) a b = byte_there file (omega arith) ∙ b

    -- block i, whose rows that the record has room for end at byte z
    block_there : (i z : ℕ) → 1 ≤ i → i < blocks_in file → 2 ≤ z → z ≤ 450 →
        ((j : ℕ) → 2 ≤ j → j < z → 7 * (i - 1) + (j - 2) / 64 < 32) → ((j : ℕ) → z ≤ j → j < 450 → 32 ≤ 7 * (i - 1) + (j - 2) / 64) →
        (j : ℕ) → j < 510 → byte_of file i j ≡ content_byte (fields_of file) i j
    block_there i z one l low high room past =
        row_stands file bytes i z one low high room past (w.marks i one l).0 (w.marks i one l).1 zeros
      where
        zeros : (k : ℕ) → k < 510 - z → byte_of file i (z + k) ≡ 0
        zeros k m = by (dec_lt (z + k) 450)
          where
            by : Dec (z + k < 450) → byte_of file i (z + k) ≡ 0
            by (yes row) = row_there i (z + k) one l (omega arith) row (past (z + k) (omega arith) row)
            by (no more) = w.ends i (z + k) one l (omega arith) (omega arith)

    all_there : (i : ℕ) → i < blocks_in file → (j : ℕ) → j < 510 → byte_of file i j ≡ content_byte (fields_of file) i j
    all_there zero l = head_there
    all_there (suc i) l = by (dec_lt (suc i) 5)
      where
        by : Dec (suc i < 5) → (j : ℕ) → j < 510 → byte_of file (suc i) j ≡ content_byte (fields_of file) (suc i) j
        by (yes few) = block_there (suc i) 450 (omega arith) l (omega arith) (omega arith) (λ j h k. omega arith)
            (λ j h k. absurd (omega arith))
        by (no last) =
            let fifth : i ≡ 4 = omega (arith, w.count, w.states.1) in
            block_there (suc i) 258 (omega arith) l (omega arith) (omega arith) (λ j h k. omega arith) (λ j h k. omega arith)

    words_laid : laid_out file (fields_of file) ≡ true
    unfolding laid_out fields_of
    words_laid =
        and_true (and_true fits (eq-eqb (blocks_in file) (blocks (N file)) w.count))
        (every_all (blocks_in file) (λ i. every_below 510 (λ j. eqb (byte_of file i j) (content_byte (fields_of file) i j)))
        (λ i l. every_all 510 (λ j. eqb (byte_of file i j) (content_byte (fields_of file) i j))
        (λ j k. eq-eqb (byte_of file i j) (content_byte (fields_of file) i j) (all_there i l j k))))

-- a file of right length is whole blocks
whole_blocks : (file : List ℕ) → length_right file ≡ true → length file ≡ 512 * blocks_in file
unfolding length_right
whole_blocks file e =
    let whole : length file % 512 ≡ 0 =
    eqb-true (length file % 512) 0 (left_of (eqb (length file % 512) 0) (within 512 3072 (length file)) e) in
    omega arith

-- row 4, which is stated by `laid_out`, asks what the document's sentences on the layout ask, of every file of bytes to which row 2
-- does not apply
pub row_4_in_words : (file : List ℕ) → Bytes file → length_right file ≡ true → (laid_out file (fields_of file) ≡ true) ↔ LaidOut file
row_4_in_words file bytes long = (laid_words file bytes, words_laid file bytes (whole_blocks file long))

-- ---- row 5

module _ (file : List ℕ) (bytes : Bytes file) (e : laid_out file (fields_of file) ≡ true) where
  few : N file ≤ 32
  unfolding fields_of
  few = states_few (fields_of file) (laid_fields file (fields_of file) e)

  -- a row of the record is the row of the file
  same_sum : (s : ℕ) → s < 32 → sum_below 32 (weight_of (fields_of file) s) ≡ sum_below 32 (weight_at file s)
  same_sum s l = sum_same 32 (λ t k. weight_of_file file bytes s t l k)

  -- the tests of one state's row, without that of its number
  adds_or_halted : (s : ℕ) → s < N file → (leb (N file) s || adds_up (fields_of file) s || halted (fields_of file) s) ≡ true →
      (sum_below 32 (weight_at file s) ≡ D file) ⊎ ((version_of file ≡ 1) × ((t : ℕ) → t < 32 → weight_at file s t ≡ 0))
  unfolding fields_of
  adds_or_halted s l h = by (tested (adds_up (fields_of file) s))
    where
      low : s < 32
      low = omega (arith, few)

      by : Tested (adds_up (fields_of file) s) →
          (sum_below 32 (weight_at file s) ≡ D file) ⊎ ((version_of file ≡ 1) × ((t : ℕ) → t < 32 → weight_at file s t ≡ 0))
      by (holds up) = inl (sym (same_sum s low) ∙ eqb-true (sum_below 32 (weight_of (fields_of file) s)) (D file) up)
      by (fails off) =
          let rest = right_half (leb (N file) s || adds_up (fields_of file) s) (halted (fields_of file) s)
          (rw (lt-leb (N file) s l) off) h in
          let front = left_of (ltb s (N file) && eqb (version_of file) 1) (empty_row (fields_of file) s) rest in
          let empty = right_of (ltb s (N file) && eqb (version_of file) 1) (empty_row (fields_of file) s) rest in
          inr (
            eqb-true (version_of file) 1 (right_of (ltb s (N file)) (eqb (version_of file) 1) front),
            λ t k.
                sym (weight_of_file file bytes s t low k) ∙
                eqb-true (weight_of (fields_of file) s t) 0 (every_at 32 (λ t. eqb (weight_of (fields_of file) s t) 0) empty t k),
          )

  rows_words : rows_right (fields_of file) ≡ true → AddUp file
  unfolding rows_right fields_of
  rows_words right s l =
      adds_or_halted s l
      (every_at 32 (λ s. leb (N file) s || adds_up (fields_of file) s || halted (fields_of file) s) right s (omega (arith, few)))

  words_rows : AddUp file → rows_right (fields_of file) ≡ true
  unfolding rows_right fields_of
  words_rows w =
      every_all 32 (λ s. leb (N file) s || adds_up (fields_of file) s || halted (fields_of file) s) (λ s low. by s low (dec_lt s (N file)))
    where
      of : (s : ℕ) → s < 32 → s < N file →
          (sum_below 32 (weight_at file s) ≡ D file) ⊎ ((version_of file ≡ 1) × ((t : ℕ) → t < 32 → weight_at file s t ≡ 0)) →
          (adds_up (fields_of file) s || halted (fields_of file) s) ≡ true
      of s low l (inl up) =
          ap (λ (b : Bool). b || halted (fields_of file) s)
          (eq-eqb (sum_below 32 (weight_of (fields_of file) s)) (D file) (same_sum s low ∙ up))
      of s low l (inr (one, none)) =
          either (adds_up (fields_of file) s) (halted (fields_of file) s)
          (and_true (and_true (lt-ltb s (N file) l) (eq-eqb (version_of file) 1 one))
          (every_all 32 (λ t. eqb (weight_of (fields_of file) s t) 0)
          (λ t k. eq-eqb (weight_of (fields_of file) s t) 0 (weight_of_file file bytes s t low k ∙ none t k))))

      by : (s : ℕ) → s < 32 → Dec (s < N file) → (leb (N file) s || adds_up (fields_of file) s || halted (fields_of file) s) ≡ true
      by s low (yes l) =
          ap (λ (b : Bool). b || adds_up (fields_of file) s || halted (fields_of file) s) (lt-leb (N file) s l) ∙ of s low l (w s l)
      by s low (no past) =
          ap (λ (b : Bool). b || adds_up (fields_of file) s || halted (fields_of file) s) (le-leb (N file) s (omega arith))

-- row 5, which is stated by `rows_right`, asks what the documents' sentences on rows ask, of every file of bytes to which row 4 does not
-- apply
pub row_5_in_words : (file : List ℕ) → Bytes file → laid_out file (fields_of file) ≡ true → (rows_right (fields_of file) ≡ true) ↔ AddUp
    file
row_5_in_words file bytes laid = (rows_words file bytes laid, words_rows file bytes laid)
