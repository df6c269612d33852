-- Both round trips of demand 2: writing what was read gives the same file, and reading what was written gives the same
-- model.
use Prim.Native.Nat.{ℕ, zero, suc, ◌+◌, ◌-◌, ◌*◌, ◌/◌, ◌%◌, ◌<◌, ◌≤◌}
use mathlib.Core.Bool.{Bool, true, ◌&&◌}
use mathlib.Core.List.{List, [], ◌++◌}
use mathlib.Core.Path.{◌≡◌, sym, ap, ap₂, subst, ◌∙◌}
use native.Mathlib.Omega.{arith}
use native.Mathlib.Decide.{dec_lt}
use borrow.Author.Tests.{le-ltb, eqb-true, eq-eqb, leb-true, le-leb}
use lib.Dec.{eqb, leb, ltb}
use lib.ListN.{length, get_or, get_or-append, get_or-eq_default}
use lib.Seq.{ext_get_or, get_or-append-add}
use Rattle.counting.specs.Below.{every_below, table}
use Rattle.counting.proofs.Laws.{table_at, table_is, every_at, every_all, left_of, right_of, and_true}
use Rattle.block.specs.Block.{byte_of, blocks_in, two, low_byte, high_byte, check_of, check_right, checks_right}
use Rattle.block.proofs.Laws.{check_same}
use Rattle.model.specs.declared.Model.{Model}
use Rattle.model.specs.Layout.{mask_of, weight_of, Shaped, two_at, four_at}
use Rattle.model.specs.Layout.{mask_at, weight_at, byte_of_two, head_byte, content_byte, byte_at}
use Rattle.model.specs.Layout.{block_bytes, blocks_below, blocks, file_of, fields_of}
use Rattle.model.specs.Rules.{length_right, fields_right, laid_out, rows_right}
use Rattle.model.specs.Contract.{file_number}
use Rattle.model.proofs.Places.{byte_there}
use Rattle.model.proofs.Rightness.{states_some, states_few, total_few, weight_past}
use Rattle.model.proofs.Answer.{number_0}
use Rattle.model.proofs.Standing.{head_rest, row_rest, content_head, content_row}
use Rattle.model.proofs.Written.{byte_content, byte_low, byte_high, length_blocks}

-- ---- the bytes of the file of a model

-- byte j of block i of the blocks below count
pub byte_of_blocks : (m : Model) (count i j : ℕ) → i < count → j < 512 → get_or (blocks_below m count) (512 * i + j) 0 ≡ byte_at m i j
unfolding blocks_below block_bytes
byte_of_blocks m zero i j l k = absurd (omega arith)
byte_of_blocks m (suc count) i j l k = go (λ less. byte_of_blocks m count i j less k) (dec_lt i count)
  where
    long : length (blocks_below m count) ≡ 512 * count
    long = length_blocks m count

    go : (i < count → get_or (blocks_below m count) (512 * i + j) 0 ≡ byte_at m i j) → Dec (i < count) →
        get_or (blocks_below m count ++ block_bytes m count) (512 * i + j) 0 ≡ byte_at m i j
    go rest (yes less) = get_or-append (blocks_below m count) (block_bytes m count) 0 (512 * i + j) (omega (arith, long)) ∙ rest less
    go rest (no more) =
        let last : count ≡ i = omega arith in
        ap (λ (at : ℕ). get_or (blocks_below m count ++ block_bytes m count) at 0) (omega (arith, long)) ∙
        get_or-append-add (blocks_below m count) (block_bytes m count) j 0 ∙
        table_at 512 (byte_at m count) 0 j k ∙
        ap (λ (b : ℕ). byte_at m b j) last

-- ---- writing what was read

module _ (file : List ℕ) (long : length_right file ≡ true) (checks : checks_right file ≡ true) (m : Model)
    (laid : laid_out file m ≡ true) where
  whole : (length file % 512 ≡ 0) × (512 ≤ length file)
  unfolding length_right
  whole =
      let size = right_of (eqb (length file % 512) 0) _ long in (
        eqb-true _ _ (left_of (eqb (length file % 512) 0) _ long),
        leb-true 512 (length file) (left_of (leb 512 (length file)) (leb (length file) 3072) size),
      )

  abbrev content_stands : Bool
  content_stands = every_below (blocks_in file) (λ i. every_below 510 (λ j. eqb (byte_of file i j) (content_byte m i j)))

  count : blocks_in file ≡ blocks m.n
  unfolding laid_out
  count = eqb-true _ _
      (right_of (fields_right m) (eqb (blocks_in file) (blocks m.n))
      (left_of (fields_right m && eqb (blocks_in file) (blocks m.n)) content_stands laid))

  content : (i j : ℕ) → i < blocks_in file → j < 510 → byte_of file i j ≡ content_byte m i j
  unfolding laid_out
  content i j l k = eqb-true _ _
      (every_at 510 (λ j. eqb (byte_of file i j) (content_byte m i j))
      (every_at (blocks_in file) (λ i. every_below 510 (λ j. eqb (byte_of file i j) (content_byte m i j)))
      (right_of (fields_right m && eqb (blocks_in file) (blocks m.n)) content_stands laid) i l) j k)

  one_check : (i : ℕ) → i < blocks_in file → check_of (byte_of file i) ≡ check_of (content_byte m i)
  one_check i l = check_same (λ j k. content i j l k)

  right_check : (i : ℕ) → i < blocks_in file → check_right (byte_of file i) ≡ true
  right_check i l = every_at (blocks_in file) (λ i. check_right (byte_of file i)) checks i l

  -- the two bytes of the check
  both_checks : (i : ℕ) → i < blocks_in file → (byte_of file i 510 ≡ byte_at m i 510) × (byte_of file i 511 ≡ byte_at m i 511)
  both_checks i l =
      let low = eqb (byte_of file i 510) (low_byte (check_of (byte_of file i))) in
      let high = eqb (byte_of file i 511) (high_byte (check_of (byte_of file i))) in (
        eqb-true _ _ (left_of low high (right_check i l)) ∙ ap low_byte (one_check i l) ∙ sym (byte_low m i),
        eqb-true _ _ (right_of low high (right_check i l)) ∙ ap high_byte (one_check i l) ∙ sym (byte_high m i),
      )

  -- every byte of the file is the one that the layout has
  stands_all : (i j : ℕ) → i < blocks_in file → j < 512 → byte_of file i j ≡ byte_at m i j
  stands_all i j l k = go (dec_lt j 510) (dec_lt j 511)
    where
      go : Dec (j < 510) → Dec (j < 511) → byte_of file i j ≡ byte_at m i j
      go (yes c) d = content i j l c ∙ sym (byte_content m i j c)
      go (no past) (yes c) =
          let e : 510 ≡ j = omega arith in
          subst (λ (j : ℕ). byte_of file i j ≡ byte_at m i j) e (both_checks i l).0
      go (no past) (no last) =
          let e : 511 ≡ j = omega arith in
          subst (λ (j : ℕ). byte_of file i j ≡ byte_at m i j) e (both_checks i l).1

  -- writing what was read gives the same file
  pub written_back : file_of m ≡ file
  written_back =
      let w = whole in
      let c = count in
      let size = length_blocks m (blocks m.n) in
      ext_get_or 0 (file_of m) file (omega arith)
      (λ k l.
      let i = k / 512 in
      let j = k % 512 in
      byte_there (file_of m) (omega arith) ∙ byte_of_blocks m (blocks m.n) i j (omega arith) (omega arith) ∙
      sym (stands_all i j (omega arith) (omega arith)) ∙ byte_there file (omega arith))

-- ---- reading what was written

module _ (m : Model) (right : fields_right m ≡ true) (sums : rows_right m ≡ true) where
  -- byte j of block i of the file, and 0 past its end
  byte_written : (i j : ℕ) → i < blocks m.n → j < 512 → byte_of (file_of m) i j ≡ byte_at m i j
  byte_written i j l k = byte_of_blocks m (blocks m.n) i j l k

  past_written : (i j : ℕ) → blocks m.n ≤ i → byte_of (file_of m) i j ≡ 0
  past_written i j h =
      let size = length_blocks m (blocks m.n) in
      let past : length (file_of m) ≤ 512 * i + j = omega arith in
      get_or-eq_default (file_of m) 0 past

  content_written : (i j : ℕ) → i < blocks m.n → j < 510 → byte_of (file_of m) i j ≡ content_byte m i j
  content_written i j l k = byte_written i j l (omega arith) ∙ byte_content m i j k

  -- the length is right
  length_written : length_right (file_of m) ≡ true
  unfolding length_right
  length_written =
      let size = length_blocks m (blocks m.n) in
      let some = states_some m right in
      let few = states_few m right in
      and_true (eq-eqb (length (file_of m) % 512) 0 (omega arith))
      (and_true (le-leb 512 (length (file_of m)) (omega arith)) (le-leb (length (file_of m)) 3072 (omega arith)))

  blocks_written : blocks_in (file_of m) ≡ blocks m.n
  blocks_written =
      let size = length_blocks m (blocks m.n) in
      omega arith

  -- the checks are right
  checks_written : checks_right (file_of m) ≡ true
  checks_written = every_all (blocks_in (file_of m)) (λ i. check_right (byte_of (file_of m) i))
      (λ i l.
      let c = blocks_written in
      let less : i < blocks m.n = omega arith in
      let same = check_same {f = content_byte m i} {g = byte_of (file_of m) i} (λ j k. sym (content_written i j less k)) in
      and_true
      (eq-eqb (byte_of (file_of m) i 510) (low_byte (check_of (byte_of (file_of m) i)))
      (byte_written i 510 less (omega arith) ∙ byte_low m i ∙ ap low_byte same))
      (eq-eqb (byte_of (file_of m) i 511) (high_byte (check_of (byte_of (file_of m) i)))
      (byte_written i 511 less (omega arith) ∙ byte_high m i ∙ ap high_byte same)))

  -- the layout is right
  laid_written : laid_out (file_of m) m ≡ true
  unfolding laid_out
  laid_written = and_true (and_true right (eq-eqb _ _ blocks_written))
      (every_all (blocks_in (file_of m)) (λ i. every_below 510 (λ j. eqb (byte_of (file_of m) i j) (content_byte m i j)))
      (λ i l. every_all 510 (λ j. eqb (byte_of (file_of m) i j) (content_byte m i j)) (λ j k. eq-eqb _ _ (content_written i j
      (let c = blocks_written in
      omega arith) k))))

  -- ---- the fields

  head_written : (j : ℕ) → j < 510 → byte_of (file_of m) 0 j ≡ head_byte m j
  head_written j l =
      let some = states_some m right in
      content_written 0 j (omega arith) l ∙ content_head m j

  -- a number of two bytes is read where its two bytes stand
  two_written : (i at x : ℕ) → x < 65536 → ((k : ℕ) → k < 2 → byte_of (file_of m) i (at + k) ≡ byte_of_two x k) →
      two_at (file_of m) i at ≡ x
  two_written i at x fits there =
      ap₂ two (byte_there (file_of m) (omega arith) ∙ there 0 (omega arith)) (there 1 (omega arith)) ∙ omega arith

  -- the byte of the layout at a place is byte k of the number that stands there
  mask_there : (s k : ℕ) → s < 32 → k < 2 → byte_of (file_of m) 0 (8 + 2 * s + k) ≡ byte_of_two (mask_of m s) k
  mask_there s k l h =
      let state : (8 + 2 * s + k - 8) / 2 ≡ s = omega arith in
      let byte : (8 + 2 * s + k - 8) % 2 ≡ k = omega arith in
      head_written (8 + 2 * s + k) (omega arith) ∙ head_rest m (8 + 2 * s + k) (omega arith) ∙
      ap₂ (λ (s k : ℕ). byte_of_two (mask_of m s) k) state byte

  mask_written : (s : ℕ) → s < 32 → mask_of m s < 65536 → mask_at (file_of m) s ≡ mask_of m s
  mask_written s l fits = two_written 0 (8 + 2 * s) (mask_of m s) fits (λ k h. mask_there s k l h)

  weight_there : (s t k : ℕ) → s < 32 → t < 32 → k < 2 → 1 + s / 7 < blocks m.n →
      byte_of (file_of m) (1 + s / 7) (2 + 64 * (s % 7) + 2 * t + k) ≡ byte_of_two (weight_of m s t) k
  weight_there s t k l h b block =
      let at = 2 + 64 * (s % 7) + 2 * t + k in
      let state : 7 * (1 + s / 7 - 1) + (at - 2) / 64 ≡ s = omega arith in
      let column : (at - 2) % 64 / 2 ≡ t = omega arith in
      let byte : (at - 2) % 2 ≡ k = omega arith in
      content_written (1 + s / 7) at block (omega arith) ∙ content_row m (1 + s / 7) at (omega arith) ∙
      row_rest m (1 + s / 7) at (omega arith) (omega arith) ∙
      ap₂ (λ (x k : ℕ). byte_of_two x k) (ap₂ (weight_of m) state column) byte

  weight_written : (s t : ℕ) → s < 32 → t < 32 → weight_of m s t < 65536 → weight_at (file_of m) s t ≡ weight_of m s t
  weight_written s t l k fits = go (dec_lt (1 + s / 7) (blocks m.n))
    where
      go : Dec (1 + s / 7 < blocks m.n) → weight_at (file_of m) s t ≡ weight_of m s t
      go (yes block) =
          two_written (1 + s / 7) (2 + 64 * (s % 7) + 2 * t) (weight_of m s t) fits (λ b h. weight_there s t b l k h block)
      go (no past) =
          let gone : blocks m.n ≤ 1 + s / 7 = omega arith in
          let out : m.n ≤ s = omega arith in
          ap₂ two (past_written (1 + s / 7) (2 + 64 * (s % 7) + 2 * t) gone)
          (past_written (1 + s / 7) (2 + 64 * (s % 7) + 2 * t + 1) gone) ∙
          sym (weight_past m right s t l k (ap (λ (b : Bool). b && ltb t m.n) (le-ltb s m.n out)))

  total_written : four_at (file_of m) 0 4 ≡ m.d
  unfolding head_byte
  total_written =
      let few = total_few m right in
      ap₂ (λ (low high : ℕ). low + 65536 * high)
      (ap₂ two (head_written 4 (omega arith)) (head_written 5 (omega arith)))
      (ap₂ two (head_written 6 (omega arith)) (head_written 7 (omega arith))) ∙
      omega arith

  states_written : byte_of (file_of m) 0 1 ≡ m.n
  unfolding head_byte
  states_written = head_written 1 (omega arith)

  labels_written : byte_of (file_of m) 0 2 ≡ m.a
  unfolding head_byte
  labels_written = head_written 2 (omega arith)

  version_written : byte_of (file_of m) 0 3 ≡ m.version
  unfolding head_byte
  version_written = head_written 3 (omega arith)

  masks_written : Shaped m → table 32 (mask_at (file_of m)) ≡ m.masks
  masks_written shaped = sym (table_is 32 (mask_at (file_of m)) 0 m.masks shaped.masks (λ s l. sym (mask_written s l (shaped.mask s))))

  rows_written : Shaped m → table 32 (λ s. table 32 (weight_at (file_of m) s)) ≡ m.weights
  rows_written shaped = sym (table_is 32 (λ s. table 32 (weight_at (file_of m) s)) [] m.weights shaped.rows
      (λ s l. table_is 32 (weight_at (file_of m) s) 0 (get_or m.weights s []) (shaped.row s l)
      (λ t k. sym (weight_written s t l k (shaped.weight s t)))))

  -- reading what was written gives the same model
  pub fields_written : Shaped m → fields_of (file_of m) ≡ m
  unfolding fields_of
  fields_written shaped = λ i. record {
    n = states_written i;
    a = labels_written i;
    d = total_written i;
    version = version_written i;
    masks = masks_written shaped i;
    weights = rows_written shaped i;
  }

  -- and no row applies to the file
  pub file_written : Shaped m → file_number (file_of m) ≡ 0
  file_written shaped =
      let back = sym (fields_written shaped) in
      number_0 (file_of m) length_written checks_written
      (subst (λ (x : Model). laid_out (file_of m) x ≡ true) back laid_written)
      (subst (λ (x : Model). rows_right x ≡ true) back sums)
