-- Which bytes of a file stand as the layout has them by themselves, because the fields are read from them, and which are
-- left to look at.
use Prim.Native.Nat.{ℕ, zero, suc, ◌+◌, ◌-◌, ◌*◌, ◌/◌, ◌%◌, ◌<◌, ◌≤◌}
use mathlib.Core.Bool.{Bool, true, false, cond, ◌&&◌}
use mathlib.Core.List.{List, [], ◌∷◌}
use mathlib.Core.Path.{◌≡◌, refl, sym, ap, ◌∙◌}
use native.Mathlib.Omega.{arith}
use native.Mathlib.Decide.{dec_lt}
use borrow.Author.Tests.{lt-ltb, le-ltb, eq-eqb, eqb-true}
use lib.Dec.{ltb, eqb}
use lib.ListN.{get_or, get_or-eq_default}
use Rattle.counting.specs.Below.{every_below, table}
use Rattle.counting.proofs.Laws.{table_at, length_table, every_at, every_all, same_truth, and_true, left_of, right_of}
use Rattle.block.specs.Block.{byte_of}
use Rattle.model.specs.declared.Model.{Model}
use Rattle.model.specs.Layout.{mask_of, weight_of, two_at, mask_at, weight_at, fields_of, byte_of_two, head_start, mask_byte, weight_byte}
use Rattle.model.specs.Layout.{head_byte, row_byte, content_byte}
use Rattle.model.proofs.Places.{byte_there}

-- a list of bytes
abbrev pub Bytes : List ℕ → Type 0
Bytes file = (k : ℕ) → get_or file k 0 < 256

-- a byte of 0 is 0
pub byte_of_zero : (k : ℕ) → byte_of_two 0 k ≡ 0
byte_of_zero k = go (ltb k 1)
  where
    go : (b : Bool) → cond {A = ℕ} b 0 0 ≡ 0
    go true = refl
    go false = refl

-- from byte 8 on block 0 has the masks
pub head_rest : (m : Model) (j : ℕ) → 8 ≤ j → head_byte m j ≡ mask_byte m (j - 8)
unfolding head_byte
head_rest m j h = get_or-eq_default (head_start m) (mask_byte m (j - 8)) h

-- from byte 2 on a row block has the rows, and zeros from byte 450 on
pub row_rest : (m : Model) (i j : ℕ) → 2 ≤ j → j < 450 → row_byte m i j ≡ weight_byte m (7 * (i - 1)) (j - 2)
unfolding row_byte
row_rest m i j h l =
    let row = weight_byte m (7 * (i - 1)) (j - 2) in
    get_or-eq_default (2 ∷ i ∷ []) (cond (ltb j 450) row 0) h ∙ ap (λ (b : Bool). cond b row 0) (lt-ltb j 450 l)

pub row_end : (m : Model) (i j : ℕ) → 450 ≤ j → row_byte m i j ≡ 0
unfolding row_byte
row_end m i j h =
    let row = weight_byte m (7 * (i - 1)) (j - 2) in
    let past : 2 ≤ j = omega arith in
    get_or-eq_default (2 ∷ i ∷ []) (cond (ltb j 450) row 0) past ∙ ap (λ (b : Bool). cond b row 0) (le-ltb j 450 h)

-- a block from 1 on is a row block
pub content_row : (m : Model) (i j : ℕ) → 1 ≤ i → content_byte m i j ≡ row_byte m i j
unfolding content_byte
content_row m zero j h = absurd (omega arith)
content_row m (suc i) j h = refl

pub content_head : (m : Model) (j : ℕ) → content_byte m 0 j ≡ head_byte m j
unfolding content_byte
content_head m j = refl

-- marks and some zeros are a test of every byte of a block
marks_and_zeros : (marks : Bool) (n : ℕ) (zeros : ℕ → Bool) (all : ℕ → Bool) →
    (marks ≡ true → ((k : ℕ) → k < n → zeros k ≡ true) → (j : ℕ) → j < 510 → all j ≡ true) →
    (((j : ℕ) → j < 510 → all j ≡ true) → marks ≡ true) →
    (((j : ℕ) → j < 510 → all j ≡ true) → (k : ℕ) → k < n → zeros k ≡ true) → (marks && every_below n zeros) ≡ every_below 510 all
marks_and_zeros marks n zeros all to first rest = same_truth (marks && every_below n zeros) (every_below 510 all)
    (λ h. every_all 510 all (to (left_of marks (every_below n zeros) h) (every_at n zeros (right_of marks (every_below n zeros) h))))
    (λ h.
    let each = every_at 510 all h in
    and_true (first each) (every_all n zeros (rest each)))

-- ---- of a file's own fields

module _ (file : List ℕ) (bytes : Bytes file) where
  -- byte j of block i is the one that the layout has there
  abbrev pub stands : ℕ → ℕ → Bool
  stands i j = eqb (byte_of file i j) (content_byte (fields_of file) i j)

  -- byte k of the number of two bytes that stands there
  byte_back : (i at k i' j : ℕ) → k < 2 → 512 * i + (at + k) ≡ 512 * i' + j → byte_of_two (two_at file i at) k ≡ byte_of file i' j
  byte_back i at zero i' j l there =
      let e : (byte_of file i at + 256 * byte_of file i (at + 1)) % 256 ≡ byte_of file i at = omega (arith, bytes (512 * i + at)) in
      e ∙ byte_there file (omega arith)
  byte_back i at (suc zero) i' j l there =
      let e : (byte_of file i at + 256 * byte_of file i (at + 1)) / 256 % 256 ≡ byte_of file i (at + 1) =
      omega (arith, bytes (512 * i + at), bytes (512 * i + (at + 1))) in
      e ∙ byte_there file (omega arith)
  byte_back i at (suc (suc k)) i' j l there = absurd (omega arith)

  pub mask_of_file : (s : ℕ) → s < 32 → mask_of (fields_of file) s ≡ mask_at file s
  unfolding fields_of
  mask_of_file s l = table_at 32 (mask_at file) 0 s l

  no_mask : (s : ℕ) → 32 ≤ s → mask_of (fields_of file) s ≡ 0
  unfolding fields_of
  no_mask s h = get_or-eq_default (table 32 (mask_at file)) 0 (omega (arith, length_table 32 (mask_at file)))

  pub weight_of_file : (s t : ℕ) → s < 32 → t < 32 → weight_of (fields_of file) s t ≡ weight_at file s t
  unfolding fields_of
  weight_of_file s t l k =
      ap (λ (row : List ℕ). get_or row t 0) (table_at 32 (λ s. table 32 (weight_at file s)) [] s l) ∙ table_at 32 (weight_at file s) 0 t k

  no_weight : (s t : ℕ) → 32 ≤ s → weight_of (fields_of file) s t ≡ 0
  unfolding fields_of
  no_weight s t h = ap (λ (row : List ℕ). get_or row t 0)
      (get_or-eq_default (table 32 (λ s. table 32 (weight_at file s))) []
      (omega (arith, length_table 32 (λ s. table 32 (weight_at file s)))))

  -- the masks' own bytes
  mask_byte_same : (j : ℕ) → 8 ≤ j → j < 72 → head_byte (fields_of file) j ≡ byte_of file 0 j
  mask_byte_same j h l =
      let s = (j - 8) / 2 in
      let small : s < 32 = omega arith in
      head_rest (fields_of file) j h ∙
      ap (λ (x : ℕ). byte_of_two x ((j - 8) % 2)) (mask_of_file s small) ∙
      byte_back 0 (8 + 2 * s) ((j - 8) % 2) 0 j (omega arith) (omega arith)

  -- past the masks of 32 states all is zero
  pub past_masks : (j : ℕ) → 72 ≤ j → head_byte (fields_of file) j ≡ 0
  past_masks j h =
      let gone : 32 ≤ (j - 8) / 2 = omega arith in
      head_rest (fields_of file) j (omega arith) ∙
      ap (λ (x : ℕ). byte_of_two x ((j - 8) % 2)) (no_mask ((j - 8) / 2) gone) ∙ byte_of_zero ((j - 8) % 2)

  -- the start: N, A, the version and D stand by themselves, and byte 0 is fixed
  start_byte : byte_of file 0 0 ≡ 1 → (j : ℕ) → j < 8 → byte_of file 0 j ≡ head_byte (fields_of file) j
  unfolding head_byte fields_of
  start_byte first zero l = first
  start_byte first (suc zero) l = refl
  start_byte first (suc (suc zero)) l = refl
  start_byte first (suc (suc (suc zero))) l = refl
  start_byte first (suc (suc (suc (suc zero)))) l = omega (arith, bytes 4, bytes 5, bytes 6, bytes 7)
  start_byte first (suc (suc (suc (suc (suc zero))))) l = omega (arith, bytes 4, bytes 5, bytes 6, bytes 7)
  start_byte first (suc (suc (suc (suc (suc (suc zero)))))) l = omega (arith, bytes 4, bytes 5, bytes 6, bytes 7)
  start_byte first (suc (suc (suc (suc (suc (suc (suc zero))))))) l = omega (arith, bytes 4, bytes 5, bytes 6, bytes 7)
  start_byte first (suc (suc (suc (suc (suc (suc (suc (suc j)))))))) l = absurd (omega arith)

  -- block 0 stands as the layout has it if its fixed byte and its zeros do
  pub head_stands : byte_of file 0 0 ≡ 1 → ((k : ℕ) → k < 438 → byte_of file 0 (72 + k) ≡ 0) →
      (j : ℕ) → j < 510 → byte_of file 0 j ≡ content_byte (fields_of file) 0 j
  head_stands first zeros j l = go (dec_lt j 8) (dec_lt j 72) ∙ sym (content_head (fields_of file) j)
    where
      go : Dec (j < 8) → Dec (j < 72) → byte_of file 0 j ≡ head_byte (fields_of file) j
      go (yes start) d = start_byte first j start
      go (no past) (yes mask) = sym (mask_byte_same j (omega arith) mask)
      go (no past) (no rest) =
          byte_there file (omega arith) ∙ zeros (j - 72) (omega arith) ∙ sym (past_masks j (omega arith))

  -- and only then
  pub head_first : content_byte (fields_of file) 0 0 ≡ 1
  unfolding head_byte fields_of content_byte
  head_first = refl

  head_zero : (k : ℕ) → content_byte (fields_of file) 0 (72 + k) ≡ 0
  head_zero k = content_head (fields_of file) (72 + k) ∙ past_masks (72 + k) (omega arith)

  -- a row's own bytes, of a state that the record has room for
  row_byte_same : (i j : ℕ) → 1 ≤ i → 2 ≤ j → j < 450 → 7 * (i - 1) + (j - 2) / 64 < 32 → row_byte (fields_of file) i j ≡ byte_of file i j
  row_byte_same i j one h l room =
      let s = 7 * (i - 1) + (j - 2) / 64 in
      let t = (j - 2) % 64 / 2 in
      let small : t < 32 = omega arith in
      let block : s / 7 ≡ i - 1 = omega arith in
      let place : s % 7 ≡ (j - 2) / 64 = omega arith in
      row_rest (fields_of file) i j h l ∙
      ap (λ (x : ℕ). byte_of_two x ((j - 2) % 2)) (weight_of_file s t room small) ∙
      byte_back (1 + s / 7) (2 + 64 * (s % 7) + 2 * t) ((j - 2) % 2) i j (omega arith) (omega arith)

  -- a row that the record has no room for is zero
  pub past_rows : (i j : ℕ) → 2 ≤ j → j < 450 → 32 ≤ 7 * (i - 1) + (j - 2) / 64 → row_byte (fields_of file) i j ≡ 0
  past_rows i j h l gone =
      row_rest (fields_of file) i j h l ∙
      ap (λ (x : ℕ). byte_of_two x ((j - 2) % 2)) (no_weight (7 * (i - 1) + (j - 2) / 64) ((j - 2) % 64 / 2) gone) ∙
      byte_of_zero ((j - 2) % 2)

  -- the test of block 0
  pub head_test : (eqb (byte_of file 0 0) 1 && every_below 438 (λ k. eqb (byte_of file 0 (72 + k)) 0)) ≡ every_below 510 (stands 0)
  head_test = marks_and_zeros (eqb (byte_of file 0 0) 1) 438 (λ k. eqb (byte_of file 0 (72 + k)) 0) (stands 0)
      (λ first zeros j l. eq-eqb _ _ (head_stands (eqb-true _ _ first) (λ k m. eqb-true _ _ (zeros k m)) j l))
      (λ all. eq-eqb _ _ (eqb-true _ _ (all 0 (omega arith)) ∙ head_first))
      (λ all k m. eq-eqb _ _ (eqb-true _ _ (all (72 + k) (omega arith)) ∙ head_zero k))

  pub row_first : (i : ℕ) → row_byte (fields_of file) i 0 ≡ 2
  unfolding row_byte
  row_first i = refl

  pub row_second : (i : ℕ) → row_byte (fields_of file) i 1 ≡ i
  unfolding row_byte
  row_second i = refl

  -- the rows of block i that the record has room for end at byte z
  module _ (i z : ℕ) (one : 1 ≤ i) (low : 2 ≤ z) (high : z ≤ 450)
      (room : (j : ℕ) → 2 ≤ j → j < z → 7 * (i - 1) + (j - 2) / 64 < 32)
      (past : (j : ℕ) → z ≤ j → j < 450 → 32 ≤ 7 * (i - 1) + (j - 2) / 64) where
    past_zero : (j : ℕ) → z ≤ j → row_byte (fields_of file) i j ≡ 0
    past_zero j h = go (dec_lt j 450)
      where
        go : Dec (j < 450) → row_byte (fields_of file) i j ≡ 0
        go (yes l) = past_rows i j (omega arith) l (past j h l)
        go (no more) = row_end (fields_of file) i j (omega arith)

    row_stands_at : byte_of file i 0 ≡ 2 → byte_of file i 1 ≡ i → ((k : ℕ) → k < 510 - z → byte_of file i (z + k) ≡ 0) →
        (j : ℕ) → j < 510 → byte_of file i j ≡ row_byte (fields_of file) i j
    row_stands_at first second zeros zero l = first ∙ sym (row_first i)
    row_stands_at first second zeros (suc zero) l = second ∙ sym (row_second i)
    row_stands_at first second zeros (suc (suc k)) l = go (suc (suc k)) (omega arith) l (dec_lt (suc (suc k)) z)
      where
        go : (j : ℕ) → 2 ≤ j → j < 510 → Dec (j < z) → byte_of file i j ≡ row_byte (fields_of file) i j
        go j h l (yes row) = sym (row_byte_same i j one h (omega arith) (room j h row))
        go j h l (no rest) =
            byte_there file (omega arith) ∙ zeros (j - z) (omega arith) ∙ sym (past_zero j (omega arith))

    -- block i stands as the layout has it if its first two bytes do, and its zeros
    pub row_stands : byte_of file i 0 ≡ 2 → byte_of file i 1 ≡ i → ((k : ℕ) → k < 510 - z → byte_of file i (z + k) ≡ 0) →
        (j : ℕ) → j < 510 → byte_of file i j ≡ content_byte (fields_of file) i j
    row_stands first second zeros j l = row_stands_at first second zeros j l ∙ sym (content_row (fields_of file) i j one)

    -- and only then
    block_first : content_byte (fields_of file) i 0 ≡ 2
    block_first = content_row (fields_of file) i 0 one ∙ row_first i

    block_second : content_byte (fields_of file) i 1 ≡ i
    block_second = content_row (fields_of file) i 1 one ∙ row_second i

    block_zero : (k : ℕ) → content_byte (fields_of file) i (z + k) ≡ 0
    block_zero k = content_row (fields_of file) i (z + k) one ∙ past_zero (z + k) (omega arith)

    -- the test of block i, whose zeros are looked for from byte z on
    pub row_test : (eqb (byte_of file i 0) 2 && eqb (byte_of file i 1) i && every_below (510 - z)
        (λ k. eqb (byte_of file i (z + k)) 0)) ≡ every_below
        510 (stands i)
    row_test =
        let first = eqb (byte_of file i 0) 2 in
        let second = eqb (byte_of file i 1) i in
        marks_and_zeros (first && second) (510 - z) (λ k. eqb (byte_of file i (z + k)) 0) (stands i)
        (λ marks zeros j l.
        eq-eqb _ _
        (row_stands (eqb-true _ _ (left_of first second marks)) (eqb-true _ _ (right_of first second marks))
        (λ k m. eqb-true _ _ (zeros k m)) j l))
        (λ all.
        and_true (eq-eqb _ _ (eqb-true _ _ (all 0 (omega arith)) ∙ block_first))
        (eq-eqb _ _ (eqb-true _ _ (all 1 (omega arith)) ∙ block_second)))
        (λ all k m. eq-eqb _ _ (eqb-true _ _ (all (z + k) (omega arith)) ∙ block_zero k))
