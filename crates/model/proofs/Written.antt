-- What the writer's stores leave: a block with its check, then block after block.
use Prim.Native.Nat.{ℕ, zero, suc, ◌+◌, ◌-◌, ◌*◌, ◌/◌, ◌%◌, ◌<◌, ◌≤◌}
use mathlib.Core.Bool.{Bool, cond}
use mathlib.Core.List.{List, ◌++◌, append_assoc}
use mathlib.Core.Path.{◌≡◌, refl, sym, ap, ap₂, ◌∙◌}
use native.Mathlib.Omega.{arith}
use native.Mathlib.Numerals.{add-one}
use borrow.Author.Tests.{lt-ltb}
use borrow.Rule.Slice.PartMut.{put_mid}
use lib.Seq.{take_at, drop_at, drop-drop}
use lib.ListN.{length, get_or, set, take, drop, length-append, get_or-append}
use Rattle.counting.specs.Below.{table}
use Rattle.counting.proofs.Laws.{length_table, table_at, table_same, Fronted, fronted_next, fronted_all, tail_back, tail_lent}
use Rattle.refusal.specs.Answers.{at_front}
use Rattle.block.specs.Block.{byte_of, check_of, low_byte, high_byte}
use Rattle.block.proofs.Laws.{check_same}
use Rattle.model.specs.declared.Model.{Model}
use Rattle.model.specs.Layout.{byte_of_two, content_byte, byte_at, block_bytes, blocks_below}
use Rattle.model.proofs.Places.{byte_there}

module _ (m : Model) (i : ℕ) where
  -- before the check a block has its content
  pub byte_content : (j : ℕ) → j < 510 → byte_at m i j ≡ content_byte m i j
  unfolding byte_at
  byte_content j l = ap (λ (b : Bool). cond b (content_byte m i j) (byte_of_two (check_of (content_byte m i)) (j - 510))) (lt-ltb j 510 l)

  -- bytes 510 and 511
  pub byte_low : byte_at m i 510 ≡ low_byte (check_of (content_byte m i))
  unfolding byte_at
  byte_low = refl

  pub byte_high : byte_at m i 511 ≡ high_byte (check_of (content_byte m i))
  unfolding byte_at
  byte_high = refl

  -- a block has 512 bytes
  pub length_block : length (block_bytes m i) ≡ 512
  unfolding block_bytes
  length_block = length_table 512 (byte_at m i)

  -- the content at the front, then the two bytes of its check
  pub block_written : (before now : List ℕ) (check : ℕ) → 512 ≤ length before → length now ≡ length before →
      now ≡ table 510 (content_byte m i) ++ drop 510 before → check ≡ check_of (byte_of now 0) →
      set (set now 510 (check % 256)) 511 (check / 256 % 256) ≡ at_front (block_bytes m i) before
  unfolding block_bytes
  block_written before now check room long held e =
      fronted_all (fronted_next (fronted_next content (omega arith) room low) (omega arith) room high) (omega arith) ∙
      ap (λ (k : ℕ). table 512 (byte_at m i) ++ drop k before) (sym length_block)
    where
      content : Fronted 512 (byte_at m i) before 510 now
      content = record {
        up_to = omega arith;
        long = long;
        held = held ∙ ap (λ (l : List ℕ). l ++ drop 510 before)
            (table_same 510 (content_byte m i) (byte_at m i) 0 (λ j l. sym (byte_content j l)));
      }

      right : check ≡ check_of (content_byte m i)
      right = e ∙ check_same (λ j l.
          byte_there now {there = j} (omega arith) ∙
          ap (λ (l : List ℕ). get_or l j 0) held ∙
          get_or-append (table 510 (content_byte m i)) (drop 510 before) 0 j
          (let k = length_table 510 (content_byte m i) in
          omega arith) ∙
          table_at 510 (content_byte m i) 0 j l)

      low : check % 256 ≡ byte_at m i 510
      low = ap (λ (x : ℕ). x % 256) right ∙ sym byte_low

      high : check / 256 % 256 ≡ byte_at m i 511
      high = ap (λ (x : ℕ). x / 256 % 256) right ∙ sym byte_high

-- the blocks below i have 512 bytes each
pub length_blocks : (m : Model) (i : ℕ) → length (blocks_below m i) ≡ 512 * i
unfolding blocks_below
length_blocks m zero = refl
length_blocks m (suc i) = length-append (blocks_below m i) (block_bytes m i) ∙
    (let a = length_blocks m i in
    let b = length_block m i in
    omega arith)

module _ (m : Model) (before : List ℕ) where
  pub blocks_none : before ≡ at_front (blocks_below m 0) before
  unfolding blocks_below
  blocks_none = refl

  -- one more block, written at the front of the tail
  pub blocks_more : (i : ℕ) (now part : List ℕ) → now ≡ at_front (blocks_below m i) before →
      part ≡ at_front (block_bytes m i) (take (length now - 512 * i) (drop (512 * i) now)) →
      put_mid (512 * i) (length now - 512 * i) now part ≡ at_front (blocks_below m (i + 1)) before
  unfolding blocks_below
  blocks_more i now part held wrote =
      tail_back (512 * i) now part ∙
      ap₂ ◌++◌ front (wrote ∙ ap (λ (l : List ℕ). at_front (block_bytes m i) l) (tail_lent (512 * i) now ∙ rest) ∙ after) ∙
      sym (append_assoc (blocks_below m i) (block_bytes m i) (drop (512 * i + 512) before)) ∙
      ap (λ (k : ℕ). (blocks_below m i ++ block_bytes m i) ++ drop k before) (sym both) ∙
      ap (λ (k : ℕ). at_front (blocks_below m k) before) (sym (add-one i))
    where
      long : length (blocks_below m i) ≡ 512 * i
      long = length_blocks m i

      held' : now ≡ blocks_below m i ++ drop (512 * i) before
      held' = held ∙ ap (λ (k : ℕ). blocks_below m i ++ drop k before) long

      front : take (512 * i) now ≡ blocks_below m i
      front = ap (take (512 * i)) held' ∙ take_at (blocks_below m i) (drop (512 * i) before) (512 * i) long

      rest : drop (512 * i) now ≡ drop (512 * i) before
      rest = ap (drop (512 * i)) held' ∙ drop_at (blocks_below m i) (drop (512 * i) before) (512 * i) long

      after : at_front (block_bytes m i) (drop (512 * i) before) ≡ block_bytes m i ++ drop (512 * i + 512) before
      after = ap (λ (l : List ℕ). block_bytes m i ++ l)
          (ap (λ (k : ℕ). drop k (drop (512 * i) before)) (length_block m i) ∙ drop-drop 512 (512 * i) before)

      both : length (blocks_below m i ++ block_bytes m i) ≡ 512 * i + 512
      both = length-append (blocks_below m i) (block_bytes m i) ∙ ap₂ ◌+◌ long (length_block m i)
