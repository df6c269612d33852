-- Blocks of the same bytes have one check, and that of a block can be taken from its part of the file. Assumes nothing.
use Prim.Native.Nat.{ℕ, ◌+◌, ◌*◌, ◌%◌, ◌<◌}
use mathlib.Core.List.{List}
use mathlib.Core.Path.{◌≡◌, ap, ◌∙◌}
use lib.ListN.{get_or, drop}
use lib.Seq.{get_or-drop}
use Rattle.counting.specs.Below.{sum_below}
use Rattle.counting.proofs.Laws.{sum_same}
use Rattle.block.specs.Block.{byte_of, check_of}

-- the check looks at the bytes before it alone
pub check_same : {f g : ℕ → ℕ} → ((j : ℕ) → j < 510 → f j ≡ g j) → check_of f ≡ check_of g
unfolding check_of
check_same h = ap (λ (x : ℕ). x % 65521) (sum_same 510 (λ i l. ap (λ (x : ℕ). (i + 1) * x) (h i l)))

-- byte j of the file from a block on is byte j of the block
pub part_byte : {part : List ℕ} (file : List ℕ) (block j : ℕ) → part ≡ drop (512 * block) file → get_or part j 0 ≡ byte_of file block j
part_byte file block j e = ap (λ (s : List ℕ). get_or s j 0) e ∙ get_or-drop (512 * block) file j 0

-- the weighted sum over a block's part of the file gives the block's check
pub part_check : {part : List ℕ} {w : ℕ} (file : List ℕ) (block : ℕ) → part ≡ drop (512 * block) file →
    w ≡ sum_below 510 (λ i. (i + 1) * get_or part i 0) → w % 65521 ≡ check_of (byte_of file block)
unfolding check_of
part_check file block e f =
    ap (λ (x : ℕ). x % 65521)
    (f ∙ sum_same 510 (λ i l. ap (λ (x : ℕ). (i + 1) * x) (part_byte file block i e)))
