-- A file of any size is judged by its first bytes: 3,073 of the model, 402 of the sentence. What is handed on is the whole, or
-- both it and the whole are over the limit, where document 01 gives one number whatever else stands there: 2 for a model file
-- of over 3,072 bytes; for a text of over 400 bytes 6, unless a smaller number applies, and those ask the model alone.
-- Assumes nothing.
use Prim.Native.Nat.{ℕ, ◌-◌, ◌≤◌, ◌<◌}
use mathlib.Core.Bool.{Bool, true, false, cond}
use mathlib.Core.List.{List}
use mathlib.Core.Path.{◌≡◌, ap}
use native.Mathlib.Omega.{arith}
use borrow.Author.Tests.{leb-true, leb-false}
use lib.Dec.{leb, eqb}
use lib.ListN.{length, get_or, take}
use lib.Seq.{take_all, length-take-le}
use Rattle.counting.proofs.Laws.{Tested, holds, fails, tested}
use Rattle.lines.specs.Texts.{without_newline}

-- two byte strings are equal, or both are over the limit
pub data Alike (limit : ℕ) (a b : List ℕ) : Type 0 where
  same : a ≡ b → Alike limit a b
  over : limit < length a → limit < length b → Alike limit a b

-- the first 3,073 bytes of a model file are as good as all
pub model_enough : (file : List ℕ) → Alike 3072 (take 3073 file) file
model_enough file = by (tested (leb (length file) 3073))
  where
    by : Tested (leb (length file) 3073) → Alike 3072 (take 3073 file) file
    by (holds e) = same (take_all 3073 file (leb-true (length file) 3073 e))
    by (fails e) = let more = leb-false (length file) 3073 e in over (omega (arith, length-take-le 3073 file (omega arith))) (omega arith)

-- without its newline a file is at most one byte shorter
shorter : (file : List ℕ) → length file - 1 ≤ length (without_newline file)
unfolding without_newline
shorter file = by (eqb (get_or file (length file - 1) 0) 10)
  where
    by : (b : Bool) → length file - 1 ≤ length (cond b (take (length file - 1) file) file)
    by true = omega (arith, length-take-le (length file - 1) file (omega arith))
    by false = omega arith

-- the first 402 bytes of a sentence's file are as good as all
pub text_enough : (file : List ℕ) → Alike 400 (without_newline (take 402 file)) (without_newline file)
text_enough file = by (tested (leb (length file) 402))
  where
    by : Tested (leb (length file) 402) → Alike 400 (without_newline (take 402 file)) (without_newline file)
    by (holds e) = same (ap without_newline (take_all 402 file (leb-true (length file) 402 e)))
    by (fails e) =
        let more = leb-false (length file) 402 e in
        over (omega (arith, length-take-le 402 file (omega arith), shorter (take 402 file))) (omega (arith, shorter file))
