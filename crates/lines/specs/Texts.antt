-- Document 01: 'one final newline of the sentence is dropped'.
use Rattle.std.specs.Prelude.{ℕ, ◌-◌, cond, List, eqb, length, get_or, take}

-- a file's bytes without their last one, where that is a newline
unfoldable pub without_newline : List ℕ → List ℕ
without_newline file = cond (eqb (get_or file (length file - 1) 0) 10) (take (length file - 1) file) file
