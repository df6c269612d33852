-- Working: what the functions of this crate promise one another. Nothing here has to be believed.
-- How many things a node wants after it.
use Rattle.std.specs.Prelude.{ℕ}
use Rattle.sentence.specs.declared.Wants.{Wants}
use Rattle.sentence.specs.declared.Wants.TheVariants.{Nothing, One, Two}

-- none, one or two
abbrev pub operand_count : Wants → ℕ
operand_count Nothing = 0
operand_count (One k) = 1
operand_count (Two k) = 2
