-- Working: what the functions of this crate promise one another. Nothing here has to be believed.
-- What the bytes of a file are, no contract can say.
use Rattle.std.specs.Prelude.{List, ℕ, Result, IfOk}
use Rattle.std.specs.Counts.{IsPrefixLen}
use Rattle.std.specs.declared.io.Error.{Error}

-- the bytes that were read stand at the front of the buffer
abbrev pub AtFront : Result ℕ Error → List ℕ → Type 0
AtFront read buf = IfOk read (λ n. IsPrefixLen n buf)
