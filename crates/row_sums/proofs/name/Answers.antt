-- `row_sums::name` meets its contract.
use mathlib.Core.Path.{refl}
use native.Mathlib.Omega.{arith}
use Rattle.row_sums.proofs.Namings.{naming_skip, naming_next}
use Rattle.row_sums.proofs.name.Goals as goal

pub returns-then-row-t-eq0 : goal.returns-then-row-t-eq0
returns-then-row-t-eq0 c = naming_skip c.requires.1 c.if-row-t-eq0.true

pub returns : goal.returns
returns c =
    let few = c.requires.1.few in
    naming_next c.requires.1 (omega (arith, c.if-count-eq-MOST.false)) c.requires.0 refl
