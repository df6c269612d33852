-- `parts` meets its contract: each way out is a case of ReadAll. Assumes nothing.
use Rattle.std.proofs.Common.{rules, ◌≡◌, length}
use Rattle.sentence_reader.proofs.ReadAll.{outside_stuck, outside_more}
use Rattle.sentence_reader.proofs.parts.Goals as goal

pub returns-in_err-rest : goal.returns-in_err-rest
returns-in_err-rest c =
    rw c.from_residual-in_err-rest.ensures (outside_stuck c.in_ok-prefix.ensures c.in_err-rest.ensures)

pub returns-else-is_empty : goal.returns-else-is_empty
returns-else-is_empty c =
    let more : length c.in_ok-rest.rest.now ≡ 0 → ⊥ = search rules in
    outside_more c.in_ok-prefix.ensures c.in_ok-rest.ensures more
