-- `letter_codes` meets its contract: each place has the code of its letter. Assumes nothing.
use Rattle.std.proofs.Common.{rules, get_or, false}
use Rattle.counting.proofs.Laws.{table_is}
use Rattle.codes.specs.Codes.{letter_code}
use Rattle.codes.proofs.letter_codes.Goals as goal

pub returns : goal.returns
returns c =
    table_is 4 (λ i. letter_code (get_or c.args.exists i false)) 0 c.map.result c.map.ensures.items.long
    (λ k less. search (rules, c.map.ensures.items.at k false 0 less))
