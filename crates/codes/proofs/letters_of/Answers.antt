-- `letters_of` meets its contract: each place has the letter of its number. Assumes nothing.
use Rattle.std.proofs.Common.{rules, get_or, not, eqb, false}
use Rattle.counting.proofs.Laws.{table_is}
use Rattle.codes.proofs.letters_of.Goals as goal

pub returns : goal.returns
returns c =
    table_is 4 (λ i. not (eqb (get_or c.args.exists i 0) 0)) false c.map.result c.map.ensures.items.long
    (λ k less. search (rules, c.map.ensures.items.at k 0 false less))
