-- `chain::filled_row` meets its contract, by whether the state is halted.
use mathlib.Core.Path.{◌≡◌, refl, sym, ◌∙◌}
use lib.ListN.{length, replicate, get_or-replicate}
use Rattle.std.proofs.Common.{rules}
use Rattle.chain.proofs.Filling.{one_weight, row_halted, row_goes}
use Rattle.chain.proofs.filled_row.Goals as goal

pub returns-then-is_halted : goal.returns-then-is_halted
returns-then-is_halted c =
    let m = c.args.m.now in
    let s = c.args.s in
    one_weight (replicate 32 0) s m.d refl (λ t l. get_or-replicate 32 t 0 0 l) c.requires.0 ∙
    row_halted m s (sym c.is_halted.ensures ∙ c.if-is_halted.true)

pub returns : goal.returns
returns c =
    let m = c.args.m.now in
    let s = c.args.s in
    let same = c.row_of-row.ensures in
    let long : length c.row_of-row.result ≡ 32 = search rules in
    same ∙ row_goes m s (sym c.is_halted.ensures ∙ c.if-is_halted.false) (rw same at long)
