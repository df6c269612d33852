-- `Walk::size_at` meets its contract, by what the node wants.
use mathlib.Core.Path.{refl, sym, ap}
use Rattle.trees.specs.Wanted.{operand_count}
use Rattle.sizes.proofs.Walking.{sized_none, sized_one, sized_both, sized_as}
use Rattle.sizes.proofs.Walk.+size_at.Goals as goal

pub returns-in-Nothing : goal.returns-in-Nothing
returns-in-Nothing t c =
    sized_as c.of_none.ensures (sized_none c.if-at-ge64.false _ refl (ap operand_count (sym c.in-Nothing.ensures)))

pub returns-in-One : goal.returns-in-One
returns-in-One t c =
    sized_as c.of_one.ensures
    (sized_one c.if-at-ge64.false c.args.self.now.few _ refl (ap operand_count (sym c.in-One.ensures)) c.size_at.ensures)

pub returns-in-Two : goal.returns-in-Two
returns-in-Two t c =
    sized_as c.of_two.ensures
    (sized_both c.if-at-ge64.false _ refl (ap operand_count (sym c.in-Two.ensures)) c.size_at-first.ensures c.size_at-second.ensures)
