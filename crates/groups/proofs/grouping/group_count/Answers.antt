-- `groups::grouping::group_count` meets its contract. The invariant: the count is one more than the largest number passed.
use borrow.Author.Rules.{rules}
use Prim.Native.Nat.{ℕ, suc, max}
use mathlib.Core.Path.{◌≡◌, sym, ap, ◌∙◌}
use native.Mathlib.Omega.{arith}
use Rattle.groups.specs.Groups.{group_of}
use Rattle.groups.proofs.Counts.{over_none, over_more}
use Rattle.groups.proofs.grouping.group_count.Goals as goal

pub loop-g-init : goal.loop-g-init
loop-g-init c = (search rules, sym (over_none _), search rules)

pub loop-g-preserved : goal.loop-g-preserved
loop-g-preserved c =
    let l = c.loop-g in
    let f = group_of c.args.grouping.now in
    let next = over_more l.g-index f in
    let same : c.max-count.result ≡ max l.count (suc (f l.g-index)) = grind (arith, c.max-count.ensures, c.from.ensures) in
    let byte = (c.type_inv.grouping l.g-index).fits in
    (omega arith, same ∙ ap (λ (a : ℕ). max a (suc (f l.g-index))) l.invariant.1 ∙ sym next, omega (arith, same, byte))
