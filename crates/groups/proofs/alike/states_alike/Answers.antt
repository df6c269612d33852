-- `groups::alike::states_alike` meets its contract. The invariant: the states passed agree with the first of their group.
use Prim.Native.Nat.{◌<◌}
use mathlib.Core.Path.{◌≡◌, sym, ap, ◌∙◌}
use native.Mathlib.Omega.{arith}
use Rattle.counting.proofs.Laws.{passed_none, passed_next, passed_all, failed_at}
use Rattle.groups.specs.Groups.{group_of, member_of}
use Rattle.groups.specs.Working.{pair_alike}
use Rattle.groups.proofs.Members.{own_first}
use Rattle.groups.proofs.alike.states_alike.Goals.{After-unwrap-first, After-pair_alike}
use Rattle.groups.proofs.alike.states_alike.Goals as goal

-- the first state of the state's group is a state, and is its member
first : (c : After-unwrap-first) →
    let a = c.args in
    (c.unwrap-first.result < a.n) × (member_of a.n a.grouping.now (group_of a.grouping.now c.loop-s.s) ≡ c.unwrap-first.result)
first c =
    let found = rw c.unwrap-first.ensures at c.first_of.ensures in
    own_first c.args.n c.args.grouping.now c.loop-s.s (omega arith) c.requires.2 c.group_of.ensures.0 found.1

-- what was tested is what the state's turn asks
tested : (c : After-pair_alike) →
    let a = c.args in
    member_of a.n a.grouping.now (group_of a.grouping.now c.loop-s.s) ≡ c.unwrap-first.result →
    pair_alike a.masks.now a.totals.now a.count c.loop-s.s (member_of a.n a.grouping.now (group_of a.grouping.now c.loop-s.s)) ≡
    c.pair_alike.result
tested c found =
    let a = c.args in
    ap (pair_alike a.masks.now a.totals.now a.count c.loop-s.s) found ∙ sym c.pair_alike.ensures

pub pair_alike-requires : goal.pair_alike-requires
pair_alike-requires c =
    let small = (first (goal.at.pair_alike-requires c).After-unwrap-first).0 in
    (omega arith, omega arith, omega arith)

pub loop-s-init : goal.loop-s-init
loop-s-init c = passed_none

pub returns-then-not-pair_alike : goal.returns-then-not-pair_alike
returns-then-not-pair_alike c =
    let at = goal.at.returns-then-not-pair_alike c in
    failed_at c.loop-s.invariant (omega arith) (tested at.After-pair_alike (first at.After-unwrap-first).1 ∙ c.if-not-pair_alike.true)

pub loop-s-preserved : goal.loop-s-preserved
loop-s-preserved c =
    let at = goal.at.loop-s-preserved c in
    passed_next c.loop-s.invariant (omega arith) (tested at.After-pair_alike (first at.After-unwrap-first).1 ∙ c.if-not-pair_alike.false)

pub returns : goal.returns
returns c = passed_all c.loop-s.invariant (omega arith)
