-- `totals::merged::model_of_groups` meets its contract: the first state of a group that is used is below 32, and is its
-- member; masks and rows are written from the front, over zeros.
use Prim.Native.Nat.{◌<◌}
use mathlib.Core.List.{[]}
use mathlib.Core.Path.{◌≡◌, sym, ap, ◌∙◌}
use native.Mathlib.Omega.{arith}
use lib.ListN.{length, get_or}
use Rattle.counting.specs.Below.{table}
use Rattle.counting.proofs.Laws.{fronted_none, fronted_next, fronted_all}
use Rattle.groups.specs.Groups.{member_of}
use Rattle.groups.proofs.Members.{first_is, first_member, front_table}
use Rattle.totals.proofs.merged.model_of_groups.Goals.{After-unwrap-s}
use Rattle.totals.proofs.merged.model_of_groups.Goals as goal

-- the first state of the group is a state, and is its member
first : (c : After-unwrap-s) →
    let grouping = c.args.grouping.now in
    (c.unwrap-s.result < length grouping) × (member_of (length grouping) grouping c.loop-g.g ≡ c.unwrap-s.result)
first c =
    first_member c.args.grouping.now c.args.count c.requires.2 c.loop-g.g (omega arith) c.unwrap-s.result
    (rw c.unwrap-s.ensures at c.first_of.ensures)

pub unwrap-s-requires : goal.unwrap-s-requires
unwrap-s-requires c =
    first_is c.args.grouping.now c.args.count c.requires.2 c.loop-g.g (omega arith) c.first_of.result c.first_of.ensures

pub loop-g-init : goal.loop-g-init
loop-g-init c = (fronted_none, fronted_none)

pub bounds-m-s : goal.bounds-m-s
bounds-m-s c = omega (arith, (first (goal.at.bounds-m-s c).After-unwrap-s).0)

pub bounds-totals-s : goal.bounds-totals-s
bounds-totals-s c = omega (arith, (first (goal.at.bounds-totals-s c).After-unwrap-s).0)

pub loop-g-preserved : goal.loop-g-preserved
loop-g-preserved c =
    let own = (first (goal.at.loop-g-preserved c).After-unwrap-s).1 in (
      fronted_next c.loop-g.invariant.0 (omega arith) (omega arith) (ap (λ s. get_or c.args.m.now.masks s 0) (sym own)),
      fronted_next c.loop-g.invariant.1 (omega arith) (omega arith) (ap (λ s. get_or c.args.totals.now s []) (sym own)),
    )

pub returns : goal.returns
unfolding table
returns c =
    let a = c.args in
    let m = a.m.now in
    let group = member_of (length a.grouping.now) a.grouping.now in
    let masks = fronted_all c.loop-g.invariant.0 (omega arith) ∙
    front_table 32 a.count (λ g. get_or m.masks (group g) 0) 0 (omega arith) in
    let rows = fronted_all c.loop-g.invariant.1 (omega arith) ∙
    front_table 32 a.count (λ g. get_or a.totals.now (group g) []) (table 32 (λ h. 0)) (omega arith) in
    λ i. record { n = a.count; a = m.a; d = m.d; version = m.version; masks = masks i; weights = rows i }
