-- `tuple_place` meets its contract. The invariant: the number of the members passed.
use Prim.Native.Nat.{◌^◌, ◌<◌}
use native.Mathlib.Omega.{arith}
use lib.ListN.{get_or}
use Rattle.layers.specs.Held.{most_states, most_variables}
use Rattle.paths.proofs.Members.{counted_by, counted_small, counted_place, product_fits, sum_fits}
use Rattle.paths.proofs.tuple_place.Goals.{In-loop-member}
use Rattle.paths.proofs.tuple_place.Goals as goal

-- the number so far is small, and so is the next member
place_small : (c : In-loop-member) → c.loop-member.place < most_states ^ most_variables
place_small c = counted_small c.loop-member.invariant c.requires (omega arith)

member_small : (c : In-loop-member) → get_or c.args.tuple.now c.loop-member.member-index 0 < most_states ^ most_variables
member_small c = omega (arith, c.type_inv.tuple c.loop-member.member-index)

-- both bounds are given for each operand, so that exchanged operands pass here
pub overflow_mul-place : goal.overflow_mul-place
overflow_mul-place c =
    let at = (goal.at.overflow_mul-place c).In-loop-member in
    product_fits (omega (arith, place_small at, member_small at, c.requires.states))
    (omega (arith, place_small at, member_small at, c.requires.states))

pub overflow_add-place : goal.overflow_add-place
overflow_add-place c =
    let at = (goal.at.overflow_add-place c).In-loop-member in
    sum_fits (omega (arith, place_small at, member_small at, c.requires.states))
    (omega (arith, place_small at, member_small at, c.requires.states))
    (omega (arith, place_small at, member_small at, c.requires.states))

-- and are told apart in the number itself
pub loop-member-preserved : goal.loop-member-preserved
loop-member-preserved c = counted_by c.loop-member.invariant (omega arith) (omega arith)

pub returns : goal.returns
returns c = counted_place c.loop-member.invariant (omega arith) c.requires.below
