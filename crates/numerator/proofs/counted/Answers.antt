-- `numerator::counted` meets its contract: the path formula's layer, read at the tuple's number.
use Prim.Native.Nat.{◌<◌}
use mathlib.Core.Path.{◌∙◌}
use native.Mathlib.Omega.{arith}
use borrow.Author.Rules.{scaled_Fits}
use Rattle.question.proofs.Pair.{count_few}
use Rattle.question.proofs.Settled.{d_few}
use Rattle.numerator.proofs.Counting.{tuple_ready, tuple_low, tuple_there, place_some, path_ready, counted_so}
use Rattle.numerator.proofs.counted.Goals.{After-tuple_place-k}
use Rattle.numerator.proofs.counted.Goals as goal

pub filled_rows-requires : goal.filled_rows-requires
filled_rows-requires c = d_few c.requires.0.ready

pub shared_ref_as_front-path_place : goal.shared_ref_as_front-path_place
shared_ref_as_front-path_place c = let few = count_few c.requires.0.ready.read.sentence in omega (arith, few)

pub unwrap-at-requires : goal.unwrap-at-requires
unwrap-at-requires c = place_some c.requires.0 c.setting.ensures c.path_place.ensures

pub path-valued-requires : goal.path-valued-requires
path-valued-requires c =
    let pre = c.requires in
    path_ready pre.0 c.setting.ensures c.filled_rows.ensures (rw c.unwrap-at.ensures at c.path_place.ensures) pre.1

pub tuple_place-k-requires : goal.tuple_place-k-requires
tuple_place-k-requires c = tuple_ready c.requires.0 c.setting.ensures

-- the tuple's number is small
low : (c : After-tuple_place-k) → c.tuple_place-k.result < 1024
low c = tuple_low c.requires.0 c.setting.ensures c.tuple_place-k.ensures

pub offset_bounds-area-k : goal.offset_bounds-area-k
offset_bounds-area-k c = scaled_Fits c.tuple_place-k.result 1024 8 (low (goal.at.offset_bounds-area-k c).After-tuple_place-k) (omega arith)

pub bounds-area-k : goal.bounds-area-k
bounds-area-k c =
    let pre = c.requires in
    tuple_there pre.0 c.setting.ensures c.tuple_place-k.ensures (c.path-valued.auto.work ∙ pre.1)

pub returns : goal.returns
returns c = record {
  each = λ text b.
      let pre = c.requires in
      counted_so pre.0 c.setting.ensures c.filled_rows.ensures (rw c.unwrap-at.ensures at c.path_place.ensures)
      c.path-valued.ensures c.tuple_place-k.ensures b;
}
