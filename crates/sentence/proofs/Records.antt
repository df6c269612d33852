-- The record of a prefix and a node list has that prefix and that list. Assumes nothing.
use Prim.Native.Nat.{◌-◌}
use mathlib.Core.Bool.{Bool, false}
use mathlib.Core.List.{List}
use mathlib.Core.Path.{◌≡◌}
use lib.ListN.{length, replicate}
use lib.Seq.{take-append_seam}
use Rattle.sentence.specs.Record.{record_of, prefix_of, nodes_of}
use Rattle.sentence.specs.declared.Node.{Node}
use Rattle.sentence.specs.declared.Node.TheVariants.{True}

pub record_prefix : (ps : List Bool) (ns : List Node) → prefix_of (record_of ps ns) ≡ ps
unfolding record_of
record_prefix ps ns = take-append_seam ps (replicate (4 - length ps) false)

pub record_nodes : (ps : List Bool) (ns : List Node) → nodes_of (record_of ps ns) ≡ ns
unfolding record_of
record_nodes ps ns = take-append_seam ns (replicate (64 - length ns) True)

-- the record has the prefix and the nodes that it is of
pub same_sentence : (ps : List Bool) (ns : List Node) → (prefix_of (record_of ps ns) ≡ ps) × (nodes_of (record_of ps ns) ≡ ns)
same_sentence ps ns = (record_prefix ps ns, record_nodes ps ns)
