-- Document 01's starred lines hold of the definitions of this crate. Assumes nothing.
use mathlib.Core.Bool.{true}
use mathlib.Core.List.{flat_map}
use mathlib.Core.Path.{◌≡◌, refl}
use Rattle.meaning.specs.Lists.{below, every, there_is, total, lists}
use Rattle.meaning.specs.Chain.{tuples, joint, run_weight, runs}
use Rattle.meaning.specs.Named.{occurs_from, count, named, v, chosen, placed}
use Rattle.meaning.specs.Meaning.{position, next_takes, until_takes, taken_weight, denominator, has_label, add_f, sub_f}
use Rattle.meaning.specs.Meaning.{related, compared, holds, ranges, ranged, verdict}
use Rattle.meaning.specs.Merging.{weight_into, member, merged}
use Rattle.meaning.specs.Examples.{M1, M2, M2merged, sketched, same_chain, met, lines}

-- every line marked * agrees with the definitions
pub examples : every met lines ≡ true
unfolding every met lines M1 M2 M2merged sketched same_chain merged member weight_into below there_is total lists flat_map tuples joint
    run_weight runs position next_takes until_takes taken_weight denominator has_label add_f sub_f related compared holds
    ranges ranged verdict v count named occurs_from placed chosen
examples = refl
