-- `question::tuple_count` meets its contract: the power is small.
use native.Mathlib.Nat.{pow-le-pow_left}
use native.Mathlib.Omega.{arith}
use Rattle.question.proofs.Numbers.{powers_small}
use Rattle.question.proofs.tuple_count.Goals as goal

pub pow-requires : goal.pow-requires
pow-requires c =
    let most = powers_small c.args.letters c.requires.1 in
    let low = pow-le-pow_left c.requires.0 c.args.letters in
    omega (arith, most, low)
