-- `model::rules::mask_fits` meets its contract: 2 ^ a is at least 65,536 from a = 16 on, and below that it is the shift.
use Prim.Native.Nat.{◌^◌, ◌*◌, ◌%◌, ◌≤◌}
use mathlib.Core.Path.{◌≡◌, sym, ap₂}
use native.Mathlib.Omega.{arith}
use lib.Dec.{ltb}
use lib.Pow.{pow_mono}
use borrow.Author.Tests.{lt-ltb}
use Rattle.model.proofs.rules.mask_fits.Goals as goal

pub returns-then-a-ge16 : goal.returns-then-a-ge16
returns-then-a-ge16 c =
    let above : 2 ^ 16 ≤ 2 ^ c.args.a = pow_mono c.if-a-ge16.true in
    sym (lt-ltb c.args.mask (2 ^ c.args.a) (omega arith))

pub returns-else-a-ge16 : goal.returns-else-a-ge16
returns-else-a-ge16 c =
    let a = c.args.a in
    let below : 2 ^ a ≤ 2 ^ 16 = pow_mono {j = 16} (omega arith) in
    let shifted : (1 * 2 ^ a) % 4294967296 ≡ 2 ^ a = omega arith in
    ap₂ ltb c.from.ensures shifted
