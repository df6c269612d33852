-- `answer` meets its contract: the verdict's, on the text without its newline and a work area of zeros.
use Prim.Native.Nat.{ℕ}
use mathlib.Core.List.{List}
use mathlib.Core.Path.{subst}
use lib.ListN.{replicate, length-replicate}
use Rattle.verdict.specs.Contract.{VerdictEnsures}
use Rattle.twolsken.specs.Contract.{area_size}
use Rattle.twolsken.proofs.answer.Goals as goal

pub returns : goal.returns
returns c =
    let call = c.verdict in
    record {
      before = replicate area_size 0;
      after = call.new.work;
      enough = length-replicate {A = ℕ} area_size 0;
      answer =
          subst (λ (text : List ℕ). VerdictEnsures c.args.model.now text (replicate area_size 0) call.result call.new.work)
          c.without_newline.ensures call.ensures;
    }
