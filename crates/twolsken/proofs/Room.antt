-- The program's own work area is enough for every question: it is never refused 1.
use Prim.Native.Nat.{ℕ}
use mathlib.Core.Bool.{Bool}
use mathlib.Core.List.{List}
use mathlib.Core.Path.{◌≡◌, ap}
use native.Mathlib.Omega.{arith}
use lib.ListN.{length}
use Rattle.std.specs.Prelude.{Result}
use Rattle.refusal.specs.declared.Refusal.{Refusal}
use Rattle.refusal.specs.Answers.{refuses, number_in, reply_of}
use Rattle.refusal.specs.Rows.{Decided, by_row, by_none, other, no_other}
use Rattle.refusal.proofs.Ensuring.{number_decided}
use Rattle.question.specs.Contract.{tuples, area_needed}
use Rattle.question.proofs.Numbers.{row_two}
use Rattle.verdict.specs.Contract.{VerdictRow}
use Rattle.lines.specs.Texts.{without_newline}
use Rattle.twolsken.specs.Contract.{AnswersFiles}

pub never_1 : {model sentence : List ℕ} {r : Result Bool Refusal} → AnswersFiles model sentence r → reply_of r ≡ refuses 1 → ⊥
unfolding area_needed
never_1 {model} {sentence} answers e = by (number_decided answers.answer.ensured) (ap number_in e)
  where
    by : {n : ℕ} → Decided (VerdictRow model (without_newline sentence) (length answers.before)) n → n ≡ 1 → ⊥
    by (by_row (other row) least) e = let some = row_two row in omega (arith, some, e)
    by (by_row (no_other none short) least) e =
        let low = short.short in
        let own = answers.enough in
        absurd (none 11 (tuples short.sentence (omega (arith, low, own))))
    by (by_none none) e = omega arith
