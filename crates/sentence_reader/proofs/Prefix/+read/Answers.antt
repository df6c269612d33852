-- `read` of a prefix meets its contract: each byte is a case of PrefixAt. Assumes nothing.
use Rattle.std.proofs.Common.{arith, ◌⊎◌, ◌≡◌, ◌<◌, ◌≤◌, true, false}
use Rattle.sentence_reader.proofs.PrefixAt.{letter_on, no_letter}
use Rattle.sentence_reader.proofs.Prefix.+read.Goals as goal

pub returns-in-65 : goal.returns-in-65
returns-in-65 t c =
    let which : (c.in_ok-first.first.now ≡ 65) ⊎ (c.in_ok-first.first.now ≡ 69) = grind arith in
    letter_on c.args.self c.read.result c.in_ok-first.ensures.cases.0 which c.with.ensures c.read.ensures

pub returns-in_default : goal.returns-in_default
returns-in_default t c =
    let no-dot : c.in_ok-first.first.now ≡ 46 → c.args.self.letters < 1 = grind arith in
    let all : c.in_ok-first.first.now ≡ 65 → 4 ≤ c.args.self.letters = grind arith in
    let some : c.in_ok-first.first.now ≡ 69 → 4 ≤ c.args.self.letters = grind arith in
    no_letter c.args.self c.in_ok-first.ensures.cases.0 no-dot (elim [ true ↦ some | false ↦ all ])
