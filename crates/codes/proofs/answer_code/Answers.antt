-- `answer_code` meets its contract: the refusal's number stands in its place. Assumes nothing.
use Rattle.std.proofs.Common.{rules, ◌≡◌, ◌∙◌, Ok, Err, MatchResult}
use Rattle.refusal.specs.Answers.{number_of}
use Rattle.codes.proofs.Told.{code_numbered}
use Rattle.codes.proofs.answer_code.Goals as goal

pub returns : goal.returns
returns c =
    let numbered : MatchResult c.args.written (λ size. c.map_err.result ≡ Ok size) (λ refusal. c.map_err.result ≡ Err (number_of refusal)) =
    search (rules, c.map_err.ensures.cases) in
    c.written_code.ensures ∙ code_numbered c.args.written c.map_err.result numbered
