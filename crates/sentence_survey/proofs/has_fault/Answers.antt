-- `has_fault` meets its contract, by the law of the library's `any`. Assumes nothing.
use Rattle.std.proofs.Common.{rules, ◌∙◌}
use Rattle.std.proofs.lemmas.Iterator.{YieldsList-from_slice}
use Rattle.std.proofs.lemmas.Iterator.Search.{any_from_yields_List}
use borrow.Author.Tests.{tests}
use Rattle.sentence.specs.Grammar.{out_of_range}
use Rattle.sentence_survey.proofs.Faults.{any_fault}
use Rattle.sentence_survey.proofs.has_fault.Goals as goal

pub returns : goal.returns
returns c =
    any_from_yields_List (out_of_range c.args.letters) _ _ _ c.any.ensures.ran (YieldsList-from_slice c.args.nodes.now cc)
    (λ x b q k. search (rules, tests))
    ∙ any_fault c.args.letters c.args.nodes.now
