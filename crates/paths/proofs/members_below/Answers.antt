-- `members_below` meets its contract.
use Rattle.std.proofs.Common.{rules, tests, ltb, ◌∙◌}
use Rattle.std.proofs.lemmas.Iterator.{YieldsList-from_slice}
use Rattle.std.proofs.lemmas.Iterator.Search.{all_from_yields_List}
use Rattle.paths.proofs.Members.{every_listed}
use Rattle.paths.proofs.members_below.Goals as goal

pub returns : goal.returns
returns c =
    all_from_yields_List (λ x. ltb x c.args.states) _ _ _ c.all.ensures.ran (YieldsList-from_slice c.args.tuple.now cc)
    (λ x b q k. search (rules, tests)) ∙ every_listed (λ x. ltb x c.args.states) c.args.tuple.now
