-- `names::how_many` meets its contract: of the first n, where those that are not named are passed over, as many are left as are named.
use Rattle.std.proofs.Common.{rules, tests, take, ◌∙◌}
use Rattle.std.proofs.lemmas.Iterator.{YieldsList-from_slice}
use Rattle.std.proofs.lemmas.Iterator.Consumers.{YieldsList-at, YieldsList-from_filter, count_from_yields_List}
use Rattle.names.proofs.Labels.{count_kept}
use Rattle.names.proofs.how_many.Goals as goal

pub returns : goal.returns
returns c =
    let first = take c.args.n c.args.those in
    count_from_yields_List c.filter.result _ c.count.ensures.ran
    (YieldsList-from_filter _ (λ b. b) (YieldsList-at c.filter.ensures.source (YieldsList-from_slice first cc)) c.filter.ensures.closure
    (λ x r q k. search (rules, tests))) ∙ count_kept first
