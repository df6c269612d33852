-- `nest` meets its contract: a node that is not there, is of another kind, has no text, or wants what is not there ends it.
-- Assumes nothing.
use Rattle.std.proofs.Common.{rules, ◌≡◌}
use Rattle.sentence.specs.Grammar.{Writable, kind_of}
use Rattle.sentence.specs.declared.Wants.TheVariants.{One, Two}
use Rattle.sentence_survey.proofs.Fitting.{fits_leaf, with_wants, second}
use Rattle.sentence_survey.proofs.+nest.Goals as goal

pub returns-in-Nothing : goal.returns-in-Nothing
returns-in-Nothing t c =
    let kind : kind_of c.in_ok-node.node.now ≡ c.args.kind = search rules in
    let written : Writable c.in_ok-node.node.now = search rules in
    fits_leaf c.in_ok-node.ensures.cases.0 written kind c.in-Nothing.ensures

pub returns-in-One : goal.returns-in-One
returns-in-One t c =
    let kind : kind_of c.in_ok-node.node.now ≡ c.args.kind = search rules in
    let written : Writable c.in_ok-node.node.now = search rules in
    with_wants (One c.in-One.wanted) c.nest.result c.in_ok-node.ensures.cases.0 written kind c.in-One.ensures c.nest.ensures

pub returns-in_ok-nest-in-Two : goal.returns-in_ok-nest-in-Two
returns-in_ok-nest-in-Two t c =
    let kind : kind_of c.in_ok-node.node.now ≡ c.args.kind = search rules in
    let written : Writable c.in_ok-node.node.now = search rules in
    with_wants (Two c.in-Two.wanted) c.nest-in-Two-2.result c.in_ok-node.ensures.cases.0 written kind c.in-Two.ensures
    (second c.nest-in-Two-2.result c.in_ok-nest-in-Two.ensures c.nest-in-Two-2.ensures)
