-- `question::labels_right` meets its contract, by what `all` says of the nodes.
use mathlib.Core.Bool.{Bool, ◌&&◌}
use mathlib.Core.List.{List, [], ◌∷◌}
use mathlib.Core.Path.{◌≡◌, refl, ap, ◌∙◌}
use Rattle.std.specs.List.{list_all}
use Rattle.std.proofs.Common.{rules, tests}
use Rattle.std.proofs.lemmas.Iterator.{YieldsList-from_slice}
use Rattle.std.proofs.lemmas.Iterator.Search.{all_from_yields_List}
use Rattle.sentence.specs.declared.Node.{Node}
use Rattle.meaning.specs.Lists.{every}
use Rattle.question.specs.Contract.{label_right}
use Rattle.question.proofs.labels_right.Goals as goal

-- the library's test of every item is the meaning's
every_is : (test : Node → Bool) (nodes : List Node) → list_all test nodes ≡ every test nodes
unfolding every
every_is test [] = refl
every_is test (n ∷ nodes) = ap (λ (b : Bool). test n && b) (every_is test nodes)

pub returns : goal.returns
returns c =
    let nodes = c.args.nodes.now in
    all_from_yields_List (label_right c.args.a) _ _ _ c.all.ensures.ran (YieldsList-from_slice nodes cc)
    (λ x b q k. search (rules, tests)) ∙
    every_is (label_right c.args.a) nodes
