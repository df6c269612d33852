-- Working: what the functions of this crate promise one another. Nothing here has to be believed.
-- What is found of a list of nodes, said over the grammar.
use Rattle.std.specs.Prelude.{List, ◌++◌, ◌≡◌}
use Rattle.sentence.specs.Grammar.{Nests}
use Rattle.sentence.specs.declared.Kind.{Kind}
use Rattle.sentence.specs.declared.Node.{Node}

-- no list that starts with things of the kinds js stands at the front of the list l
abbrev pub Unfit : List Kind → List Node → Type 0
Unfit js l = (ks : List Kind) (ns rest : List Node) → Nests (js ++ ks) ns → l ≡ ns ++ rest → ⊥

-- at the front of the list l stand things of the kinds js, and then the rest
pub record Fits (js : List Kind) (l rest : List Node) : Type 0 where
  pub nodes : List Node
  pub nests : Nests js nodes
  pub split : l ≡ nodes ++ rest
