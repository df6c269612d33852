-- Working: what the functions of this crate promise one another. Nothing here has to be believed.
-- What is said of kinds and of lists of nodes where they are read, written and encoded.
use Rattle.std.specs.Prelude.{Bool, true, false, List, [], ◌∷◌}
use Rattle.sentence.specs.Grammar.{Writable}
use Rattle.sentence.specs.declared.Kind.{Kind}
use Rattle.sentence.specs.declared.Kind.TheVariants.{State, Expression, Path}
use Rattle.sentence.specs.declared.Node.{Node}

-- two kinds are the same
abbrev pub same_kind : Kind → Kind → Bool
same_kind State State = true
same_kind State Expression = false
same_kind State Path = false
same_kind Expression State = false
same_kind Expression Expression = true
same_kind Expression Path = false
same_kind Path State = false
same_kind Path Expression = false
same_kind Path Path = true

-- the grammar has a text for each node of the list
abbrev pub AllWritable : List Node → Type 0
AllWritable [] = Unit
AllWritable (n ∷ ns) = Writable n × AllWritable ns
