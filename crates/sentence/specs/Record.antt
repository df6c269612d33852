-- Document 01, 'The sentence text': the record of a sentence. It has room for 64 nodes and a count; places past the count are no
-- part of the sentence.
use Rattle.std.specs.Prelude.{ℕ, ◌-◌, Bool, false, List, ◌++◌, length, take, replicate}
use Rattle.sentence.specs.declared.Node.{Node}
use Rattle.sentence.specs.declared.Node.TheVariants.{True}
use Rattle.sentence.specs.declared.Sentence.{Sentence}

-- the record of a prefix and a node list: places past the letters hold `false`, places past the count hold `True`
unfoldable pub record_of : List Bool → List Node → Sentence
record_of ps ns =
    record {
      letters = length ps;
      exists = ps ++ replicate (4 - length ps) false;
      count = length ns;
      nodes = ns ++ replicate (64 - length ns) True;
    }

-- the first `count` nodes of the places
abbrev pub listed : List Node → ℕ → List Node
listed nodes count = take count nodes

-- the prefix of a record: places past the letters are no part of the sentence
abbrev pub prefix_of : Sentence → List Bool
prefix_of s = take s.letters s.exists

-- the node list of a record: places past the count are no part of it
abbrev pub nodes_of : Sentence → List Node
nodes_of s = listed s.nodes s.count
