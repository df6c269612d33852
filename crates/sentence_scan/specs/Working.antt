-- Working: what the functions of this crate promise one another. Nothing here has to be believed.
-- Reading a body, said over the grammar.
use Rattle.std.specs.Prelude.{ℕ, ◌+◌, false, ◌||◌, List, [], ◌∷◌, ◌++◌, ◌≡◌, replicate, set}
use Rattle.sentence.specs.Grammar.{Nests, node_text, Writable, body_text, out_of_range}
use Rattle.sentence.specs.declared.Kind.{Kind}
use Rattle.sentence.specs.declared.Node.{Node}
use Rattle.sentence.specs.declared.Node.TheVariants.{True}
use Rattle.sentence_scan.specs.declared.Body.{Body}

-- no node is read yet
abbrev pub no_nodes : Body
no_nodes = record { nodes = replicate 64 True; count = 0; fault = false }

-- one node more, in a sentence of so many letters: past the places none is kept
abbrev pub keep : ℕ → Body → Node → Body
keep letters b n = record { nodes = set b.nodes b.count n; count = b.count + 1; fault = b.fault || out_of_range letters n }

-- the same for each node of a list
abbrev pub keep_all : ℕ → Body → List Node → Body
keep_all letters b [] = b
keep_all letters b (n ∷ ns) = keep_all letters (keep letters b n) ns

-- the node is written as this byte alone
pub record IsOperator (byte : ℕ) (n : Node) : Type 0 where
  pub writable : Writable n
  pub text : node_text n ≡ byte ∷ []

-- no node is written as this byte alone
abbrev pub NoOperator : ℕ → Type 0
NoOperator byte = (n : Node) → IsOperator byte n → ⊥

-- at the front of the text t stands the node n, its own text alone, and then the rest
pub record IsNode (t : List ℕ) (n : Node) (rest : List ℕ) : Type 0 where
  pub writable : Writable n
  pub text : t ≡ node_text n ++ rest

-- no node stands at the front of the text t
abbrev pub NoNode : List ℕ → Type 0
NoNode t = (n : Node) (rest : List ℕ) → IsNode t n rest → ⊥

-- no list that starts with things of the kinds js stands at the front of the text t
abbrev pub Stuck : List Kind → List ℕ → Type 0
Stuck js t = (ks : List Kind) (ns : List Node) (rest : List ℕ) → Nests (js ++ ks) ns → t ≡ body_text ns ++ rest → ⊥

-- at the front of the text t stand things of the kinds js, and then the rest; the body `before` with their nodes added is `after`
pub record Reads (js : List Kind) (t : List ℕ) (letters : ℕ) (before after : Body) (rest : List ℕ) : Type 0 where
  pub nodes : List Node
  pub nests : Nests js nodes
  pub text : t ≡ body_text nodes ++ rest
  pub kept : after ≡ keep_all letters before nodes
