-- Document 01, 'The sentence text': which prefix and node list spells which text. Operators come first, so the grammar is a
-- table: each node has a kind, its own text, and the kinds that it wants after it. Bytes are ASCII.
use Rattle.std.specs.Prelude.{ℕ, ◌+◌, ◌≤◌, Bool, true, false, ◌&&◌, ◌||◌, List, [], ◌∷◌, ◌++◌, map, ◌≡◌, leb, ltb, eqb, length}
use Rattle.counting.specs.Ascii.{byte, ascii}
use Rattle.numerals.specs.Numeral.{number_text}
use Rattle.sentence.specs.declared.Kind.{Kind}
use Rattle.sentence.specs.declared.Kind.TheVariants.{State, Expression, Path}
use Rattle.sentence.specs.declared.Relation.{Relation}
use Rattle.sentence.specs.declared.Relation.TheVariants.{Less, AtMost, Equal, AtLeast, Greater}
use Rattle.sentence.specs.declared.Wants.{Wants}
use Rattle.sentence.specs.declared.Wants.TheVariants.{Nothing, One, Two}
use Rattle.sentence.specs.declared.Node.{Node}
use Rattle.sentence.specs.declared.Node.TheVariants.{True, Label, Not, And, Compare, Probability, Constant, Sum, Difference, Product}
use Rattle.sentence.specs.declared.Node.TheVariants.{Next, Until}

-- the five comparisons: `<` less, `L` at most, `=` equal, `G` at least, `>` greater
abbrev pub relation_byte : Relation → ℕ
relation_byte Less = byte "<"
relation_byte AtMost = byte "L"
relation_byte Equal = byte "="
relation_byte AtLeast = byte "G"
relation_byte Greater = byte ">"

-- a node's own text: `T`; a letter and a digit; `!`; `&`; a comparison; `P`; `#` number `/` number `;`; `+`; `-`; `*`; `X`;
-- `U` number `,` number `:`
abbrev pub node_text : Node → List ℕ
node_text True = ascii "T"
node_text (Label l v) = (byte "a" + l) ∷ (byte "0" + v) ∷ []
node_text Not = ascii "!"
node_text And = ascii "&"
node_text (Compare r) = relation_byte r ∷ []
node_text Probability = ascii "P"
node_text (Constant a b) = ascii "#" ++ (number_text a ++ (ascii "/" ++ (number_text b ++ ascii ";")))
node_text Sum = ascii "+"
node_text Difference = ascii "-"
node_text Product = ascii "*"
node_text Next = ascii "X"
node_text (Until a b) = ascii "U" ++ (number_text a ++ (ascii "," ++ (number_text b ++ ascii ":")))

-- whether the grammar has a text for the node: the letters `a`..`p`, the digits 1..4, numbers of one to five digits
abbrev pub writable : Node → Bool
writable True = true
writable (Label l v) = ltb l 16 && leb 1 v && leb v 4
writable Not = true
writable And = true
writable (Compare r) = true
writable Probability = true
writable (Constant a b) = ltb a 100000 && ltb b 100000
writable Sum = true
writable Difference = true
writable Product = true
writable Next = true
writable (Until a b) = ltb a 100000 && ltb b 100000

-- the grammar has a text for the node
abbrev pub Writable : Node → Type 0
Writable n = writable n ≡ true

-- what a node is: a state formula, an expression or a path
abbrev pub kind_of : Node → Kind
kind_of True = State
kind_of (Label l v) = State
kind_of Not = State
kind_of And = State
kind_of (Compare r) = State
kind_of Probability = Expression
kind_of (Constant a b) = Expression
kind_of Sum = Expression
kind_of Difference = Expression
kind_of Product = Expression
kind_of Next = Path
kind_of (Until a b) = Path

-- what follows a node's own text: nothing, one thing, or two of one kind
abbrev pub wants_of : Node → Wants
wants_of True = Nothing
wants_of (Label l v) = Nothing
wants_of Not = One State
wants_of And = Two State
wants_of (Compare r) = Two Expression
wants_of Probability = One Path
wants_of (Constant a b) = Nothing
wants_of Sum = Two Expression
wants_of Difference = Two Expression
wants_of Product = Two Expression
wants_of Next = One State
wants_of (Until a b) = Two State

-- the kinds that are wanted: none, one, or twice the same
abbrev pub wanted : Wants → List Kind
wanted Nothing = []
wanted (One k) = k ∷ []
wanted (Two k) = k ∷ k ∷ []

-- the kinds of what follows a node's own text, in order
abbrev pub wants : Node → List Kind
wants n = wanted (wants_of n)

-- `Nests ks ns`: where things of the kinds ks are wanted, the nodes ns are just these, in written order
pub data Nests : List Kind → List Node → Type 0 where
  end : Nests [] []
  node : {n : Node} {k : Kind} {ks : List Kind} {ns : List Node} → Writable n → kind_of n ≡ k → Nests (wants n ++ ks) ns
      → Nests (k ∷ ks) (n ∷ ns)

-- the text of a list of nodes: their own texts, one after another
abbrev pub body_text : List Node → List ℕ
body_text [] = []
body_text (n ∷ ns) = node_text n ++ body_text ns

-- a letter of the prefix: `A` for all, `E` exists
abbrev pub letter_byte : Bool → ℕ
letter_byte false = byte "A"
letter_byte true = byte "E"

-- the prefix: its letters and a dot
abbrev pub prefix_text : List Bool → List ℕ
prefix_text ps = map letter_byte ps ++ ascii "."

-- the text of a prefix and a node list
abbrev pub sentence_text : List Bool → List Node → List ℕ
sentence_text ps ns = prefix_text ps ++ body_text ns

-- the prefix ps (`true` for each letter that is `E`) and the nodes ns are a sentence of the grammar, and t is its text
pub record Spells (ps : List Bool) (ns : List Node) (t : List ℕ) : Type 0 where
  pub some : 1 ≤ length ps
  pub few : length ps ≤ 4
  pub nests : Nests (State ∷ []) ns
  pub text : t ≡ sentence_text ps ns

-- row 7, for a sentence of n letters: a constant's top over 65,535, its bottom 0 or over 65,535; k1 > k2; k2 > 60; a
-- variable above n
abbrev pub out_of_range : ℕ → Node → Bool
out_of_range n True = false
out_of_range n (Label l v) = ltb n v
out_of_range n Not = false
out_of_range n And = false
out_of_range n (Compare r) = false
out_of_range n Probability = false
out_of_range n (Constant a b) = ltb 65535 a || eqb b 0 || ltb 65535 b
out_of_range n Sum = false
out_of_range n Difference = false
out_of_range n Product = false
out_of_range n Next = false
out_of_range n (Until a b) = ltb b a || ltb 60 b

-- some node of the list is out of its range
abbrev pub some_out_of_range : ℕ → List Node → Bool
some_out_of_range n [] = false
some_out_of_range n (x ∷ ns) = out_of_range n x || some_out_of_range n ns
