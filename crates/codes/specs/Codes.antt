-- The codes that the exported calls speak in: the number of a writer's answer, the three numbers of a node, the number of a letter, and
-- the record that lent numbers stand for. include/twolsken.h lists them.
use Rattle.std.specs.Prelude.{ℕ, ◌+◌, Bool, true, false, ◌&&◌, not, cond, List, [], ◌∷◌, ◌≡◌, leb, eqb, get_or, Result, Ok, Err}
use Rattle.counting.specs.Below.{table}
use Rattle.refusal.specs.declared.Refusal.{Refusal}
use Rattle.refusal.specs.Answers.{number_of}
use Rattle.sentence.specs.declared.Relation.{Relation}
use Rattle.sentence.specs.declared.Relation.TheVariants.{Less, AtMost, Equal, AtLeast, Greater}
use Rattle.sentence.specs.declared.Node.{Node}
use Rattle.sentence.specs.declared.Node.TheVariants.{True, Label, Not, And, Compare, Probability}
use Rattle.sentence.specs.declared.Node.TheVariants.{Constant, Sum, Difference, Product, Next, Until}
use Rattle.sentence.specs.declared.Sentence.{Sentence}

-- ---- a call that returns the code of an answer

-- what an exported call that returns the code of an answer ensures: what the library's call ensures of that answer and of what it
-- leaves
pub record Coded {A : Type 0} (code : A → ℕ) (Ensures : A → List ℕ → Type 0) (after : List ℕ) (r : ℕ) : Type 0 where
  pub answer : A
  pub ensures : Ensures answer after
  pub coded : r ≡ code answer

-- the code of a writer's answer: how many bytes it wrote, or 2^32 plus the refusal's number
unfoldable pub code_of : Result ℕ Refusal → ℕ
code_of (Ok size) = size
code_of (Err refusal) = 4294967296 + number_of refusal

-- ---- the codes that read sentence leaves

-- the five comparisons: 0 less, 1 at most, 2 equal, 3 at least, 4 greater
abbrev pub relation_code : Relation → ℕ
relation_code Less = 0
relation_code AtMost = 1
relation_code Equal = 2
relation_code AtLeast = 3
relation_code Greater = 4

-- a code: a tag and two numbers
abbrev pub code : ℕ → ℕ → ℕ → List ℕ
code tag x y = tag ∷ x ∷ y ∷ []

-- the code of a node: the node's tag and its numbers, 0 for each that it does not have
abbrev pub code_of_node : Node → List ℕ
code_of_node True = code 0 0 0
code_of_node (Label label variable) = code 1 label variable
code_of_node Not = code 2 0 0
code_of_node And = code 3 0 0
code_of_node (Compare relation) = code 4 (relation_code relation) 0
code_of_node Probability = code 5 0 0
code_of_node (Constant top bottom) = code 6 top bottom
code_of_node Sum = code 7 0 0
code_of_node Difference = code 8 0 0
code_of_node Product = code 9 0 0
code_of_node Next = code 10 0 0
code_of_node (Until from to) = code 11 from to

-- the codes of a record's 64 places
abbrev pub codes_of : List Node → List (List ℕ)
codes_of nodes = table 64 (λ i. code_of_node (get_or nodes i True))

-- the number of letters and the count, in this order
abbrev pub sentence_head : Sentence → List ℕ
sentence_head s = s.letters ∷ s.count ∷ []

-- 1 for a letter that is `E`, else 0
abbrev pub letter_code : Bool → ℕ
letter_code true = 1
letter_code false = 0

-- the codes of a record's four letters
abbrev pub letter_codes : List Bool → List ℕ
letter_codes exists = table 4 (λ i. letter_code (get_or exists i false))

-- ---- what the codes that write sentence takes stand for

-- a node that no text spells: there is neither such a letter nor such a digit
abbrev pub no_node : Node
no_node = Label 255 255

-- a label's node; none has a label or a variable above 255
abbrev pub label_of : ℕ → ℕ → Node
label_of label variable = cond (leb label 255 && leb variable 255) (Label label variable) no_node

-- the comparisons' nodes, in the order of their numbers
abbrev pub comparisons : List Node
comparisons = Compare Less ∷ Compare AtMost ∷ Compare Equal ∷ Compare AtLeast ∷ Compare Greater ∷ []

-- a comparison's node, by its number; none has a number above 4
abbrev pub comparison_of : ℕ → Node
comparison_of x = get_or comparisons x no_node

-- the nodes of the numbers x and y, in the order of their tags
abbrev pub nodes_by_tag : ℕ → ℕ → List Node
nodes_by_tag x y =
    True ∷ label_of x y ∷ Not ∷ And ∷ comparison_of x ∷ Probability ∷ Constant x y ∷ Sum ∷ Difference ∷ Product ∷ Next ∷ Until x y ∷ []

-- the node of a tag and two numbers; none has a tag above 11
unfoldable pub node_of : ℕ → ℕ → ℕ → Node
node_of tag x y = get_or (nodes_by_tag x y) tag no_node

-- the node that a code stands for
abbrev pub node_of_code : List ℕ → Node
node_of_code c = node_of (get_or c 0 0) (get_or c 1 0) (get_or c 2 0)

-- the places that 64 codes stand for
abbrev pub places_of_codes : List (List ℕ) → List Node
places_of_codes codes = table 64 (λ i. node_of_code (get_or codes i []))

-- the letters that four numbers stand for: every number but 0 is an `E`
abbrev pub letters_of : List ℕ → List Bool
letters_of exists = table 4 (λ i. not (eqb (get_or exists i 0) 0))

-- the record that lent numbers stand for
abbrev pub sentence_of : ℕ → ℕ → List ℕ → List (List ℕ) → Sentence
sentence_of letters count exists codes =
    record { letters = letters; exists = letters_of exists; count = count; nodes = places_of_codes codes }
