-- Document 01, 'Examples on both sides': all that a starred line claims; and examples of T-05, T-07 and T-09. The table of the lines is
-- specs/Examples of the crate `meaning`. A line's numbers and verdicts are claims on the definitions of `meaning`, its text is that of the
-- tree, what it says of merging holds of files (`merge`), and the chain that it speaks of is that of the model's file.
use Prim.Native.String.{String}
use Rattle.std.specs.Prelude.{ℕ, Bool, true, false, ◌&&◌, List, [], ◌∷◌, map, ◌≡◌}
use Rattle.counting.specs.Ascii.{ascii}
use Rattle.model.specs.declared.Model.{Model}
use Rattle.model.specs.Layout.{model_of}
use Rattle.model.specs.Rules.{fields_right, rows_right}
use Rattle.sentence.specs.declared.Kind.{Kind}
use Rattle.sentence.specs.declared.Kind.TheVariants.{Expression}
use Rattle.sentence.specs.declared.Node.{Node}
use Rattle.sentence.specs.Grammar.{Nests, body_text}
use Rattle.meaning.specs.Chain.{Chain}
use Rattle.meaning.specs.Tree.{Letter, Formula, probability, letter_of}
use Rattle.meaning.specs.Examples.{Sketch, M1, sketched, same_chain, Line, fraction, worth, answer, merges, refused_with, met}
use Rattle.trees.specs.Listed.{expression_nodes}
use Rattle.question.specs.Contract.{SentenceOf, area_needed}
use Rattle.chain.specs.Of.{chain_of}
use Rattle.merge.specs.Examples.{model_of_sketch, MergeMet}
use Rattle.demands.specs.Watches.{Lengthened}

-- the nodes are one formula, expression or path of this kind, and the text is theirs
pub record TextOf (kind : Kind) (nodes : List Node) (text : String) : Type 0 where
  pub nests : Nests (kind ∷ []) nodes
  pub spelled : ascii text ≡ body_text nodes

-- the text is that of the sentence with these letters and this body
pub record SentenceText (text : String) (letters : List Letter) (body : Formula) : Type 0 where
  pub sentence : SentenceOf (ascii text)
  pub letters_are : map letter_of sentence.prefix ≡ letters
  pub body_is : sentence.body ≡ body

-- the text of a line is that of its tree; a line on merging has none
unfoldable pub Texted : Line → Type 0
Texted (fraction m text p s top bottom) = TextOf Expression (expression_nodes (probability p)) text
Texted (worth m text e s x) = TextOf Expression (expression_nodes e) text
Texted (answer m text letters body said) = SentenceText text letters body
Texted (merges m grouping result) = Unit
Texted (refused_with m grouping number) = Unit

-- the model that a line speaks of
abbrev pub model_of_line : Line → Sketch
model_of_line (fraction m text p s top bottom) = m
model_of_line (worth m text e s x) = m
model_of_line (answer m text letters body said) = m
model_of_line (merges m grouping result) = m
model_of_line (refused_with m grouping number) = m

-- the chain that the definitions speak of is that of the model
unfoldable pub drawn : Sketch → Bool
drawn m = same_chain (chain_of (model_of_sketch m)) (sketched m)

-- the definitions agree with the line
pub record Met (line : Line) : Type 0 where
  pub means : met line ≡ true
  pub texted : Texted line
  pub merging : MergeMet line
  pub model : drawn (model_of_line line) ≡ true

-- ---- T-05, by M1 with the row of state 1 left empty

-- M1 so, in a version
unfoldable pub M1halted : ℕ → Model
M1halted version =
    let m = model_of_sketch (record { D = 4; masks = 0 ∷ 1 ∷ []; rows = (3 ∷ 1 ∷ []) ∷ (0 ∷ 0 ∷ []) ∷ [] }) in
    model_of m.n m.a m.d version m.masks m.weights

-- in version 1 neither row 4 nor row 5 applies, and the chain is that of M1; in version 0 row 5 applies and row 4 does not, in version 2
-- row 4 does
pub record Halting : Type 0 where
  pub right : (fields_right (M1halted 1) && rows_right (M1halted 1)) ≡ true
  pub chain : same_chain (chain_of (M1halted 1)) (sketched M1) ≡ true
  pub row_5 : (fields_right (M1halted 0) ≡ true) × (rows_right (M1halted 0) ≡ false)
  pub row_4 : fields_right (M1halted 2) ≡ false

-- ---- T-07

-- the numbers of work area that sentences of one, two and more letters need: of a chain with one state, with five, with ten, and of M1
pub record Rooms : Type 0 where
  pub one_state : (c : Chain) → c.N ≡ 1 → (area_needed c 1 ≡ 8) × (area_needed c 4 ≡ 8)
  pub five_states : (c : Chain) → c.N ≡ 5 → (area_needed c 1 ≡ 40) × (area_needed c 4 ≡ 5000)
  pub ten_states : (c : Chain) → c.N ≡ 10 → (area_needed c 2 ≡ 800) × (area_needed c 3 ≡ 8000)
  pub of_M1 : (area_needed (sketched M1) 1 ≡ 16) × (area_needed (sketched M1) 2 ≡ 32)

-- ---- T-09

-- pairs of texts that differ in one k2 alone: of an until that stands second; of one around another; of the one inside
pub record Lengthening : Type 0 where
  pub second : Lengthened (ascii "AE.<PXa2PU0,2:Ta1") (ascii "AE.<PXa2PU0,3:Ta1") 1 0 2 3
  pub around : Lengthened (ascii "A.GPU1,4:T>PU0,2:Ta1#0/1;#1/2;") (ascii "A.GPU1,60:T>PU0,2:Ta1#0/1;#1/2;") 0 1 4 60
  pub inside : Lengthened (ascii "A.GPU1,4:T>PU0,2:Ta1#0/1;#1/2;") (ascii "A.GPU1,4:T>PU0,10:Ta1#0/1;#1/2;") 1 0 2 10
