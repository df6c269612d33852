-- Texts of document 01, 'Examples on both sides', held to the definitions: the text of each list, and what is out of its
-- range. One statement each over a table. Assumes nothing.
use Prim.Native.Nat.{ℕ}
use mathlib.Core.Bool.{Bool, true, false}
use mathlib.Core.List.{List, [], ◌∷◌, map}
use mathlib.Core.Path.{◌≡◌, refl}
use Rattle.numerals.specs.Numeral.{digits, number_text}
use Rattle.sentence.specs.Grammar.{sentence_text, some_out_of_range}
use Rattle.sentence.specs.declared.Relation.TheVariants.{AtMost, Equal, AtLeast}
use Rattle.sentence.specs.declared.Node.{Node}
use Rattle.sentence.specs.declared.Node.TheVariants.{True, Label, Compare, Probability, Constant, Difference, Next, Until}

-- a prefix, its nodes, the text, and whether some node is out of its range
record Example : Type 0 where
  prefix : List Bool
  nodes : List Node
  text : List ℕ
  letters : ℕ
  out : Bool

examples : List Example
examples =
    -- AE.=PXa1PXa2
    record {
      prefix = false ∷ true ∷ [];
      nodes =
          Compare Equal ∷ Probability ∷ Next ∷ Label 0 1 ∷ Probability ∷ Next ∷ Label 0 2 ∷ [];
      text =
          65 ∷ 69 ∷ 46 ∷ 61 ∷ 80 ∷ 88 ∷ 97 ∷ 49 ∷ 80 ∷ 88 ∷ 97 ∷ 50 ∷ [];
      letters = 2;
      out = false;
    }
    -- A.L-#1/4;PXa1#0/1;
    ∷ record {
      prefix = false ∷ [];
      nodes =
          Compare AtMost ∷ Difference ∷ Constant 1 4 ∷ Probability ∷ Next ∷ Label 0 1 ∷ Constant 0 1 ∷ [];
      text =
          65 ∷ 46 ∷ 76 ∷ 45 ∷ 35 ∷ 49 ∷ 47 ∷ 52 ∷ 59 ∷ 80 ∷ 88 ∷ 97 ∷ 49 ∷ 35 ∷ 48 ∷ 47 ∷ 49 ∷ 59 ∷ [];
      letters = 1;
      out = false;
    }
    -- A.GPU0,31:Ta1#0/1;
    ∷ record {
      prefix = false ∷ [];
      nodes = Compare AtLeast ∷ Probability ∷ Until 0 31 ∷ True ∷ Label 0 1 ∷ Constant 0 1 ∷ [];
      text =
          65 ∷ 46 ∷ 71 ∷ 80 ∷ 85 ∷ 48 ∷ 44 ∷ 51 ∷ 49 ∷ 58 ∷ 84 ∷ 97 ∷ 49 ∷ 35 ∷ 48 ∷ 47 ∷ 49 ∷ 59 ∷ [];
      letters = 1;
      out = false;
    }
    -- A.a2, whose variable is above n
    ∷ record { prefix = false ∷ []; nodes = Label 0 2 ∷ []; text = 65 ∷ 46 ∷ 97 ∷ 50 ∷ []; letters = 1; out = true }
    -- A.GPU0,61:TT#65535/1;, whose window is too long
    ∷ record {
      prefix = false ∷ [];
      nodes = Compare AtLeast ∷ Probability ∷ Until 0 61 ∷ True ∷ True ∷ Constant 65535 1 ∷ [];
      text =
          65 ∷ 46 ∷ 71 ∷ 80 ∷ 85 ∷ 48 ∷ 44 ∷ 54 ∷ 49 ∷ 58 ∷ 84 ∷ 84 ∷ 35 ∷ 54 ∷ 53 ∷ 53 ∷ 51 ∷ 53 ∷ 47 ∷ 49 ∷ 59 ∷ [];
      letters = 1;
      out =
          true;
    }
    ∷ []

texts_are : map (λ (e : Example). sentence_text e.prefix e.nodes) examples ≡ map (λ (e : Example). e.text) examples
unfolding examples number_text digits
texts_are = refl

ranges_are : map (λ (e : Example). some_out_of_range e.letters e.nodes) examples ≡ map (λ (e : Example). e.out) examples
unfolding examples
ranges_are = refl
