-- Document 01, 'Examples on both sides': M1, M2 and the lines marked *, with the numbers that they have by T-02, T-02's own, and lines on
-- T-09, in one table. What a line claims of the definitions of this crate is `met`; what it claims of files and of texts stands in
-- specs/Examples of `merge` and of `demands`, which has the one statement over the whole table.
use Rattle.std.specs.Prelude.{ℕ, Bool, true, false, ◌&&◌, List, [], ◌∷◌, eqb, pos, ◌-ℤ◌, get_or, length}
use Prim.Native.String.{String}
use Rattle.std.specs.Bool.{beq}
use Rattle.counting.specs.Entries.{cell, bit_of}
use Rattle.meaning.specs.Lists.{below, every}
use Rattle.meaning.specs.Chain.{Chain, Tuple}
use Rattle.meaning.specs.Tree.{at_most, equal, greater}
use Rattle.meaning.specs.Tree.{Formula, always, labelled, negation, both, compare}
use Rattle.meaning.specs.Tree.{Expression, probability, constant, difference}
use Rattle.meaning.specs.Tree.{PathFormula, next, until, Letter, for_all, exists}
use Rattle.meaning.specs.Meaning.{Fraction, compared, value, numerator, denominator, verdict}
use Rattle.meaning.specs.Merging.{merged}

-- ---- the models

-- a model as the document writes it, with A = 1: D, a mask for each state, a row of weights for each state
pub record Sketch : Type 0 where
  pub D : ℕ
  pub masks : List ℕ
  pub rows : List (List ℕ)

-- M1: N = 2, A = 1, D = 4; masks 0 and 1; rows 3 1 and 0 4
unfoldable pub M1 : Sketch
M1 = record { D = 4; masks = 0 ∷ 1 ∷ []; rows = (3 ∷ 1 ∷ []) ∷ (0 ∷ 4 ∷ []) ∷ [] }

-- M2: N = 3, A = 1, D = 4; masks 0, 1, 1; rows 2 1 1, 0 3 1, 0 0 4
unfoldable pub M2 : Sketch
M2 = record { D = 4; masks = 0 ∷ 1 ∷ 1 ∷ []; rows = (2 ∷ 1 ∷ 1 ∷ []) ∷ (0 ∷ 3 ∷ 1 ∷ []) ∷ (0 ∷ 0 ∷ 4 ∷ []) ∷ [] }

-- M2 merged: rows 2 2 and 0 4
unfoldable pub M2merged : Sketch
M2merged = record { D = 4; masks = 0 ∷ 1 ∷ []; rows = (2 ∷ 2 ∷ []) ∷ (0 ∷ 4 ∷ []) ∷ [] }

-- the chain of a model: label l of a state is bit l of its mask
unfoldable pub sketched : Sketch → Chain
sketched m =
    record {
      N = length m.rows;
      D = m.D;
      weight = cell m.rows;
      label = λ l s. eqb (bit_of l (get_or m.masks s 0)) 1;
    }

-- two chains are the same: N, D, the weights between states, and which states have label 0, the one that there is
unfoldable pub same_chain : Chain → Chain → Bool
same_chain c d =
    eqb c.N d.N && eqb c.D d.D &&
    every (λ s. every (λ t. eqb (c.weight s t) (d.weight s t)) (below c.N)) (below c.N) &&
    every (λ s. beq (c.label 0 s) (d.label 0 s)) (below c.N)

-- ---- the lines

-- a line, with the text that the document gives: at a tuple a path has this numerator and denominator; at a tuple an expression is
-- this fraction; a sentence has this verdict; a model and a grouping merge to a model, or are refused with a number
pub data Line : Type 0 where
  fraction : Sketch → String → PathFormula → Tuple → (top bottom : ℕ) → Line
  worth : Sketch → String → Expression → Tuple → Fraction → Line
  answer : Sketch → String → List Letter → Formula → Bool → Line
  merges : Sketch → List ℕ → Sketch → Line
  refused_with : Sketch → List ℕ → ℕ → Line

-- the definitions of this crate agree with the line; a refusal is one of files, on which they are silent
unfoldable pub met : Line → Bool
met (fraction m text p s top bottom) =
    eqb (numerator p (sketched m) (length s) s) top && eqb (denominator p m.D (length s)) bottom
met (worth m text e s x) = compared equal (value e (sketched m) (length s) s) x
met (answer m text letters body said) = beq (verdict (sketched m) letters body) said
met (merges m grouping result) =
    same_chain (merged (sketched m) (λ s. get_or grouping s 0) (length result.rows)) (sketched result)
met (refused_with m grouping number) = true

-- `a1`: the state of variable 1 has label 0
a1 : Formula
a1 = labelled 0 1

-- `a2`: that of variable 2 has it
a2 : Formula
a2 = labelled 0 2

-- `PXa1`
Xa1 : Expression
unfolding a1
Xa1 = probability (next a1)

-- `PXa2`
Xa2 : Expression
unfolding a2
Xa2 = probability (next a2)

-- the lines marked *
unfoldable pub lines : List Line
unfolding a1 a2 Xa1 Xa2
lines =
    -- M1, `PXa1`, n = 1: 1/4 at state 0, 4/4 at state 1
    fraction M1 "PXa1" (next a1) (0 ∷ []) 1 4 ∷
    fraction M1 "PXa1" (next a1) (1 ∷ []) 4 4 ∷
    -- `PU0,2:Ta1`: 7/16 and 16/16
    fraction M1 "PU0,2:Ta1" (until 0 2 always a1) (0 ∷ []) 7 16 ∷
    fraction M1 "PU0,2:Ta1" (until 0 2 always a1) (1 ∷ []) 16 16 ∷
    -- `PU2,2:!a1a1`: 3/16 and 0/16
    fraction M1 "PU2,2:!a1a1" (until 2 2 (negation a1) a1) (0 ∷ []) 3 16 ∷
    fraction M1 "PU2,2:!a1a1" (until 2 2 (negation a1) a1) (1 ∷ []) 0 16 ∷
    -- `PU0,2:!a1a1` at state 1: 16/16
    fraction M1 "PU0,2:!a1a1" (until 0 2 (negation a1) a1) (1 ∷ []) 16 16 ∷
    -- `PX&a1a2`, n = 2: 1/16 at (0,0), 4/16 at (0,1)
    fraction M1 "PX&a1a2" (next (both a1 a2)) (0 ∷ 0 ∷ []) 1 16 ∷
    fraction M1 "PX&a1a2" (next (both a1 a2)) (0 ∷ 1 ∷ []) 4 16 ∷
    -- `AA.=PXa1PXa2` fails; `AE.=PXa1PXa2` holds
    answer M1 "AA.=PXa1PXa2" (for_all ∷ for_all ∷ []) (compare equal Xa1 Xa2) false ∷
    answer M1 "AE.=PXa1PXa2" (for_all ∷ exists ∷ []) (compare equal Xa1 Xa2) true ∷
    -- `A.L-#1/4;PXa1#0/1;` holds; with `=` for `L` it fails (−3/4 at state 1)
    answer M1 "A.L-#1/4;PXa1#0/1;" (for_all ∷ []) (compare at_most (difference (constant 1 4) Xa1) (constant 0 1)) true ∷
    answer M1 "A.=-#1/4;PXa1#0/1;" (for_all ∷ []) (compare equal (difference (constant 1 4) Xa1) (constant 0 1)) false ∷
    worth M1 "-#1/4;PXa1" (difference (constant 1 4) Xa1) (1 ∷ []) (record { top = pos 0 -ℤ pos 3; bottom = 4 }) ∷
    -- `A.=PU0,0:TT#1/1;` holds
    answer M1 "A.=PU0,0:TT#1/1;" (for_all ∷ []) (compare equal (probability (until 0 0 always always)) (constant 1 1)) true ∷
    -- M2 with grouping 0 1 1 merges to rows 2 2 and 0 4; `PU0,2:Ta1` at state 0 is 12/16 in both
    merges M2 (0 ∷ 1 ∷ 1 ∷ []) M2merged ∷
    fraction M2 "PU0,2:Ta1" (until 0 2 always a1) (0 ∷ []) 12 16 ∷
    fraction M2merged "PU0,2:Ta1" (until 0 2 always a1) (0 ∷ []) 12 16 ∷
    -- 0 0 1: 13; 0 2 2: 12; 0 1 2 gives the same file back
    refused_with M2 (0 ∷ 0 ∷ 1 ∷ []) 13 ∷
    refused_with M2 (0 ∷ 2 ∷ 2 ∷ []) 12 ∷
    merges M2 (0 ∷ 1 ∷ 2 ∷ []) M2 ∷
    -- T-02: `PXa1`, n = 2: 1/4 at (0,0); a nested path names variables too; where none is named, 1/1 or 0/1
    fraction M1 "PXa1" (next a1) (0 ∷ 0 ∷ []) 1 4 ∷
    fraction M1 "PX&a1>PXa2#0/1;" (next (both a1 (compare greater Xa2 (constant 0 1)))) (0 ∷ 0 ∷ []) 4 16 ∷
    fraction M1 "PU0,2:TT" (until 0 2 always always) (0 ∷ 0 ∷ []) 1 1 ∷
    fraction M1 "PX!T" (next (negation always)) (0 ∷ 0 ∷ []) 0 1 ∷
    -- T-09: with one step more than `PU0,2:Ta1` 7 × 4 and 9 more at state 0, just 16 × 4 at state 1
    fraction M1 "PU0,3:Ta1" (until 0 3 always a1) (0 ∷ []) 37 64 ∷
    fraction M1 "PU0,3:Ta1" (until 0 3 always a1) (1 ∷ []) 64 64 ∷
    -- with k1 raised too runs may be lost: `PU0,0:!a1a1` at state 1 is 1/1, `PU1,1:!a1a1` 0/4
    fraction M1 "PU0,0:!a1a1" (until 0 0 (negation a1) a1) (1 ∷ []) 1 1 ∷
    fraction M1 "PU1,1:!a1a1" (until 1 1 (negation a1) a1) (1 ∷ []) 0 4 ∷
    []
