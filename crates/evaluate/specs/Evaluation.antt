-- Working: what the functions of this crate promise one another. Nothing here has to be believed.
--
-- What evaluating a tree's nodes asks and leaves: the front layer of the work area holds, at every tuple, the meaning's
-- own function of the tree that stands at the place.
use Rattle.std.specs.Prelude.{ℕ, ◌*◌, ◌≤◌, ◌<◌, Bool, false, List, ◌≡◌, eqb, length, drop}
use Rattle.sentence.specs.declared.Kind.{Kind}
use Rattle.sentence.specs.declared.Kind.TheVariants.{State, Expression as ExpressionKind, Path as PathKind}
use Rattle.sentence.specs.declared.Node.{Node}
use Rattle.meaning.specs.Chain.{Chain, Tuple}
use Rattle.meaning.specs.Tree.{Expression}
use Rattle.meaning.specs.Meaning.{holds, numerator, denominator}
use Rattle.meaning.specs.Size.{size_limit, size, exceeds, exceeds_in, exceeds_from}
use Rattle.layers.specs.Layers.{Layer, truth, bit_at}
use Rattle.layers.specs.Held.{most_variables, Holds, LayerSizes}
use Rattle.fractions.specs.Values.{numerator_codes, expression_of}
use Rattle.fractions.specs.declared.Operation.{Operation}
use Rattle.trees.specs.Need.{paired, need, need_in, need_from}
use Rattle.trees.specs.Ranged.{Ranged, RangedIn, RangedFrom}
use Rattle.trees.specs.Standing.{Tree, FormulaAt, ExpressionAt, PathAt}
use Rattle.layers.specs.declared.Setting.{Setting}
use Rattle.path_steps.specs.declared.Evaluation.{Evaluation}

-- the chain is the one that the masks and the rows hold, in this setting
pub record Fixed (c : Chain) (masks : List ℕ) (rows : List (List ℕ)) (g : Setting) : Type 0 where
  pub held : Holds c rows g.states
  pub labels : (l s : ℕ) → s < g.states → c.label l s ≡ eqb (bit_at masks l s) 1
  pub sums : c.D ≡ g.d
  pub weighed : 1 ≤ g.d
  pub sizes : LayerSizes g.states g.variables g.tuples

-- ---- what each kind of trees brings

-- the tree stands from place p on, up to place q
abbrev pub TreeAt : (k : Kind) → List Node → ℕ → Tree k → ℕ → Type 0
TreeAt State nodes p f q = FormulaAt nodes p f q
TreeAt ExpressionKind nodes p a q = ExpressionAt nodes p a q
TreeAt PathKind nodes p w q = PathAt nodes p w q

-- its numbers are in their ranges, in a sentence of n letters
abbrev pub TreeRanged : (k : Kind) → ℕ → Tree k → Type 0
TreeRanged State n f = Ranged n f
TreeRanged ExpressionKind n a = RangedIn n a
TreeRanged PathKind n w = RangedFrom n w

-- the size rule refuses it
abbrev pub tree_exceeds : (k : Kind) → Tree k → (D n : ℕ) → Bool
tree_exceeds State f D n = exceeds f D n
tree_exceeds ExpressionKind a D n = exceeds_in a D n
tree_exceeds PathKind w D n = exceeds_from w D n

-- how many layers it needs
abbrev pub tree_need : (k : Kind) → Tree k → ℕ
tree_need State f = need f
tree_need ExpressionKind a = need_in a
tree_need PathKind w = need_from w

-- the number that stands for its value at a tuple: a state formula's truth, the code of an expression's numerator, a path's numerator
abbrev pub tree_number : (k : Kind) → Tree k → Chain → ℕ → Tuple → ℕ
tree_number State f c n = truth (λ t. holds f c n t)
tree_number ExpressionKind a c n = numerator_codes a c n
tree_number PathKind w c n = numerator w c n

-- its denominator; a state formula's is 1
abbrev pub tree_denominator : (k : Kind) → Tree k → (D n : ℕ) → ℕ
tree_denominator State f D n = 1
tree_denominator ExpressionKind a D n = (size a D n).d
tree_denominator PathKind w D n = denominator w D n

-- ---- trees of a kind

module _ (k : Kind) (g : Setting) (c : Chain) where
  -- a tree that ends at q: the place after it, its denominator, and its numbers in the front layer
  abbrev pub Evaluated : (t : Tree k) (q : ℕ) (after : List ℕ) (next bottom : ℕ) → Type 0
  Evaluated t q after next bottom =
      (next ≡ q) × (bottom ≡ tree_denominator k t c.D g.variables) ×
      Layer c.N g.variables (tree_number k t c g.variables) after

  -- two, the second of which ends at q: the place after both, their denominators, and their numbers in the first two layers
  abbrev pub EvaluatedTwo : (t u : Tree k) (q : ℕ) (after : List ℕ) (next first second : ℕ) → Type 0
  EvaluatedTwo t u q after next first second =
      (next ≡ q) × (first ≡ tree_denominator k t c.D g.variables) × (second ≡ tree_denominator k u c.D g.variables) ×
      Layer c.N g.variables (tree_number k t c g.variables) after ×
      Layer c.N g.variables (tree_number k u c g.variables) (drop g.tuples after)

module _ (k : Kind) (nodes : List Node) (g : Setting) (masks : List ℕ) (rows : List (List ℕ)) where
  -- a tree of the kind stands at the place; its numbers are in their ranges, the size rule does not refuse it, its denominator is
  -- at most 2^62, and there is room for the layers that it needs
  pub record TreeReady (at : ℕ) (w : List ℕ) : Type 0 where
    pub chain : Chain
    pub fixed : Fixed chain masks rows g
    pub few : g.variables ≤ most_variables
    pub tree : Tree k
    pub end : ℕ
    pub stands : TreeAt k nodes at tree end
    pub ranged : TreeRanged k g.variables tree
    pub fits : tree_exceeds k tree chain.D g.variables ≡ false
    pub small : tree_denominator k tree chain.D g.variables ≤ size_limit
    pub room : tree_need k tree * g.tuples ≤ length w

  -- two of them, one after another
  pub record TreesReady (at : ℕ) (w : List ℕ) : Type 0 where
    pub chain : Chain
    pub fixed : Fixed chain masks rows g
    pub few : g.variables ≤ most_variables
    pub first : Tree k
    pub second : Tree k
    pub middle : ℕ
    pub end : ℕ
    pub stands : TreeAt k nodes at first middle
    pub follows : TreeAt k nodes middle second end
    pub ranged : TreeRanged k g.variables first × TreeRanged k g.variables second
    pub fits : tree_exceeds k first chain.D g.variables ≡ false
    pub fits' : tree_exceeds k second chain.D g.variables ≡ false
    pub small : tree_denominator k first chain.D g.variables ≤ size_limit
    pub small' : tree_denominator k second chain.D g.variables ≤ size_limit
    pub room : paired (tree_need k first) (tree_need k second) * g.tuples ≤ length w

  -- what is left of whatever tree of the kind stands there and of whatever chain is held
  pub record TreeDone (at : ℕ) (after : List ℕ) (next bottom : ℕ) : Type 0 where
    pub each : (c : Chain) (t : Tree k) (q : ℕ) → Fixed c masks rows g → TreeAt k nodes at t q →
        tree_exceeds k t c.D g.variables ≡ false → Evaluated k g c t q after next bottom

  -- of two of them
  pub record TreesDone (at : ℕ) (after : List ℕ) (next first second : ℕ) : Type 0 where
    pub each : (c : Chain) (t u : Tree k) (m q : ℕ) → Fixed c masks rows g → TreeAt k nodes at t m → TreeAt k nodes m u q →
        tree_exceeds k t c.D g.variables ≡ false → tree_exceeds k u c.D g.variables ≡ false →
        EvaluatedTwo k g c t u q after next first second

-- ---- two expressions and what an operation makes of them

module _ (op : Operation) (nodes : List Node) (g : Setting) (masks : List ℕ) (rows : List (List ℕ)) where
  -- they stand one after another, and the size rule does not refuse what is made of them
  pub record CombinedReady (at : ℕ) (w : List ℕ) : Type 0 where
    pub two : TreesReady ExpressionKind nodes g masks rows at w
    pub fits : exceeds_in (expression_of op two.first two.second) two.chain.D g.variables ≡ false

  -- the place after both, the denominator of what is made of them, and its numerators in the front layer
  pub record CombinedDone (at : ℕ) (after : List ℕ) (next bottom : ℕ) : Type 0 where
    pub each : (c : Chain) (a b : Expression) (m q : ℕ) → Fixed c masks rows g → ExpressionAt nodes at a m →
        ExpressionAt nodes m b q → exceeds_in (expression_of op a b) c.D g.variables ≡ false →
        Evaluated ExpressionKind g c (expression_of op a b) q after next bottom

-- ---- the same, over an evaluation
module _ (k : Kind) (over : Evaluation) where
  -- what evaluating a tree asks
  abbrev pub Ready : (at : ℕ) (w : List ℕ) → Type 0
  Ready at w = TreeReady k over.nodes.now over.setting over.masks.now over.rows.now at w

  -- what is left of it
  abbrev pub Done : (at : ℕ) (after : List ℕ) (next bottom : ℕ) → Type 0
  Done at after next bottom = TreeDone k over.nodes.now over.setting over.masks.now over.rows.now at after next bottom

  -- of two trees
  abbrev pub BothReady : (at : ℕ) (w : List ℕ) → Type 0
  BothReady at w = TreesReady k over.nodes.now over.setting over.masks.now over.rows.now at w

  abbrev pub BothDone : (at : ℕ) (after : List ℕ) (next first second : ℕ) → Type 0
  BothDone at after next first second =
      TreesDone k over.nodes.now over.setting over.masks.now over.rows.now at after next first second

module _ (op : Operation) (over : Evaluation) where
  -- of two expressions and an operation on them
  abbrev pub CombinationReady : (at : ℕ) (w : List ℕ) → Type 0
  CombinationReady at w = CombinedReady op over.nodes.now over.setting over.masks.now over.rows.now at w

  abbrev pub CombinationDone : (at : ℕ) (after : List ℕ) (next bottom : ℕ) → Type 0
  CombinationDone at after next bottom =
      CombinedDone op over.nodes.now over.setting over.masks.now over.rows.now at after next bottom
