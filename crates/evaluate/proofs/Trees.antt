-- A tree of any kind: its place, its need and its survey, what the trees under it are evaluated with, and what is left, by the
-- node at the place.
use Prim.Native.Nat.{ℕ, ◌+◌, ◌-◌, ◌*◌, ◌≤◌, ◌<◌}
use mathlib.Core.Bool.{false, ◌||◌}
use mathlib.Core.List.{List}
use mathlib.Core.Path.{◌≡◌, sym, subst}
use native.Mathlib.Omega.{arith}
use lib.ListN.{length}
use mir.Syntax.{w64}
use mir.Val.{Fits}
use Rattle.sentence.specs.declared.Kind.{Kind}
use Rattle.sentence.specs.declared.Kind.TheVariants.{State, Expression as ExpressionKind, Path as PathKind}
use Rattle.sentence.specs.declared.Node.{Node}
use Rattle.meaning.specs.Chain.{Chain}
use Rattle.meaning.specs.Tree.{Formula, Expression}
use Rattle.meaning.specs.Size.{size_limit, size, exceeds, exceeds_in}
use Rattle.meaning.proofs.Bounds.{size_fits}
use Rattle.meaning.proofs.Tests.{or_left, or_right}
use Rattle.layers.specs.Held.{most_variables}
use Rattle.trees.specs.Need.{paired}
use Rattle.trees.specs.Standing.{Tree, node_at}
use Rattle.trees.proofs.Cases.{FormulaCase, formula_case, formula_place, ExpressionCase, expression_case, expression_place}
use Rattle.trees.proofs.Cases.{PathCase, path_case, path_place}
use Rattle.surveys.specs.declared.Extent.{Extent}
use Rattle.surveys.specs.Surveys.{TreeSurveyed}
use Rattle.layers.specs.declared.Setting.{Setting}
use Rattle.evaluate.specs.Evaluation.{Fixed, TreeAt, TreeRanged, tree_exceeds, tree_need, tree_denominator, Evaluated}
use Rattle.evaluate.specs.Evaluation.{TreeReady, TreesReady, TreeDone}
use Rattle.evaluate.proofs.Needing.{need_some, need_in_some, need_from_some, room_of}

-- ---- by the kind

-- it needs a layer
pub tree_need_some : (k : Kind) (t : Tree k) → 1 ≤ tree_need k t
tree_need_some State f = need_some f
tree_need_some ExpressionKind a = need_in_some a
tree_need_some PathKind w = need_from_some w

-- there is a place for its first node
pub tree_place : (k : Kind) (nodes : List Node) (at : ℕ) (t : Tree k) (q : ℕ) → TreeAt k nodes at t q → at < 64
tree_place State nodes at f q = formula_place nodes at
tree_place ExpressionKind nodes at a q = expression_place nodes at
tree_place PathKind nodes at w q = path_place nodes at

-- where it ends and what it needs, as its survey found
pub tree_surveyed : (k : Kind) {nodes : List Node} {at : ℕ} {r : Extent} → TreeSurveyed nodes at r → (t : Tree k) (q : ℕ) →
    TreeAt k nodes at t q → (r.next ≡ q) × (r.layers ≡ tree_need k t)
tree_surveyed State s = s.formula
tree_surveyed ExpressionKind s = s.expression
tree_surveyed PathKind s = s.path

-- the case of the node at its place
abbrev pub TreeCase : (k : Kind) → List Node → ℕ → Node → Tree k → ℕ → Type 0
TreeCase State nodes at n f q = FormulaCase nodes at n f q
TreeCase ExpressionKind nodes at n a q = ExpressionCase nodes at n a q
TreeCase PathKind nodes at n w q = PathCase nodes at n w q

tree_case : (k : Kind) (nodes : List Node) (at : ℕ) (t : Tree k) (q : ℕ) (n : Node) → node_at nodes at ≡ n → TreeAt k nodes at t q →
    TreeCase k nodes at n t q
tree_case State nodes at f q = formula_case nodes at
tree_case ExpressionKind nodes at a q = expression_case nodes at
tree_case PathKind nodes at w q = path_case nodes at

-- ---- what a tree is evaluated with

module _ {nodes : List Node} {g : Setting} {masks : List ℕ} {rows : List (List ℕ)} {c : Chain} (fixed : Fixed c masks rows g)
    (few : g.variables ≤ most_variables) (k : Kind) {at : ℕ} {w : List ℕ} where
  -- a tree
  unfoldable pub tree_ready : (t : Tree k) (q : ℕ) → TreeAt k nodes at t q → TreeRanged k g.variables t →
      tree_exceeds k t c.D g.variables ≡ false → tree_denominator k t c.D g.variables ≤ size_limit →
      tree_need k t * g.tuples ≤ length w → TreeReady k nodes g masks rows at w
  tree_ready t q stands ranged fits small room = record {
    chain = c;
    fixed = fixed;
    few = few;
    tree = t;
    end = q;
    stands = stands;
    ranged = ranged;
    fits = fits;
    small = small;
    room = room;
  }

  -- two trees
  unfoldable pub trees_ready : (t u : Tree k) (m q : ℕ) → TreeAt k nodes at t m → TreeAt k nodes m u q →
      TreeRanged k g.variables t × TreeRanged k g.variables u →
      (tree_exceeds k t c.D g.variables ≡ false) × (tree_exceeds k u c.D g.variables ≡ false) →
      (tree_denominator k t c.D g.variables ≤ size_limit) × (tree_denominator k u c.D g.variables ≤ size_limit) →
      paired (tree_need k t) (tree_need k u) * g.tuples ≤ length w → TreesReady k nodes g masks rows at w
  trees_ready t u m q stands follows ranged fit small room = record {
    chain = c;
    fixed = fixed;
    few = few;
    first = t;
    second = u;
    middle = m;
    end = q;
    stands = stands;
    follows = follows;
    ranged = ranged;
    fits = fit.0;
    fits' = fit.1;
    small = small.0;
    small' = small.1;
    room = room;
  }

module _ {k : Kind} {nodes : List Node} {g : Setting} {masks : List ℕ} {rows : List (List ℕ)} {at : ℕ} {w : List ℕ}
    (ready : TreeReady k nodes g masks rows at w) where
  -- there is a place for the node
  pub tree_inside : at < 64
  tree_inside = tree_place k nodes at ready.tree ready.end ready.stands

  -- the place after the node is a number of 64 bits
  pub next_fits : Fits w64 (at + 1)
  next_fits = let h = tree_inside in record { fits = omega arith }

  -- a node is counted four times, so that the functions for a tree of a kind, for two operands and for an operation on them stand
  -- between a node and the next: the count falls from the node to its one operand,
  pub to_operand : {t : ℕ} → 4 * (64 - at) ≡ t → 4 * (64 - (at + 1)) < t
  to_operand measure = let h = tree_inside in omega arith

  -- to its two operands,
  pub to_operands : {t : ℕ} → 4 * (64 - at) ≡ t → 4 * (64 - (at + 1)) + 2 < t
  to_operands measure = let h = tree_inside in omega arith

  -- and to an operation on them
  pub to_operation : {t : ℕ} → 4 * (64 - at) ≡ t → 4 * (64 - (at + 1)) + 3 < t
  to_operation measure = let h = tree_inside in omega arith

  -- there is room for its own layer
  pub tree_room : g.tuples ≤ length w
  tree_room =
      let p = room_of g.tuples (tree_need_some k ready.tree) ready.room in
      omega arith

  -- its ranges, its size and its room, of the tree that it is by its node
  pub known : {t : Tree k} → ready.tree ≡ t →
      TreeRanged k g.variables t × (tree_exceeds k t ready.chain.D g.variables ≡ false) × (tree_need k t * g.tuples ≤ length w)
  known e =
      subst (λ (t : Tree k). TreeRanged k g.variables t × (tree_exceeds k t ready.chain.D g.variables ≡ false) ×
      (tree_need k t * g.tuples ≤ length w)) e (ready.ranged, ready.fits, ready.room)

-- the size rule refuses neither of two state formulas, where it does not refuse what is made of both
pub formulas_small : (f h : Formula) (D n : ℕ) → exceeds f D n || exceeds h D n ≡ false → (exceeds f D n ≡ false) × (exceeds h D n ≡ false)
formulas_small f h D n fits = (or_left (exceeds f D n) (exceeds h D n) fits, or_right (exceeds f D n) (exceeds h D n) fits)

-- the denominators of two expressions that it does not refuse are at most 2^62
pub expressions_bounded : (a b : Expression) (D n : ℕ) → (exceeds_in a D n ≡ false) × (exceeds_in b D n ≡ false) →
    ((size a D n).d ≤ size_limit) × ((size b D n).d ≤ size_limit)
expressions_bounded a b D n small = ((size_fits a D n small.0).0, (size_fits b D n small.1).0)

-- ---- what is left

-- by the case of the node: what is left of the tree that the case has is left of whatever tree stands there
pub by_case : {k : Kind} {nodes : List Node} {g : Setting} {masks : List ℕ} {rows : List (List ℕ)} {at : ℕ} {after : List ℕ}
    {next bottom : ℕ} (n : Node) → node_at nodes at ≡ n →
    ((c : Chain) (t : Tree k) (q : ℕ) → Fixed c masks rows g → TreeAt k nodes at t q → TreeCase k nodes at n t q →
    tree_exceeds k t c.D g.variables ≡ false → (u : Tree k) × (t ≡ u) × Evaluated k g c u q after next bottom) →
    TreeDone k nodes g masks rows at after next bottom
by_case {k} {nodes} {g} {at = at} {after = after} {next = next} {bottom = bottom} n e h = record {
  each = λ c t q fixed stands fits.
      let it = h c t q fixed stands (tree_case k nodes at t q n e stands) fits in
      subst (λ (t : Tree k). Evaluated k g c t q after next bottom) (sym it.1) it.2;
}
