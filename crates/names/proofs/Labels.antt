-- The labels at the places of a tree's nodes are those that occur in the tree (`path_names`), place by place.
use Prim.Native.Nat.{ℕ, zero, suc, ◌+◌, ◌-◌, ◌≤◌, ◌<◌}
use mathlib.Core.Bool.{Bool, true, false, ◌||◌, or-false, or_assoc}
use mathlib.Core.List.{List, [], ◌∷◌}
use mathlib.Core.Path.{◌≡◌, refl, sym, ap, ap₂, subst, ◌∙◌}
use native.Mathlib.Omega.{arith}
use native.Mathlib.Decide.{dec_lt}
use lib.ListN.{length, take, drop, drop_of_length-le, get_or-eq_default}
use Rattle.std.specs.List.{list_any, filter}
use Rattle.std.proofs.lemmas.List.{at_drop_more}
use Rattle.sentence.specs.declared.Node.{Node}
use Rattle.sentence.specs.declared.Node.TheVariants.{True}
use Rattle.meaning.specs.Lists.{below}
use Rattle.meaning.specs.Tree.{Formula, always, labelled, negation, both, compare, PathFormula, next, until}
use Rattle.meaning.specs.Tree.{Expression, probability, constant, sum, difference, product}
use Rattle.meaning.specs.Named.{occurs, occurs_in, occurs_from, Some, count, named}
use Rattle.trees.specs.Standing.{node_at, FormulaAt, ExpressionAt, PathAt}
use Rattle.trees.proofs.Parts.{formula_parts, expression_parts, path_parts}
use Rattle.names.specs.Names.{mentions, mentioned, names_between}

-- one of the k places from p on has a label of the variable i
unfoldable pub mentioned_for : ℕ → List Node → (p k : ℕ) → Bool
mentioned_for i nodes p zero = false
mentioned_for i nodes p (suc k) = mentions i (node_at nodes p) || mentioned_for i nodes (p + 1) k

-- where there is no node, none is
none_among : (i k : ℕ) → list_any (mentions i) (take k []) ≡ false
none_among i zero = refl
none_among i (suc k) = refl

-- that is whether one of the k nodes there is such a label
mentioned_among : (i : ℕ) (nodes : List Node) (p k : ℕ) → mentioned_for i nodes p k ≡ list_any (mentions i) (take k (drop p nodes))
unfolding mentioned_for
mentioned_among i nodes p zero = refl
mentioned_among i nodes p (suc k) = by (dec_lt p (length nodes)) (mentioned_among i nodes (p + 1) k)
  where
    by : Dec (p < length nodes) → mentioned_for i nodes (p + 1) k ≡ list_any (mentions i) (take k (drop (p + 1) nodes)) →
        mentioned_for i nodes p (suc k) ≡ list_any (mentions i) (take (suc k) (drop p nodes))
    by (yes l) rest =
        ap (λ b. mentions i (node_at nodes p) || b) rest ∙
        sym (at_drop_more (λ (ns : List Node). list_any (mentions i) (take (suc k) ns)) nodes p True l)
    by (no n) rest =
        let none : drop p nodes ≡ [] = drop_of_length-le nodes (omega arith) in
        let none' : drop (p + 1) nodes ≡ [] = drop_of_length-le nodes (omega arith) in
        let past : node_at nodes p ≡ True = get_or-eq_default nodes True (omega arith) in
        ap₂ (λ (n : Node) b. mentions i n || b) past (rest ∙ ap (λ (ns : List Node). list_any (mentions i) (take k ns)) none') ∙
        none_among i k ∙ sym (ap (λ (ns : List Node). list_any (mentions i) (take (suc k) ns)) none)

module _ (i : ℕ) (nodes : List Node) where
  -- the places from p up to q, and whether one of them has a label of the variable
  pub record Spans (p q : ℕ) (b : Bool) : Type 0 where
    pub long : ℕ
    pub ends : p + long ≡ q
    pub found : mentioned_for i nodes p long ≡ b

  -- none
  spans_none : (p : ℕ) → Spans p p false
  unfolding mentioned_for
  spans_none p = record { long = 0; ends = omega arith; found = refl }

  -- one place, and those after it
  spans_node : {p q : ℕ} {n : Node} {b : Bool} → node_at nodes p ≡ n → Spans (p + 1) q b → Spans p q (mentions i n || b)
  unfolding mentioned_for
  spans_node {p} e s =
      record {
        long = suc s.long;
        ends = omega (arith, s.ends);
        found = ap₂ (λ x y. mentions i x || y) e s.found;
      }

  -- k places, and m after them
  joined : (k : ℕ) (p m : ℕ) → mentioned_for i nodes p (k + m) ≡ (mentioned_for i nodes p k || mentioned_for i nodes (p + k) m)
  unfolding mentioned_for
  joined zero p m =
      let e : 0 + m ≡ m = omega arith in
      let f : p ≡ p + 0 = omega arith in
      ap₂ (λ x y. mentioned_for i nodes x y) f e
  joined (suc k) p m =
      let r = joined k (p + 1) m in
      let e : suc k + m ≡ suc (k + m) = omega arith in
      let f : p + 1 + k ≡ p + suc k = omega arith in
      ap (mentioned_for i nodes p) e ∙
      ap (λ x. mentions i (node_at nodes p) || x) (r ∙ ap (λ x. mentioned_for i nodes (p + 1) k || mentioned_for i nodes x m) f) ∙
      sym (or_assoc (mentions i (node_at nodes p)) (mentioned_for i nodes (p + 1) k) (mentioned_for i nodes (p + suc k) m))

  -- two stretches of places, one after another
  spans_two : {p m q : ℕ} {a b : Bool} → Spans p m a → Spans m q b → Spans p q (a || b)
  spans_two {p} s t =
      record {
        long = s.long + t.long;
        ends = omega (arith, s.ends, t.ends);
        found =
            joined s.long p t.long ∙
            ap₂ ◌||◌ s.found (ap (λ x. mentioned_for i nodes x t.long) s.ends ∙ t.found);
      }

  -- a node without operands
  spans_leaf : {p q : ℕ} {n : Node} → node_at nodes p ≡ n → p + 1 ≡ q → Spans p q (mentions i n)
  spans_leaf {p} {q} {n} e f =
      subst (Spans p q) (or-false (mentions i n)) (subst (λ x. Spans p x (mentions i n || false)) f (spans_node e (spans_none (p + 1))))

  mutual
    unfolding occurs

    -- the places of a state formula have the labels that occur in it
    pub formula_spans : (f : Formula) (p q : ℕ) → FormulaAt nodes p f q → Spans p q (occurs i f)
    formula_spans always p q h = let w = formula_parts nodes p h in spans_leaf w.0 w.1
    formula_spans (labelled l j) p q h = let w = formula_parts nodes p h in spans_leaf w.0 w.1
    formula_spans (negation f) p q h =
        let w = formula_parts nodes p h in
        spans_node w.0 (formula_spans f (p + 1) q w.1)
    formula_spans (both f g) p q h =
        let w = formula_parts nodes p h in
        let (m, x, y) = w.1 in
        spans_node w.0 (spans_two (formula_spans f (p + 1) m x) (formula_spans g m q y))
    formula_spans (compare r a b) p q h =
        let w = formula_parts nodes p h in
        let (m, x, y) = w.1 in
        spans_node w.0 (spans_two (expression_spans a (p + 1) m x) (expression_spans b m q y))

    -- so have those of an expression
    pub expression_spans : (a : Expression) (p q : ℕ) → ExpressionAt nodes p a q → Spans p q (occurs_in i a)
    expression_spans (probability w) p q h =
        let it = expression_parts nodes p h in
        spans_node it.0 (path_spans w (p + 1) q it.1)
    expression_spans (constant a b) p q h = let w = expression_parts nodes p h in spans_leaf w.0 w.1
    expression_spans (sum a b) p q h =
        let w = expression_parts nodes p h in
        let (m, x, y) = w.1 in
        spans_node w.0 (spans_two (expression_spans a (p + 1) m x) (expression_spans b m q y))
    expression_spans (difference a b) p q h =
        let w = expression_parts nodes p h in
        let (m, x, y) = w.1 in
        spans_node w.0 (spans_two (expression_spans a (p + 1) m x) (expression_spans b m q y))
    expression_spans (product a b) p q h =
        let w = expression_parts nodes p h in
        let (m, x, y) = w.1 in
        spans_node w.0 (spans_two (expression_spans a (p + 1) m x) (expression_spans b m q y))

    -- so have those of a path
    pub path_spans : (w : PathFormula) (p q : ℕ) → PathAt nodes p w q → Spans p q (occurs_from i w)
    path_spans (next f) p q h =
        let w = path_parts nodes p h in
        spans_node w.0 (formula_spans f (p + 1) q w.1)
    path_spans (until k1 k2 f g) p q h =
        let w = path_parts nodes p h in
        let (m, x, y) = w.1 in
        spans_node w.0 (spans_two (formula_spans f (p + 1) m x) (formula_spans g m q y))

  -- the same, of the places p..q
  pub spans_mentioned : {p q : ℕ} {b : Bool} → Spans p q b → mentioned i nodes p q ≡ b
  spans_mentioned {p} {q} s =
      let long : q - p ≡ s.long = omega (arith, s.ends) in
      ap (λ k. list_any (mentions i) (take k (drop p nodes))) long ∙ sym (mentioned_among i nodes p s.long) ∙ s.found

-- the first n of four are those of n
first_of : (w : PathFormula) (n : ℕ) → n ≤ 4 →
    take n (occurs_from 1 w ∷ occurs_from 2 w ∷ occurs_from 3 w ∷ occurs_from 4 w ∷ []) ≡ named w n
unfolding named below
first_of w zero h = refl
first_of w (suc zero) h = refl
first_of w (suc (suc zero)) h = refl
first_of w (suc (suc (suc zero))) h = refl
first_of w (suc (suc (suc (suc zero)))) h = refl
first_of w (suc (suc (suc (suc (suc n))))) h = absurd (omega arith)

-- the variables that a path names are those named at its places
pub path_names : (nodes : List Node) (w : PathFormula) (p q n : ℕ) → PathAt nodes p w q → n ≤ 4 →
    take n (names_between nodes p q) ≡ named w n
path_names nodes w p q n h few =
    let each : (i : ℕ) → mentioned i nodes p q ≡ occurs_from i w = λ i. spans_mentioned i nodes (path_spans i nodes w p q h) in
    (λ x. take n (each 1 x ∷ each 2 x ∷ each 3 x ∷ each 4 x ∷ [])) ∙ first_of w n few

-- its nodes stand at one place at least
pub path_forward : (nodes : List Node) (w : PathFormula) (p q : ℕ) → PathAt nodes p w q → p ≤ q
path_forward nodes w p q h = let s = path_spans 1 nodes w p q h in omega (arith, s.ends)

-- ---- how many

-- what is left of a list of yes and no without each no is as long as there are yes
pub count_kept : (bs : Some) → length (filter (λ b. b) bs) ≡ count bs
unfolding count
count_kept [] = refl
count_kept (true ∷ bs) = ap suc (count_kept bs)
count_kept (false ∷ bs) = count_kept bs

-- no more than n of n
pub count_few : (bs : Some) (n : ℕ) → count (take n bs) ≤ n
unfolding count
count_few bs zero = omega arith
count_few [] (suc n) = omega arith
count_few (true ∷ bs) (suc n) = let r = count_few bs n in omega arith
count_few (false ∷ bs) (suc n) = let r = count_few bs n in omega arith
