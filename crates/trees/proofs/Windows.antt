-- Two bodies whose nodes differ in one until's k2 alone: the path formula there is that until in the one and in the other, with the
-- same two formulas. Assumes nothing.
use Prim.Native.Nat.{ℕ, zero, suc, ◌+◌, ◌-◌, ◌≤◌, ◌<◌}
use mathlib.Core.Bool.{Bool}
use mathlib.Core.List.{List, [], ◌∷◌, ◌++◌, append_assoc, append-nil}
use mathlib.Core.Path.{◌≡◌, refl, sym, ap, ap₂, subst, ◌∙◌}
use native.Mathlib.Nat.{not-suc-le-zero}
use native.Mathlib.Omega.{arith}
use lib.ListN.{length, get_or, replicate, length-append}
use Rattle.sentence.specs.Record.{record_of}
use Rattle.sentence.specs.declared.Node.{Node}
use Rattle.sentence.specs.declared.Node.TheVariants.{True, Until}
use Rattle.meaning.specs.Tree.{Formula, PathFormula, until, paths_of}
use Rattle.trees.specs.Listed.{formula_nodes, path_nodes, starts_path, path_count}
use Rattle.trees.specs.Standing.{node_at}
use Rattle.trees.specs.Numbered.{paths_below}
use Rattle.trees.proofs.Once.{path_begins, formula_once}
use Rattle.trees.proofs.Stretch.{Stretch, split, record_stretch}
use Rattle.trees.proofs.Numbered.{below_more, below_zero, path_numbered, record_paths}

-- ---- lists that stand at places

module _ (nodes : List Node) where
  -- where a list ends
  stretch_end : (p : ℕ) (ns : List Node) (q : ℕ) → Stretch nodes p ns q → p + length ns ≡ q
  stretch_end p [] q h = omega arith
  stretch_end p (n ∷ ns) q h = let r = stretch_end (p + 1) ns q h.2 in omega arith

  -- how many paths start at its places
  stretch_paths : (p : ℕ) (ns : List Node) (q : ℕ) → Stretch nodes p ns q → paths_below nodes q ≡ paths_below nodes p + path_count ns
  unfolding path_count
  stretch_paths p [] q h = let e : paths_below nodes q ≡ paths_below nodes p = ap (paths_below nodes) (sym h) in omega arith
  stretch_paths p (n ∷ ns) q h =
      let here = below_more nodes p (starts_path n) (ap starts_path h.1) in
      let rest = stretch_paths (p + 1) ns q h.2 in
      omega (arith, here, rest)

  -- of two lists that stand from one place on, one is the front of the other
  stretch_both : (p : ℕ) (ms ns : List Node) (q r : ℕ) → Stretch nodes p ms q → Stretch nodes p ns r →
      (xs : List Node) × (ys : List Node) × (ms ++ xs ≡ ns ++ ys)
  stretch_both p [] ns q r h k = (ns, [], sym (append-nil ns))
  stretch_both p (m ∷ ms) [] q r h k = ([], m ∷ ms, append-nil (m ∷ ms))
  stretch_both p (m ∷ ms) (n ∷ ns) q r h k =
      let rest = stretch_both (p + 1) ms ns q r h.2 k.2 in
      (rest.0, rest.1, ap₂ (λ (x : Node) (l : List Node). x ∷ l) (sym h.1 ∙ k.1) rest.2)

-- a list stands at the same places of another record that has the same nodes there
stretch_moved : (nodes other : List Node) (m : ℕ) → ((i : ℕ) → m < i → node_at nodes i ≡ node_at other i) → (p : ℕ) → m < p →
    (ns : List Node) (q : ℕ) → Stretch nodes p ns q → Stretch other p ns q
stretch_moved nodes other m same p l [] q h = h
stretch_moved nodes other m same p l (n ∷ ns) q h =
    (h.0, sym (same p l) ∙ h.1, stretch_moved nodes other m same (p + 1) (omega arith) ns q h.2)

-- ---- two lists that differ in one node

module _ (back : List Node) (x y : Node) where
  -- they are equally long
  as_many : (front : List Node) → length (front ++ (x ∷ back)) ≡ length (front ++ (y ∷ back))
  as_many [] = refl
  as_many (n ∷ front) = ap suc (as_many front)

  -- and past that node they have the same
  past_it : (front rest : List Node) (i : ℕ) → length front < i →
      get_or ((front ++ (x ∷ back)) ++ rest) i True ≡ get_or ((front ++ (y ∷ back)) ++ rest) i True
  past_it front rest zero h = absurd (not-suc-le-zero h)
  past_it [] rest (suc i) h = refl
  past_it (n ∷ front) rest (suc i) h = past_it front rest i (omega arith)

  -- so do their records
  past_records : (ps : List Bool) (front : List Node) (i : ℕ) → length front < i →
      node_at (record_of ps (front ++ (x ∷ back))).nodes i ≡ node_at (record_of ps (front ++ (y ∷ back))).nodes i
  unfolding record_of
  past_records ps front i h =
      ap (λ (k : ℕ). get_or ((front ++ (x ∷ back)) ++ replicate (64 - k) True) i True) (as_many front) ∙
      past_it front (replicate (64 - length (front ++ (y ∷ back))) True) i h

-- ---- the until there

-- the path formula whose node is behind `front`: an until, whose formulas stand from the next place on
record UntilThere (nodes : List Node) (front : List Node) (k1 k2 : ℕ) (w : PathFormula) : Type 0 where
  first : Formula
  second : Formula
  is : w ≡ until k1 k2 first second
  end : ℕ
  stand : Stretch nodes (length front + 1) (formula_nodes first ++ formula_nodes second) end

-- a path whose nodes stand where an until's node does
until_begins : (nodes : List Node) (front : List Node) (k1 k2 : ℕ) (w : PathFormula) (e : ℕ) → length front < 64 →
    node_at nodes (length front) ≡ Until k1 k2 → Stretch nodes (length front) (path_nodes w) e → UntilThere nodes front k1 k2 w
unfolding path_nodes
until_begins nodes front k1 k2 w e low here h =
    let m = length front in
    let one = stretch_both nodes m (Until k1 k2 ∷ []) (path_nodes w) (m + 1) e (low, here, refl) h in
    let begins = path_begins (Until k1 k2) one.0 w one.1 one.2 in
    record {
      first = begins.0;
      second = begins.1;
      is = begins.2;
      end = e;
      stand = (subst (λ (x : PathFormula). Stretch nodes m (path_nodes x) e) begins.2 h).2;
    }

module _ (ps : List Bool) (front back : List Node) (k1 k2 : ℕ) (body : Formula) (d : PathFormula) where
  until_there : front ++ (Until k1 k2 ∷ back) ≡ formula_nodes body → length (front ++ (Until k1 k2 ∷ back)) ≤ 64 →
      UntilThere (record_of ps (front ++ (Until k1 k2 ∷ back))).nodes front k1 k2 (get_or (paths_of body) (path_count front) d)
  until_there e few =
      let ns = front ++ (Until k1 k2 ∷ back) in
      let nodes = (record_of ps ns).nodes in
      let parts = split nodes front (Until k1 k2 ∷ back) 0 (length ns) (record_stretch ps ns few) in
      let end = stretch_end nodes 0 front parts.0 parts.1 in
      let place : length front ≡ parts.0 = omega (arith, end) in
      let long : length ns ≡ length front + suc (length back) = length-append front (Until k1 k2 ∷ back) in
      let here : node_at nodes (length front) ≡ Until k1 k2 =
      subst (λ (m : ℕ). node_at nodes m ≡ Until k1 k2) (sym place) parts.2.1 in
      let at =
      path_numbered nodes d 0 (paths_of body) (length ns) (record_paths ps ns body few e) (length front) (omega arith) (omega arith)
      (ap starts_path here) in
      let before = stretch_paths nodes 0 front parts.0 parts.1 in
      let none = below_zero nodes in
      let moved : paths_below nodes (length front) ≡ paths_below nodes parts.0 = ap (paths_below nodes) place in
      let number : at.0 ≡ path_count front = omega (arith, at.1, before, none, moved) in
      subst (λ (k : ℕ). UntilThere nodes front k1 k2 (get_or (paths_of body) k d)) number
      (until_begins nodes front k1 k2 (get_or (paths_of body) at.0 d) at.3.0 (omega arith) here at.3.1)

-- in both bodies the path formula with the number of paths before it is that until, with the same formulas
pub record OneUntil (body body' : Formula) (path k1 k2 k2' : ℕ) (d : PathFormula) : Type 0 where
  pub first : Formula
  pub second : Formula
  pub is : get_or (paths_of body) path d ≡ until k1 k2 first second
  pub is' : get_or (paths_of body') path d ≡ until k1 k2' first second

pub one_until : (front back : List Node) (k1 k2 k2' : ℕ) (body body' : Formula) (d : PathFormula) →
    front ++ (Until k1 k2 ∷ back) ≡ formula_nodes body → front ++ (Until k1 k2' ∷ back) ≡ formula_nodes body' →
    length (front ++ (Until k1 k2 ∷ back)) ≤ 64 → OneUntil body body' (path_count front) k1 k2 k2' d
one_until front back k1 k2 k2' body body' d e e' few =
    let few' = subst (λ (k : ℕ). k ≤ 64) (as_many back (Until k1 k2) (Until k1 k2') front) few in
    let one = until_there [] front back k1 k2 body d e few in
    let two = until_there [] front back k1 k2' body' d e' few' in
    let nodes = (record_of [] (front ++ (Until k1 k2 ∷ back))).nodes in
    let nodes' = (record_of [] (front ++ (Until k1 k2' ∷ back))).nodes in
    let ns = formula_nodes one.first ++ formula_nodes one.second in
    let ns' = formula_nodes two.first ++ formula_nodes two.second in
    let next = length front + 1 in
    let same = past_records back (Until k1 k2') (Until k1 k2) [] front in
    let moved = stretch_moved nodes' nodes (length front) same next (omega arith) ns' two.end two.stand in
    let both = stretch_both nodes next ns ns' one.end two.end one.stand moved in
    let whole : formula_nodes one.first ++ (formula_nodes one.second ++ both.0) ≡
    formula_nodes two.first ++ (formula_nodes two.second ++ both.1) =
    sym (append_assoc (formula_nodes one.first) (formula_nodes one.second) both.0) ∙ both.2 ∙
    append_assoc (formula_nodes two.first) (formula_nodes two.second) both.1 in
    let firsts = formula_once one.first two.first _ _ whole in
    let seconds = formula_once one.second two.second both.0 both.1 firsts.1 in
    record {
      first = two.first;
      second = two.second;
      is = one.is ∙ ap₂ (until k1 k2) firsts.0 seconds.0;
      is' = two.is;
    }
