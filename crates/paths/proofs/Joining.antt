-- The place that the search returns and the path formulas of the tree that the record holds: the node there is that of the
-- path formula with the number, and where there is none the tree has too few.
use Prim.Native.Nat.{ℕ, zero, suc, ◌+◌, ◌-◌, ◌^◌, ◌≤◌, ◌<◌}
use mathlib.Core.Bool.{Bool, false, cond}
use mathlib.Core.List.{List}
use mathlib.Core.Path.{◌≡◌, refl, sym, ap, ap₂, subst, ◌∙◌}
use native.Mathlib.Omega.{arith}
use borrow.Author.Tests.{lt-ltb, le-ltb}
use lib.ListN.{length, get_or, take, replicate, length-append}
use lib.Dec.{ltb}
use Rattle.std.proofs.lemmas.List.{get_or-take, length-take-le}
use Rattle.std.specs.Prelude.{Option, None, Some}
use Rattle.std.specs.Option.{is_some}
use Rattle.sentence.specs.Record.{record_of}
use Rattle.sentence.specs.declared.Node.{Node}
use Rattle.sentence.specs.declared.Node.TheVariants.{True}
use Rattle.meaning.specs.Tree.{Formula, always, PathFormula, next, paths_of}
use Rattle.meaning.specs.Meaning.{denominator}
use Rattle.meaning.specs.Size.{exceeds, exceeds_from}
use Rattle.trees.specs.Listed.{formula_nodes}
use Rattle.trees.specs.Need.{need_from}
use Rattle.trees.specs.Ranged.{Ranged, RangedFrom}
use Rattle.trees.specs.Standing.{PathAt}
use Rattle.trees.proofs.Stretch.{path_stands as listed-stands}
use Rattle.trees.proofs.Numbered.{PathsAt, path_numbered, paths_counted, below_zero, record_paths}
use Rattle.trees.proofs.Within.{path_inherits}
use Rattle.trees.specs.Listed.{starts_path}
use Rattle.trees.specs.Numbered.{paths_below}
use Rattle.paths.specs.Places.{PathPlace, here, none}

-- the path formula with the number `path` of the formula f stands at the place r, and evaluation can take it
pub record Found (nodes : List Node) (n D : ℕ) (f : Formula) (path r : ℕ) (d : PathFormula) : Type 0 where
  pub number : path < length (paths_of f)
  pub end : ℕ
  pub stands : PathAt nodes r (get_or (paths_of f) path d) end
  pub ranged : RangedFrom n (get_or (paths_of f) path d)
  pub fits : exceeds_from (get_or (paths_of f) path d) D n ≡ false
  pub small : denominator (get_or (paths_of f) path d) D n ≤ 2 ^ 62
  pub room : need_from (get_or (paths_of f) path d) ≤ 7

module _
    {nodes : List Node} {count : ℕ} (ps : List Bool) (f : Formula) (few : length (formula_nodes f) ≤ 64)
    (held : nodes ≡ (record_of ps (formula_nodes f)).nodes) (counted : count ≡ length (formula_nodes f))
  where
    -- the record holds the formula, and so its path formulas, each at its place
    paths_held : PathsAt nodes 0 (paths_of f) count
    paths_held =
        subst (λ (l : List Node). PathsAt l 0 (paths_of f) count) (sym held)
        (subst (λ (q : ℕ). PathsAt (record_of ps (formula_nodes f)).nodes 0 (paths_of f) q) (sym counted)
        (record_paths ps (formula_nodes f) f few refl))

    -- so many paths start before a place among the first `count`, and before it in the record
    below_front : (at : ℕ) → at ≤ count → paths_below (take count nodes) at ≡ paths_below nodes at
    unfolding paths_below
    below_front zero l = refl
    below_front (suc at) l =
        ap₂ (λ (k : ℕ) (n : Node). k + cond {A = ℕ} (starts_path n) 1 0) (below_front at (omega arith))
        (get_or-take count nodes at True (omega arith))

    front_long : length (take count nodes) ≡ count
    unfolding record_of
    front_long =
        let ns = formula_nodes f in
        let room : length nodes ≡ length ns + length (replicate (64 - length ns) True) =
        ap length held ∙ length-append ns (replicate (64 - length ns) True) in
        length-take-le count nodes (omega arith)

    -- a place that was found: the path formula with the number stands there
    pub path_stands : {path at : ℕ} → PathPlace (take count nodes) path (Some at) → (d : PathFormula) →
        (path < length (paths_of f)) × ((e : ℕ) × PathAt nodes at (get_or (paths_of f) path d) e)
    path_stands {path} {at} (here l s e) d =
        let low : at < count = omega (arith, front_long) in
        let starts = ap starts_path (sym (get_or-take count nodes at True low)) ∙ s in
        let it = path_numbered nodes d 0 (paths_of f) count paths_held at (omega arith) low starts in
        let zero = below_zero nodes in
        let front = below_front at (omega arith) in
        let same : it.0 ≡ path = omega (arith, it.1) in
        subst (λ (k : ℕ). (k < length (paths_of f)) × ((e : ℕ) × PathAt nodes at (get_or (paths_of f) k d) e)) same
        (it.2, (it.3.0, listed-stands nodes (get_or (paths_of f) it.0 d) at it.3.0 it.3.1))

    -- none was found: there is no such path formula
    pub path_missing : {path : ℕ} → PathPlace (take count nodes) path None → length (paths_of f) ≤ path
    path_missing {path} (none h) =
        let all = paths_counted nodes 0 (paths_of f) count paths_held in
        let front = below_front count (omega arith) in
        let whole : paths_below (take count nodes) (length (take count nodes)) ≡ paths_below (take count nodes) count =
        ap (paths_below (take count nodes)) front_long in
        let zero = below_zero nodes in
        omega arith

    -- a place is found exactly if there is a path formula with the number
    pub place_test : {path : ℕ} (r : Option ℕ) → PathPlace (take count nodes) path r → is_some r ≡ ltb path (length (paths_of f))
    place_test {path} (Some at) h = sym (lt-ltb path (length (paths_of f)) (path_stands h (next always)).0)
    place_test {path} None h = sym (le-ltb path (length (paths_of f)) (path_missing h))

    -- all that evaluating the path formula asks
    pub path_found : {path at n D : ℕ} → PathPlace (take count nodes) path (Some at) → Ranged n f → exceeds f D n ≡ false →
        (d : PathFormula) → Found nodes n D f path at d
    path_found {path} {at} {n} {D} place ranged fits d =
        let it = path_stands place d in
        let has = path_inherits n D f ranged fits few path d it.0 in
        record {
          number = it.0;
          end = it.1.0;
          stands = it.1.1;
          ranged = has.ranged;
          fits = has.fits;
          small = has.small;
          room = has.room;
        }
