-- Each contract leaves one result: one place of a path formula, and one of a tuple.
use Prim.Native.Nat.{ℕ, zero, suc, ◌+◌, ◌-◌, ◌≤◌, ◌<◌}
use mathlib.Core.Bool.{true}
use mathlib.Core.List.{List}
use mathlib.Core.Path.{◌≡◌, refl, sym, ap, ◌∙◌}
use native.Mathlib.Decide.{dec_lt}
use native.Mathlib.Omega.{arith}
use lib.ListN.{length}
use Rattle.std.specs.Prelude.{Option, Some}
use Rattle.sentence.specs.declared.Node.{Node}
use Rattle.meaning.proofs.Numbers.{number_of, number_tuple}
use Rattle.trees.specs.Listed.{starts_path}
use Rattle.trees.specs.Standing.{node_at}
use Rattle.trees.specs.Numbered.{paths_below}
use Rattle.trees.proofs.Numbered.{below_more}
use Rattle.paths.specs.Places.{PathPlace, here, none, TuplePlace}

module _ (nodes : List Node) where
  grows : (d p : ℕ) → paths_below nodes p ≤ paths_below nodes (p + d)
  grows zero p =
      let same : paths_below nodes (p + 0) ≡ paths_below nodes p = ap (paths_below nodes) (omega arith) in
      omega arith
  grows (suc d) p =
      let more = below_more nodes (p + d) _ refl in
      let rest = grows d p in
      let same : paths_below nodes (p + suc d) ≡ paths_below nodes (p + d + 1) = ap (paths_below nodes) (omega arith) in
      omega arith

  -- past the node of a path formula one path more has started
  past : (p q : ℕ) → p < q → starts_path (node_at nodes p) ≡ true → paths_below nodes p < paths_below nodes q
  past p q l s =
      let more = below_more nodes p true s in
      let rest = grows (q - (p + 1)) (p + 1) in
      let same : paths_below nodes (p + 1 + (q - (p + 1))) ≡ paths_below nodes q = ap (paths_below nodes) (omega arith) in
      omega arith

-- the contract of `path_place` allows one place
pub path_place_once : {nodes : List Node} {path : ℕ} {r q : Option ℕ} → PathPlace nodes path r → PathPlace nodes path q → r ≡ q
path_place_once {nodes} (here {at = r} l s e) (here {at = q} m t g) = by (dec_lt r q) (dec_lt q r)
  where
    by : Dec (r < q) → Dec (q < r) → Some r ≡ Some q
    by (yes y) other = let h = past nodes r q y s in absurd (omega arith)
    by (no n) (yes y) = let h = past nodes q r y t in absurd (omega arith)
    by (no n) (no o) = ap (λ (k : ℕ). Some k) (omega arith)
path_place_once {nodes} (here {at = r} l s e) (none g) = let h = past nodes r (length nodes) l s in absurd (omega arith)
path_place_once {nodes} (none g) (here {at = q} l s e) = let h = past nodes q (length nodes) l s in absurd (omega arith)
path_place_once (none g) (none h) = refl

-- and that of `tuple_place` one number
pub tuple_place_once : {N r q : ℕ} {s : List ℕ} → TuplePlace N s r → TuplePlace N s q → r ≡ q
tuple_place_once {N} {r} {q} {s} h k =
    sym (number_tuple N (length s) r h.inside) ∙ ap (number_of N) (h.same ∙ sym k.same) ∙ number_tuple N (length s) q k.inside
