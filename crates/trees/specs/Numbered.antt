-- Working: what the functions of this crate promise one another. Nothing here has to be believed.
-- The path formulas are numbered in written order. The path with the number k is the one whose node, a next or an until, has
-- k such nodes at the places before it.
use Rattle.std.specs.Prelude.{ℕ, zero, suc, ◌+◌, cond, List}
use Rattle.sentence.specs.declared.Node.{Node}
use Rattle.trees.specs.Listed.{starts_path}
use Rattle.trees.specs.Standing.{node_at}

-- how many paths start at the places below p
unfoldable pub paths_below : List Node → ℕ → ℕ
paths_below nodes zero = 0
paths_below nodes (suc p) = paths_below nodes p + cond (starts_path (node_at nodes p)) 1 0
