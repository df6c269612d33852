-- A search for the path formula with a number, place by place.
use Prim.Native.Nat.{ℕ, ◌+◌, ◌≤◌, ◌<◌}
use mathlib.Core.Bool.{true, false}
use mathlib.Core.List.{List}
use mathlib.Core.Path.{◌≡◌, sym, subst, ◌∙◌}
use native.Mathlib.Omega.{arith}
use lib.ListN.{length}
use Rattle.std.specs.Prelude.{None, Some}
use Rattle.sentence.specs.declared.Node.{Node}
use Rattle.trees.specs.Listed.{starts_path}
use Rattle.trees.specs.Standing.{node_at}
use Rattle.trees.specs.Numbered.{paths_below}
use Rattle.trees.proofs.Numbered.{below_zero, below_more}
use Rattle.paths.specs.Places.{PathPlace, here, none}

-- `before` paths start at the places below `at`, and the one sought is not among them
pub record Sought (nodes : List Node) (path before at : ℕ) : Type 0 where
  pub up_to : at ≤ length nodes
  pub passed : before ≡ paths_below nodes at
  pub ahead : before ≤ path

module _ {nodes : List Node} {path : ℕ} where
  -- before the first turn
  pub sought_none : Sought nodes path 0 0
  sought_none = record { up_to = omega arith; passed = sym (below_zero nodes); ahead = omega arith }

  -- a node that starts no path
  pub sought_other : {before at next : ℕ} → Sought nodes path before at → at < length nodes → starts_path (node_at nodes at) ≡ false →
      next ≡ before → Sought nodes path next (at + 1)
  sought_other {before} {at} {next} h l e same =
      let more = below_more nodes at false e in
      record { up_to = omega arith; passed = omega (arith, h.passed); ahead = omega (arith, h.ahead) }

  -- a node that starts another path than the one sought
  pub sought_next : {before at next : ℕ} → Sought nodes path before at → at < length nodes → starts_path (node_at nodes at) ≡ true →
      (before ≡ path → ⊥) → next ≡ before + 1 → Sought nodes path next (at + 1)
  sought_next {before} {at} {next} h l e other one =
      let more = below_more nodes at true e in
      record { up_to = omega arith; passed = omega (arith, h.passed); ahead = omega (arith, h.ahead) }

  -- the one sought
  pub sought_here : {before at : ℕ} → Sought nodes path before at → at < length nodes → starts_path (node_at nodes at) ≡ true →
      before ≡ path → PathPlace nodes path (Some at)
  sought_here h l e same = here l e (sym h.passed ∙ same)

  -- there is none
  pub sought_all : {before at : ℕ} → Sought nodes path before at → length nodes ≤ at → PathPlace nodes path None
  sought_all {before} {at} h done =
      let all : at ≡ length nodes = omega (arith, h.up_to) in
      none (subst (λ (k : ℕ). paths_below nodes k ≤ path) all (subst (λ (k : ℕ). k ≤ path) h.passed h.ahead))
