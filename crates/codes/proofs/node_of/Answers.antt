-- `codes::node_of` meets its contract: a tag has its node, and none past the last.
use Prim.Native.Nat.{ℕ, ◌≤◌}
use native.Mathlib.Omega.{arith}
use mathlib.Core.Path.{◌≡◌, sym, ap, ◌∙◌}
use lib.ListN.{get_or-eq_default}
use Rattle.codes.specs.Codes.{nodes_by_tag, node_of, no_node}
use Rattle.codes.proofs.node_of.Goals as goal

-- the node of a tag that is known
tagged : {tag k : ℕ} (x y : ℕ) → tag ≡ k → node_of k x y ≡ node_of tag x y
tagged x y e = ap (λ (t : ℕ). node_of t x y) (sym e)

pub returns-in-0 : goal.returns-in-0
unfolding node_of
returns-in-0 c = tagged c.args.x c.args.y c.in-0.is

pub returns-in-1 : goal.returns-in-1
unfolding node_of
returns-in-1 c = c.label_of.ensures ∙ tagged c.args.x c.args.y c.in-1.is

pub returns-in-2 : goal.returns-in-2
unfolding node_of
returns-in-2 c = tagged c.args.x c.args.y c.in-2.is

pub returns-in-3 : goal.returns-in-3
unfolding node_of
returns-in-3 c = tagged c.args.x c.args.y c.in-3.is

pub returns-in-4 : goal.returns-in-4
unfolding node_of
returns-in-4 c = c.comparison_of.ensures ∙ tagged c.args.x c.args.y c.in-4.is

pub returns-in-5 : goal.returns-in-5
unfolding node_of
returns-in-5 c = tagged c.args.x c.args.y c.in-5.is

pub returns-in-6 : goal.returns-in-6
unfolding node_of
returns-in-6 c = tagged c.args.x c.args.y c.in-6.is

pub returns-in-7 : goal.returns-in-7
unfolding node_of
returns-in-7 c = tagged c.args.x c.args.y c.in-7.is

pub returns-in-8 : goal.returns-in-8
unfolding node_of
returns-in-8 c = tagged c.args.x c.args.y c.in-8.is

pub returns-in-9 : goal.returns-in-9
unfolding node_of
returns-in-9 c = tagged c.args.x c.args.y c.in-9.is

pub returns-in-10 : goal.returns-in-10
unfolding node_of
returns-in-10 c = tagged c.args.x c.args.y c.in-10.is

pub returns-in-11 : goal.returns-in-11
unfolding node_of
returns-in-11 c = tagged c.args.x c.args.y c.in-11.is

pub returns-in_default : goal.returns-in_default
unfolding node_of
returns-in_default c =
    let a = c.args in
    let past : 12 ≤ a.tag = omega arith in
    sym (get_or-eq_default (nodes_by_tag a.x a.y) no_node past)
