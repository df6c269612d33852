-- `totals::totals::total_into` meets its contract. The invariant: the total is the sum so far, which is small.
use borrow.Author.Rules.{rules}
use Prim.Native.Nat.{ℕ, ◌<◌}
use mathlib.Core.Bool.{Bool, cond}
use mathlib.Core.Path.{◌≡◌, sym, ap, ◌∙◌}
use native.Mathlib.Omega.{arith}
use borrow.Author.Tests.{eq-eqb, ne_eqb}
use lib.Dec.{eqb}
use lib.ListN.{get_or}
use Rattle.counting.proofs.Laws.{sum_none, sum_more}
use Rattle.groups.specs.Groups.{group_of}
use Rattle.totals.proofs.totals.total_into.Goals.{then-group_of-h, else-group_of-h}
use Rattle.totals.proofs.totals.total_into.Goals as goal

pub loop-t-init : goal.loop-t-init
loop-t-init c = (search rules, sym (sum_none _), search rules)

-- what is added at a state, by whether it has the group
there : (g h w : ℕ) → g ≡ h → cond (eqb g h) w 0 ≡ w
there g h w e = ap (λ (b : Bool). cond b w 0) (eq-eqb g h e)

elsewhere : (g h w : ℕ) → (g ≡ h → ⊥) → cond (eqb g h) w 0 ≡ 0
elsewhere g h w e = ap (λ (b : Bool). cond b w 0) (ne_eqb g h e)

pub loop-t-preserved : goal.loop-t-preserved
loop-t-preserved c =
    let a = c.args in
    let t = c.loop-t.t in
    let g = group_of a.grouping.now t in
    let weight = get_or a.row.now t 0 in
    let small : weight < 65536 = search rules in
    let more = sum_more t (λ k. cond (eqb (group_of a.grouping.now k) a.h) (get_or a.row.now k 0) 0) in
    let same = c.group_of.ensures.0 in
    elim c.if-group_of-h.branch [
      | then-group_of-h w ↦
          let here = there g a.h weight (sym same ∙ w.if-group_of-h.true) in (
            search rules,
            omega (arith, w.total-is, w.from-total.ensures, more, here, c.loop-t.invariant.1),
            omega (arith, small, w.total-is, w.from-total.ensures, c.loop-t.invariant.2),
          )
      | else-group_of-h w ↦
          let here = elsewhere g a.h weight (λ e. w.if-group_of-h.false (same ∙ e)) in
          (search rules, omega (arith, w.total-is, more, here, c.loop-t.invariant.1), omega (arith, w.total-is, c.loop-t.invariant.2))
    ]

pub returns : goal.returns
returns c =
    let e : c.loop-t.t ≡ c.args.n = omega arith in
    rw e at c.loop-t.invariant.1
