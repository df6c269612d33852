-- `Model::fields_right` meets its contract. The invariant: the states passed have right masks and right rows.
use Prim.Native.Nat.{ℕ}
use mathlib.Core.Bool.{Bool, true, false, ◌&&◌}
use mathlib.Core.Path.{◌≡◌, refl, sym, ap, ap₂, ◌∙◌}
use native.Mathlib.Omega.{arith}
use Rattle.counting.specs.Below.{every_below}
use Rattle.counting.proofs.Laws.{and_true, left_of, right_of, every_at, every_all, same_truth}
use Rattle.counting.proofs.Laws.{passed_none, passed_next, passed_all, failed_at}
use Rattle.model.specs.declared.Model.{Model}
use Rattle.model.specs.Rules.{numbers_right, mask_right, weight_right, fields_right}
use Rattle.model.proofs.Model.fields_right.Invariants.{right}
use Rattle.model.proofs.Model.fields_right.Goals as goal

-- two tests of every number are a test of every number and another
both_tests : (n : ℕ) (p q : ℕ → Bool) → every_below n (λ k. p k && q k) ≡ (every_below n p && every_below n q)
both_tests n p q =
    same_truth (every_below n (λ k. p k && q k)) (every_below n p && every_below n q)
    (λ h.
    and_true (every_all n p (λ k l. left_of (p k) (q k) (every_at n (λ k. p k && q k) h k l)))
    (every_all n q (λ k l. right_of (p k) (q k) (every_at n (λ k. p k && q k) h k l))))
    (λ h.
    every_all n (λ k. p k && q k)
    (λ k l.
    and_true (every_at n p (left_of (every_below n p) (every_below n q) h) k l)
    (every_at n q (right_of (every_below n p) (every_below n q) h) k l)))

and_both : (a b c : Bool) → (a && (b && c)) ≡ (a && b && c)
and_both true b c = refl
and_both false b c = refl

-- the definition, with the two tests of a state in one
both : (m : Model) → (numbers_right m && every_below 32 (right m)) ≡ fields_right m
unfolding fields_right
both m =
    ap (λ (b : Bool). numbers_right m && b) (both_tests 32 (mask_right m) (λ s. every_below 32 (weight_right m s))) ∙
    and_both (numbers_right m) (every_below 32 (mask_right m)) (every_below 32 (λ s. every_below 32 (weight_right m s)))

pub returns-then-not-numbers_right : goal.returns-then-not-numbers_right
returns-then-not-numbers_right c =
    let m = c.args.self.now in
    ap (λ (b : Bool). b && every_below 32 (right m)) (sym c.if-not-numbers_right.true ∙ c.numbers_right.ensures) ∙ both m

pub loop-s-init : goal.loop-s-init
loop-s-init c = passed_none

pub returns-then-not-mask_right-row_ends : goal.returns-then-not-mask_right-row_ends
returns-then-not-mask_right-row_ends c =
    let m = c.args.self.now in
    ap₂ ◌&&◌ (sym c.if-not-numbers_right.false ∙ c.numbers_right.ensures)
    (failed_at c.loop-s.invariant (omega arith)
    (sym (ap₂ ◌&&◌ c.mask_right.ensures c.row_ends.ensures) ∙ c.if-not-mask_right-row_ends.true)) ∙
    both m

pub loop-s-preserved : goal.loop-s-preserved
loop-s-preserved c = passed_next c.loop-s.invariant (omega arith)
    (sym (ap₂ ◌&&◌ c.mask_right.ensures c.row_ends.ensures) ∙ c.if-not-mask_right-row_ends.false)

pub returns : goal.returns
returns c =
    let m = c.args.self.now in
    ap₂ ◌&&◌ (sym c.if-not-numbers_right.false ∙ c.numbers_right.ensures) (passed_all c.loop-s.invariant (omega arith)) ∙ both m
