-- `Model::row_ends` meets its contract: below N a row is zero from N on, else from 0 on.
use mathlib.Core.Bool.{Bool, ◌&&◌, ◌||◌}
use mathlib.Core.Path.{ap, sym, ◌∙◌}
use native.Mathlib.Omega.{arith}
use lib.Dec.{ltb, eqb}
use borrow.Author.Tests.{lt-ltb, le-ltb}
use Rattle.counting.proofs.Laws.{every_same}
use Rattle.model.specs.Layout.{weight_of}
use Rattle.model.proofs.Model.row_ends.Goals as goal

pub returns-then-s-n : goal.returns-then-s-n
returns-then-s-n c =
    let m = c.args.self.now in
    let s = c.args.s in
    c.zero_from.ensures ∙
    every_same 32 (λ t less. ap (λ (b : Bool). b && ltb t m.n || eqb (weight_of m s t) 0) (sym (lt-ltb s m.n c.if-s-n.true)))

pub returns-else-s-n : goal.returns-else-s-n
returns-else-s-n c =
    let m = c.args.self.now in
    let s = c.args.s in
    c.zero_from-else-s-n.ensures ∙
    every_same 32
    (λ t less.
    ap (λ (b : Bool). b || eqb (weight_of m s t) 0) (le-ltb t 0 (omega arith)) ∙
    ap (λ (b : Bool). b && ltb t m.n || eqb (weight_of m s t) 0) (sym (le-ltb s m.n c.if-s-n.false)))
