-- `Model::is_halted` meets its contract: the row that is asked of is the record's, and no row is zero in all its weights.
use Prim.Native.Nat.{ℕ}
use mathlib.Core.Bool.{Bool, true, ◌&&◌}
use mathlib.Core.List.{List, []}
use mathlib.Core.Path.{◌≡◌, refl, sym, ap, ◌∙◌}
use lib.Dec.{ltb, eqb}
use lib.ListN.{get_or}
use Rattle.std.proofs.Math.Bool.{and-true}
use Rattle.std.proofs.lemmas.Bool.{ltb-false, ltb-true}
use Rattle.std.proofs.lemmas.List.{get_or_past, get_or_default}
use Rattle.counting.specs.Below.{every_below}
use Rattle.counting.proofs.Laws.{every_all}
use Rattle.model.proofs.Model.is_halted.Goals as goal

-- no row is zero in all its weights
none_empty : every_below 32 (λ t. eqb (get_or [] t 0) 0) ≡ true
none_empty = every_all 32 (λ t. eqb (get_or [] t 0) 0) (λ k l. refl)

pub returns-in-None : goal.returns-in-None
returns-in-None c =
    let m = c.args.self.now in
    let s = c.args.s in
    let past = get_or_past m.weights s [] (ltb-false s _ (sym c.in-None.ensures.lookup.0)) in
    let empty = ap (λ (row : List ℕ). every_below 32 (λ t. eqb (get_or row t 0) 0)) past ∙ none_empty in
    sym (ap (λ (b : Bool). ltb s m.n && eqb m.version 1 && b) empty ∙ and-true _)

pub returns-in-Some : goal.returns-in-Some
returns-in-Some c =
    let m = c.args.self.now in
    let s = c.args.s in
    let row = c.in-Some.row.now in
    let here = c.in-Some.ensures.lookup.1 ∙ get_or_default m.weights s row [] (ltb-true s _ (sym c.in-Some.ensures.lookup.0)) in
    c.is_halted.ensures ∙
    ap (λ (l : List ℕ). ltb s m.n && eqb m.version 1 && every_below 32 (λ t. eqb (get_or l t 0) 0)) here
