-- `path_place` meets its contract. The invariant: the path formula sought is not at the places passed.
use mathlib.Core.Path.{sym, ◌∙◌}
use Rattle.paths.proofs.Searching.{sought_none, sought_other, sought_next, sought_here, sought_all}
use Rattle.paths.proofs.path_place.Goals.{then-starts_path+else-before-path, else-starts_path}
use Rattle.paths.proofs.path_place.Goals as goal

pub loop-at-init : goal.loop-at-init
loop-at-init c = sought_none

pub returns-then-before-path : goal.returns-then-before-path
returns-then-before-path c =
    sought_here c.loop-at.invariant c.loop-at-test.true
    (sym c.starts_path.ensures ∙ c.if-starts_path.true) c.if-before-path.true

pub loop-at-preserved : goal.loop-at-preserved
loop-at-preserved c =
    let starts = c.starts_path.ensures in
    elim c.if-starts_path.branch [
      | then-starts_path+else-before-path w ↦ sought_next c.loop-at.invariant c.loop-at-test.true (sym starts ∙ w.if-starts_path.true)
          w.if-before-path.false w.before-is
      | else-starts_path w ↦ sought_other c.loop-at.invariant c.loop-at-test.true (sym starts ∙ w.if-starts_path.false) w.before-is
    ]

pub returns : goal.returns
returns c = sought_all c.loop-at.invariant c.loop-at-test.false
