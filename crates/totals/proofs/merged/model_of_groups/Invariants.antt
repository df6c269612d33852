-- `totals::merged::model_of_groups` meets its contract: the first state of a group that is used is below 32, and is its
-- member; masks and rows are written from the front, over zeros.
use mathlib.Core.List.{[]}
use lib.ListN.{length, get_or}
use Rattle.counting.proofs.Laws.{Fronted}
use Rattle.groups.specs.Groups.{member_of}
use Rattle.totals.proofs.merged.model_of_groups.Given as goal

abbrev pub invariant-loop-g : goal.invariant-loop-g
invariant-loop-g l =
    Fronted l.count (λ g. get_or l.m.masks (member_of (length l.grouping) l.grouping g) 0) l.initial.masks l.g l.masks ×
    Fronted l.count (λ g. get_or l.totals (member_of (length l.grouping) l.grouping g) []) l.initial.rows l.g l.rows
