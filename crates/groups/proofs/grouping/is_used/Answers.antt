-- `groups::grouping::is_used` meets its contract: a group is used exactly if it has a first state.
use mathlib.Core.Path.{◌∙◌}
use lib.ListN.{length}
use Rattle.groups.specs.Groups.{group_of}
use Rattle.groups.proofs.Members.{used_in}
use Rattle.groups.proofs.grouping.is_used.Goals as goal

pub returns : goal.returns
returns c =
    let a = c.args in
    c.is_some.ensures ∙ used_in (group_of a.grouping.now) a.g (length a.grouping.now) c.first_of.result c.first_of.ensures
