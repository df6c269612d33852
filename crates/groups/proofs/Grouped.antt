-- What row 12 means: where it does not apply, the grouping's length is N, each state has one of the groups 0..M−1, and
-- every group number is used; and where that is so for some M, the row does not apply and M is the grouping's.
use Prim.Native.Nat.{ℕ, ◌≤◌, ◌<◌}
use mathlib.Core.Bool.{true}
use mathlib.Core.List.{List}
use mathlib.Core.Path.{◌≡◌}
use native.Mathlib.Decide.{dec_lt}
use native.Mathlib.Nat.{le_antisymm}
use native.Mathlib.Omega.{arith}
use borrow.Author.Tests.{eqb-true, eq-eqb}
use lib.Dec.{eqb}
use lib.ListN.{length}
use Rattle.counting.specs.Below.{every_below}
use Rattle.counting.proofs.Laws.{left_of, right_of, every_at, every_all, and_true}
use Rattle.meaning.specs.Lists.{below}
use Rattle.meaning.specs.Chain.{Chain}
use Rattle.meaning.specs.Merging.{Grouping}
use Rattle.meaning.proofs.Merging.{groups_at_most, member_found}
use Rattle.meaning.proofs.Tests.{there_is_found, there_is_from, below_member, below_has}
use Rattle.groups.specs.Groups.{group_of, group_count, is_used, grouping_right, member_of}
use Rattle.groups.proofs.Counts.{over_above, over_least}

-- the grouping's length is N
pub as_long : (n : ℕ) (grouping : List ℕ) → grouping_right n grouping ≡ true → length grouping ≡ n
unfolding grouping_right
as_long n grouping e =
    eqb-true (length grouping) n (left_of (eqb (length grouping) n) (every_below (group_count grouping) (is_used grouping)) e)

pub all_used : (n : ℕ) (grouping : List ℕ) → grouping_right n grouping ≡ true → every_below (group_count grouping) (is_used grouping) ≡ true
unfolding grouping_right
all_used n grouping e = right_of (eqb (length grouping) n) (every_below (group_count grouping) (is_used grouping)) e

module _ (c : Chain) (grouping : List ℕ) where
  -- row 12 does not apply: each state has one of the groups 0..M−1, and every group number is used
  pub grouping_is : grouping_right c.N grouping ≡ true → Grouping c (group_of grouping) (group_count grouping)
  grouping_is e =
      let long = as_long c.N grouping e in
      record {
        inside = λ s l. over_above (length grouping) (group_of grouping) s (omega arith);
        used = λ g l.
            let w = there_is_found (λ s. eqb (group_of grouping s) g) (below (length grouping))
            (every_at (group_count grouping) (is_used grouping) (all_used c.N grouping e) g l) in
            let small = below_member (length grouping) w.1 in
            (w.0, (omega arith), eqb-true (group_of grouping w.0) g w.2);
      }

  module _ (M : ℕ) (long : length grouping ≡ c.N) (is : Grouping c (group_of grouping) M) where
    -- the number of groups can only be one more than the largest
    pub count_is : group_count grouping ≡ M
    count_is =
        let most = over_least (length grouping) (group_of grouping) M (λ s l. is.inside s (omega arith)) in
        le_antisymm most (go (dec_lt (group_count grouping) M))
      where
        go : Dec (group_count grouping < M) → M ≤ group_count grouping
        go (no more) = omega arith
        go (yes less) =
            let u = is.used (group_count grouping) less in
            let above = over_above (length grouping) (group_of grouping) u.0 (omega arith) in
            absurd (omega arith)

    -- and row 12 does not apply
    pub grouping_is_right : grouping_right c.N grouping ≡ true
    unfolding grouping_right
    grouping_is_right =
        let few = count_is in
        and_true (eq-eqb (length grouping) c.N long)
        (every_all (group_count grouping) (is_used grouping)
        (λ g l.
        let u = is.used g (omega arith) in
        there_is_from (λ s. eqb (group_of grouping s) g) u.0 (below (length grouping)) (below_has (length grouping) (omega arith))
        (eq-eqb (group_of grouping u.0) g u.2)))

  module _ (right : grouping_right c.N grouping ≡ true) where
    -- there are no more groups than states
    pub count_few : group_count grouping ≤ c.N
    count_few = groups_at_most c (group_of grouping) (group_count grouping) (grouping_is right)

    -- the first member of a group is a state, and is of the group
    pub member_of_group : (g : ℕ) → g < group_count grouping →
        (member_of c.N grouping g < c.N) × (group_of grouping (member_of c.N grouping g) ≡ g)
    member_of_group g l =
        let u = (grouping_is right).used g l in
        let f = member_found (group_of grouping) g (below c.N) (below_has c.N u.1) u.2 in
        (below_member c.N f.1, f.0)
