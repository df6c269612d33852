-- `groups::grouping::first_of` meets its contract, by what `position` says of the states' groups.
use Prim.Native.Nat.{ℕ, ◌<◌}
use mathlib.Core.List.{List}
use mathlib.Core.Path.{◌≡◌}
use native.Mathlib.Omega.{arith}
use lib.ListN.{length}
use Rattle.std.proofs.Common.{rules, tests, Option, Some, None}
use Rattle.std.specs.List.{AllWithin, HoldsAt}
use Rattle.std.specs.Option.{MatchOption}
use Rattle.std.proofs.lemmas.Iterator.{YieldsList-from_slice, IsFirst-from_position}
use Rattle.groups.specs.Groups.{group_of}
use Rattle.groups.specs.Working.{FirstIn}
use Rattle.groups.proofs.grouping.first_of.Goals as goal

-- what `position` answers is the first state of the group
first_in : (grouping : List ℕ) (g : ℕ) (r : Option ℕ) →
    MatchOption r (AllWithin (λ x. x ≡ g → ⊥) grouping 0 (length grouping))
    (λ i. (i < length grouping) × HoldsAt (λ x. x ≡ g) grouping i × AllWithin (λ x. x ≡ g → ⊥) grouping 0 i) →
    FirstIn (group_of grouping) g (length grouping) r
first_in grouping g None h = λ k less. h k 0 (omega arith) less
first_in grouping g (Some i) h =
    (h.0, record { within = omega arith; before = λ k less. h.2 k 0 (omega arith) less; found = λ less. h.1 0 })

pub returns : goal.returns
returns c =
    let grouping = c.args.grouping.now in
    let g = c.args.g in
    first_in grouping g c.position.result
    (IsFirst-from_position _ _ c.position.result (λ x. x ≡ g) (λ x. x ≡ g → ⊥) c.position.ensures.ran
    (YieldsList-from_slice grouping cc) (λ x q k. search (rules, tests)) (λ x q k. search (rules, tests)))
