-- `fractions::operate` meets its contract, by the operation: each number on the way is within the size rule's bound.
use mathlib.Core.Path.{ap₂}
use lib.IntN.{◌+ℤ◌, ◌-ℤ◌, ◌*ℤ◌}
use mir.Facts.{to_z-of_z}
use Rattle.meaning.specs.Meaning.{add_f, sub_f, mul_f}
use Rattle.fractions.specs.declared.Operation.TheVariants.{Sum, Difference, Product}
use Rattle.fractions.specs.Operations.{operated}
use Rattle.fractions.proofs.Operands.{sum_crossed, difference_crossed, cross_asked, cross_back, crosses_back}
use Rattle.fractions.proofs.Operands.{fits_by, made_fits, operated_small, operated_back}
use Rattle.fractions.proofs.operate.Goals as goal

pub cross-requires : goal.cross-requires
cross-requires c = cross_asked (sum_crossed (fits_by c.requires c.in-Sum.is)).each.first c.ranges.a

pub cross-requires-in-Sum : goal.cross-requires-in-Sum
cross-requires-in-Sum c = cross_asked (sum_crossed (fits_by c.requires c.in-Sum.is)).each.second c.ranges.b

pub overflow_add-result : goal.overflow_add-result
unfolding operated add_f
overflow_add-result c =
    let fits = fits_by c.requires c.in-Sum.is in
    let each = (sum_crossed fits).each in
    made_fits ◌+ℤ◌ (cross_back each.first c.ranges.a c.cross.ensures) (cross_back each.second c.ranges.b c.cross-in-Sum.ensures)
    (operated_small Sum fits).size

pub returns-in-Sum : goal.returns-in-Sum
unfolding operated add_f
returns-in-Sum c =
    operated_back c.requires c.in-Sum.is
    (crosses_back ◌+ℤ◌ (sum_crossed (fits_by c.requires c.in-Sum.is)).each c.ranges.a c.ranges.b c.cross.ensures
    c.cross-in-Sum.ensures)

pub cross-requires-in-Difference : goal.cross-requires-in-Difference
cross-requires-in-Difference c = cross_asked (difference_crossed (fits_by c.requires c.in-Difference.is)).each.first c.ranges.a

pub cross-requires-in-Difference-2 : goal.cross-requires-in-Difference-2
cross-requires-in-Difference-2 c = cross_asked (difference_crossed (fits_by c.requires c.in-Difference.is)).each.second c.ranges.b

pub overflow_sub-result : goal.overflow_sub-result
unfolding operated sub_f
overflow_sub-result c =
    let fits = fits_by c.requires c.in-Difference.is in
    let each = (difference_crossed fits).each in
    made_fits ◌-ℤ◌ (cross_back each.first c.ranges.a c.cross-in-Difference.ensures)
    (cross_back each.second c.ranges.b c.cross-in-Difference-2.ensures) (operated_small Difference fits).size

pub returns-in-Difference : goal.returns-in-Difference
unfolding operated sub_f
returns-in-Difference c =
    operated_back c.requires c.in-Difference.is
    (crosses_back ◌-ℤ◌ (difference_crossed (fits_by c.requires c.in-Difference.is)).each c.ranges.a c.ranges.b
    c.cross-in-Difference.ensures c.cross-in-Difference-2.ensures)

pub overflow_mul-result : goal.overflow_mul-result
unfolding operated mul_f
overflow_mul-result c =
    made_fits ◌*ℤ◌ (to_z-of_z c.ranges.a) (to_z-of_z c.ranges.b)
    (operated_small Product (fits_by c.requires c.in-Product.is)).size

pub returns-in-Product : goal.returns-in-Product
unfolding operated mul_f
returns-in-Product c =
    operated_back c.requires c.in-Product.is (ap₂ ◌*ℤ◌ (to_z-of_z c.ranges.a) (to_z-of_z c.ranges.b))
