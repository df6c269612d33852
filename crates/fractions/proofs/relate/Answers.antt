-- `fractions::relate` meets its contract, by the relation.
use mathlib.Core.Bool.{Bool}
use mathlib.Core.Path.{◌≡◌, refl, sym, ap, ap₂, ◌∙◌}
use lib.IntN.{ℤ}
use mir.Facts.{to_z-of_z}
use mir.Syntax.{w64}
use mir.Val.{SFits, to_z, of_z}
use Rattle.meaning.specs.Meaning.{related}
use Rattle.sentence.specs.declared.Relation.{Relation}
use Rattle.trees.specs.Listed.{relation_read}
use Rattle.fractions.proofs.relate.Goals as goal

-- what the known relation says of two numbers as they are read back, the relation says of them
as_told : {relation known : Relation} {a b : ℤ} {t : Bool} → relation ≡ known → SFits w64 a → SFits w64 b →
    t ≡ related (relation_read known) (to_z w64 (of_z w64 a)) (to_z w64 (of_z w64 b)) → t ≡ related (relation_read relation) a b
as_told {known = known} {a = a} {b = b} e fits-a fits-b p =
    p ∙
    ap₂ (related (relation_read known)) (to_z-of_z fits-a) (to_z-of_z fits-b) ∙
    sym (ap (λ r. related (relation_read r) a b) e)

pub returns-in-Less : goal.returns-in-Less
unfolding related
returns-in-Less c = as_told c.in-Less.is c.ranges.a c.ranges.b refl

pub returns-in-AtMost : goal.returns-in-AtMost
unfolding related
returns-in-AtMost c = as_told c.in-AtMost.is c.ranges.a c.ranges.b refl

pub returns-in-Equal : goal.returns-in-Equal
unfolding related
returns-in-Equal c = as_told c.in-Equal.is c.ranges.a c.ranges.b refl

pub returns-in-AtLeast : goal.returns-in-AtLeast
unfolding related
returns-in-AtLeast c = as_told c.in-AtLeast.is c.ranges.a c.ranges.b refl

pub returns-in-Greater : goal.returns-in-Greater
unfolding related
returns-in-Greater c = as_told c.in-Greater.is c.ranges.a c.ranges.b refl
