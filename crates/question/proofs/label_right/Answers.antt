-- `label_right` meets its contract: a label is tested, and of every other node the test says the same.
use Prim.Native.Nat.{ℕ}
use mathlib.Core.Bool.{true}
use mathlib.Core.Path.{◌≡◌, refl, sym, ap, ◌∙◌}
use lib.Dec.{ltb}
use Rattle.sentence.specs.declared.Node.{Node}
use Rattle.sentence.specs.declared.Node.TheVariants.{True, Label, Not, And, Compare, Probability, Constant}
use Rattle.sentence.specs.declared.Node.TheVariants.{Sum, Difference, Product, Next, Until}
use Rattle.question.specs.Contract.{label_right}
use Rattle.question.proofs.label_right.Goals as goal

-- a node that is no label is right whatever the number of labels
no_label : (a : ℕ) (node : Node) → ((l i : ℕ) → node ≡ Label l i → ⊥) → true ≡ label_right a node
no_label a True other = refl
no_label a (Label l i) other = absurd (other l i refl)
no_label a Not other = refl
no_label a And other = refl
no_label a (Compare r) other = refl
no_label a Probability other = refl
no_label a (Constant t b) other = refl
no_label a Sum other = refl
no_label a Difference other = refl
no_label a Product other = refl
no_label a Next other = refl
no_label a (Until k1 k2) other = refl

pub returns-in-Label : goal.returns-in-Label
returns-in-Label c = ap (λ (l : ℕ). ltb l c.args.a) c.from.ensures ∙ sym (ap (label_right c.args.a) c.in-Label.is)

pub returns-in_default : goal.returns-in_default
returns-in_default c = no_label c.args.a c.args.node c.in_default.not-Label
