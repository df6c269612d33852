-- Working: what the functions of this crate promise one another. Nothing here has to be believed.
--
-- The layers of expressions: at each tuple the code of the value's numerator.
use Rattle.std.specs.Prelude.{ℕ}
use Rattle.meaning.specs.Chain.{Chain, Tuple}
use Rattle.meaning.specs.Tree.{Expression, sum, difference, product}
use Rattle.meaning.specs.Meaning.{value}
use Rattle.fractions.specs.declared.Operation.{Operation}
use Rattle.fractions.specs.declared.Operation.TheVariants.{Sum, Difference, Product}
use Rattle.fractions.specs.Codes.{coded}

-- the code of the numerator of an expression's value
abbrev pub numerator_codes : Expression → Chain → ℕ → Tuple → ℕ
numerator_codes a c n s = coded (value a c n s).top

-- the expression that an operation makes of two
abbrev pub expression_of : Operation → Expression → Expression → Expression
expression_of Sum a b = sum a b
expression_of Difference a b = difference a b
expression_of Product a b = product a b
