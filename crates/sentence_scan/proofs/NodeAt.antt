-- What `operator` answers. Assumes nothing.
use Prim.Native.Nat.{ℕ}
use mathlib.Core.List.{[], ◌∷◌, ◌++◌}
use mathlib.Core.Path.{◌≡◌, sym, ap}
use native.Mathlib.Omega.{arith}
use lib.ListN.{length, length-append}
use Rattle.numerals.proofs.Numbers.{first_byte}
use Rattle.numerals.specs.Numeral.{number_text}
use Rattle.sentence.specs.declared.Node.TheVariants.{True, Label, Not, And, Compare, Probability, Constant, Sum, Difference, Product, Next}
use Rattle.sentence.specs.declared.Node.TheVariants.{Until}
use Rattle.sentence.specs.declared.Relation.TheVariants.{Less, AtMost, Equal, AtLeast, Greater}
use Rattle.sentence_scan.specs.Working.{NoOperator}

-- a byte that is none of the operators'
pub record Other (b : ℕ) : Type 0 where
  pub truth : b ≡ 84 → ⊥
  pub negation : b ≡ 33 → ⊥
  pub conjunction : b ≡ 38 → ⊥
  pub less : b ≡ 60 → ⊥
  pub at_most : b ≡ 76 → ⊥
  pub equal : b ≡ 61 → ⊥
  pub at_least : b ≡ 71 → ⊥
  pub greater : b ≡ 62 → ⊥
  pub probability : b ≡ 80 → ⊥
  pub sum : b ≡ 43 → ⊥
  pub difference : b ≡ 45 → ⊥
  pub product : b ≡ 42 → ⊥
  pub next : b ≡ 88 → ⊥

pub no_operator : (b : ℕ) → Other b → NoOperator b
no_operator b o True is = o.truth (sym (ap first_byte is.text))
no_operator b o (Label l v) is = omega (arith, ap length is.text)
no_operator b o Not is = o.negation (sym (ap first_byte is.text))
no_operator b o And is = o.conjunction (sym (ap first_byte is.text))
no_operator b o (Compare Less) is = o.less (sym (ap first_byte is.text))
no_operator b o (Compare AtMost) is = o.at_most (sym (ap first_byte is.text))
no_operator b o (Compare Equal) is = o.equal (sym (ap first_byte is.text))
no_operator b o (Compare AtLeast) is = o.at_least (sym (ap first_byte is.text))
no_operator b o (Compare Greater) is = o.greater (sym (ap first_byte is.text))
no_operator b o Probability is = o.probability (sym (ap first_byte is.text))
no_operator b o (Constant x y) is = omega (arith, ap length is.text, length-append (number_text x) (47 ∷ (number_text y ++ 59 ∷ [])))
no_operator b o Sum is = o.sum (sym (ap first_byte is.text))
no_operator b o Difference is = o.difference (sym (ap first_byte is.text))
no_operator b o Product is = o.product (sym (ap first_byte is.text))
no_operator b o Next is = o.next (sym (ap first_byte is.text))
no_operator b o (Until x y) is = omega (arith, ap length is.text, length-append (number_text x) (44 ∷ (number_text y ++ 58 ∷ [])))
