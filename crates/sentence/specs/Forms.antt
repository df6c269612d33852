-- Document 01, 'The sentence text', line by line: which node lists are state formulas, expressions and paths. `Nests` of
-- Grammar says the same by a table; that it does is proved (proofs/Nesting).
use Rattle.std.specs.Prelude.{ℕ, List, [], ◌∷◌, ◌++◌}
use Rattle.sentence.specs.Grammar.{Writable}
use Rattle.sentence.specs.declared.Kind.{Kind}
use Rattle.sentence.specs.declared.Kind.TheVariants.{State, Expression, Path}
use Rattle.sentence.specs.declared.Relation.{Relation}
use Rattle.sentence.specs.declared.Node.{Node}
use Rattle.sentence.specs.declared.Node.TheVariants.{True, Label, Not, And, Compare, Probability, Constant, Sum, Difference, Product}
use Rattle.sentence.specs.declared.Node.TheVariants.{Next, Until}

-- `Form k ns`: the list ns is a state formula, an expression or a path
pub data Form : Kind → List Node → Type 0 where
  -- state formula: `T`; a label; `!` formula; `&` formula formula; a comparison and two expressions
  truth : Form State (True ∷ [])
  label : {l v : ℕ} → Writable (Label l v) → Form State (Label l v ∷ [])
  negation : {f : List Node} → Form State f → Form State (Not ∷ f)
  conjunction : {f g : List Node} → Form State f → Form State g → Form State (And ∷ (f ++ g))
  comparison : (r : Relation) {d e : List Node} → Form Expression d → Form Expression e → Form State (Compare r ∷ (d ++ e))
  -- expression: `P` path; a constant; `+`, `-` or `*` and two expressions
  probability : {p : List Node} → Form Path p → Form Expression (Probability ∷ p)
  constant : {a b : ℕ} → Writable (Constant a b) → Form Expression (Constant a b ∷ [])
  sum : {d e : List Node} → Form Expression d → Form Expression e → Form Expression (Sum ∷ (d ++ e))
  difference : {d e : List Node} → Form Expression d → Form Expression e → Form Expression (Difference ∷ (d ++ e))
  product : {d e : List Node} → Form Expression d → Form Expression e → Form Expression (Product ∷ (d ++ e))
  -- path: `X` formula; `U` and its window, formula formula
  next : {f : List Node} → Form State f → Form Path (Next ∷ f)
  until : {a b : ℕ} {f g : List Node} → Writable (Until a b) → Form State f → Form State g → Form Path (Until a b ∷ (f ++ g))
