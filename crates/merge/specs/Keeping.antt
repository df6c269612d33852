-- Working: what the functions of this crate promise one another. Nothing here has to be believed.
--
-- What merging keeps, said of the two models and document 01's definitions of them: a step to demand 3 of document 00, which the
-- crate `demands` says of the results.
use Rattle.std.specs.Prelude.{ℕ, ◌≤◌, false, List, map, ◌≡◌}
use Rattle.model.specs.declared.Model.{Model}
use Rattle.meaning.specs.Chain.{Tuple, Inside, tuple_count}
use Rattle.meaning.specs.Tree.{Formula, PathFormula, Letter}
use Rattle.meaning.specs.Meaning.{denominator, numerator, verdict}
use Rattle.meaning.specs.Size.{exceeds}
use Rattle.chain.specs.Of.{chain_of}

-- a model and the model that it is merged to, `group` being the group of each state
pub record MergingKeeps (full : Model) (group : ℕ → ℕ) (merged : Model) : Type 0 where
  -- Every sentence not refused on the full model is not refused on the merged model. Row 9 looks at A only:
  pub labels : merged.a ≡ full.a
  -- row 10 at D, n and the body:
  pub sizes : (body : Formula) (n : ℕ) → exceeds body full.d n ≡ false → exceeds body merged.d n ≡ false
  -- rows 11 and 1 at T:
  pub tuples : (n : ℕ) → tuple_count (chain_of merged) n ≤ tuple_count (chain_of full) n
  -- Each path formula's numerator and denominator, at every tuple of states, equal those on the merged model at the
  -- tuple of their groups,
  pub numerators : (p : PathFormula) (n : ℕ) (s : Tuple) → Inside full.n n s →
      numerator p (chain_of full) n s ≡ numerator p (chain_of merged) n (map group s)
  pub denominators : (p : PathFormula) (n : ℕ) → denominator p full.d n ≡ denominator p merged.d n
  -- a tuple of groups being one of states of the merged model,
  pub inside : (n : ℕ) (s : Tuple) → Inside full.n n s → Inside merged.n n (map group s)
  -- and the verdicts are equal.
  pub verdicts : (letters : List Letter) (body : Formula) →
      verdict (chain_of full) letters body ≡ verdict (chain_of merged) letters body
