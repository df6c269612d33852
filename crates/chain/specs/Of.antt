-- The chain that a model describes: document 01, 'The model file', read as 'Meaning' speaks of it, with T-05's filling of empty rows.
use Rattle.std.specs.Prelude.{ℕ, Bool, cond, List, eqb}
use Rattle.counting.specs.Below.{table}
use Rattle.counting.specs.Entries.{bit_of}
use Rattle.model.specs.declared.Model.{Model}
use Rattle.model.specs.Layout.{mask_of, weight_of, model_of, fields_of, file_of}
use Rattle.model.specs.Rules.{halted}
use Rattle.meaning.specs.Chain.{Chain}

-- whether bit l of a number is 1
abbrev pub bit : ℕ → ℕ → Bool
bit l x = eqb (bit_of l x) 1

-- the weight from s to t after filling: an all-zero row of a version 1 model counts as weight D to the state itself
unfoldable pub filled_weight : Model → ℕ → ℕ → ℕ
filled_weight m s t = cond (halted m s) (cond (eqb s t) m.d 0) (weight_of m s t)

-- N states and D as in the model; column t of row s, after filling, is the weight from s to t; bit l of a state's mask is for label l
abbrev pub chain_of : Model → Chain
chain_of m = record { N = m.n; D = m.d; weight = λ s t. filled_weight m s t; label = λ l s. bit l (mask_of m s) }

-- the rows after filling
abbrev pub filled_rows : Model → List (List ℕ)
filled_rows m = table 32 (λ s. table 32 (filled_weight m s))

-- the model with its rows filled, and all else as before
abbrev pub filled_model : Model → Model
filled_model m = model_of m.n m.a m.d m.version m.masks (filled_rows m)

-- the filled file
abbrev pub filled_file : List ℕ → List ℕ
filled_file file = file_of (filled_model (fields_of file))
