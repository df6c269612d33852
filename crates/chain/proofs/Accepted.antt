-- The chain of an accepted file: it is sound, N is 1..32 and D is 1..65,535.
use Prim.Native.Nat.{ℕ, ◌≤◌}
use mathlib.Core.Bool.{true}
use mathlib.Core.List.{List}
use mathlib.Core.Path.{◌≡◌}
use Rattle.model.specs.Layout.{fields_of}
use Rattle.model.specs.Rules.{fields_right, rows_right}
use Rattle.model.specs.Contract.{file_number}
use Rattle.model.proofs.Rightness as right
use Rattle.model.proofs.Theorems.{accepted}
use Rattle.meaning.specs.Chain.{Sound}
use Rattle.chain.specs.Of.{chain_of}
use Rattle.chain.proofs.Right.{sound_right}

module _ (file : List ℕ) (ok : file_number file ≡ 0) where
  -- its fields are right
  pub fields_are_right : fields_right (fields_of file) ≡ true
  fields_are_right = right.laid_fields file (fields_of file) (accepted file ok).laid

  -- every state's row adds up to D, or the state is halted
  pub rows_are_right : rows_right (fields_of file) ≡ true
  rows_are_right = (accepted file ok).sums

  -- N is at least 1
  pub states_some : 1 ≤ (chain_of (fields_of file)).N
  states_some = right.states_some (fields_of file) fields_are_right

  -- and at most 32
  pub states_few : (chain_of (fields_of file)).N ≤ 32
  states_few = right.states_few (fields_of file) fields_are_right

  -- D is at least 1
  pub total_some : 1 ≤ (chain_of (fields_of file)).D
  total_some = right.total_some (fields_of file) fields_are_right

  -- and at most 65,535
  pub total_few : (chain_of (fields_of file)).D ≤ 65535
  total_few = right.total_few (fields_of file) fields_are_right

  -- so the chain is sound
  pub sound : Sound (chain_of (fields_of file))
  sound = sound_right (fields_of file) fields_are_right rows_are_right
