-- Read model, write model and merge as other languages see them: the contracts of the three calls. An exported reader
-- that reads fills the memory that it is lent with the numbers of a record; one that refuses leaves it unchanged.
use Rattle.std.specs.Prelude.{ℕ, List, [], ◌∷◌, ◌≡◌, get_or, Result}
use Rattle.refusal.specs.declared.Refusal.{Refusal}
use Rattle.refusal.specs.Answers.{number_in, filled, reply_of}
use Rattle.model.specs.declared.Model.{Model}
use Rattle.model.specs.Layout.{model_of}
use Rattle.model.specs.Contract.{ReadModelEnsures, WriteModelEnsures}
use Rattle.codes.specs.Codes.{Coded, code_of}
use Rattle.merge.specs.Contract.{MergeEnsures}

-- N, A, D and the version, in this order
abbrev pub head_of : Model → List ℕ
head_of m = m.n ∷ m.a ∷ m.d ∷ m.version ∷ []

-- read model, exported: the number of what read model answers, and the three parts of the model
pub record ExportedReadModel (file : List ℕ) (head masks : List ℕ) (weights : List (List ℕ)) (head' masks' : List ℕ)
    (weights' : List (List ℕ))
    (r : ℕ) : Type 0 where
  pub read : Result Model Refusal
  pub answer : ReadModelEnsures file read
  pub answered : r ≡ number_in (reply_of read)
  pub head_left : head' ≡ filled head_of (reply_of read) head
  pub masks_left : masks' ≡ filled (λ m. m.masks) (reply_of read) masks
  pub weights_left : weights' ≡ filled (λ m. m.weights) (reply_of read) weights

-- the model that the three parts stand for: N, A, D and the version in this order, the masks and the weights
abbrev pub model_of_parts : (head masks : List ℕ) → List (List ℕ) → Model
model_of_parts head = model_of (get_or head 0 0) (get_or head 1 0) (get_or head 2 0) (get_or head 3 0)

-- write model, exported
abbrev pub ExportedWriteModel : Model → (before after : List ℕ) → ℕ → Type 0
ExportedWriteModel m before = Coded code_of (λ w after. WriteModelEnsures m before after w)

-- merge, exported
abbrev pub ExportedMerge : (file grouping before after : List ℕ) → ℕ → Type 0
ExportedMerge file grouping before =
    Coded code_of (λ w after. MergeEnsures file grouping before after w)
