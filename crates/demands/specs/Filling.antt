-- T-05 of document 02, empty rows: of merge and of the filled file.
use Rattle.std.specs.Prelude.{ℕ, ◌≤◌, false, List, ◌≡◌, length, take}
use Rattle.std.specs.Prelude.{Result, Ok}
use Rattle.refusal.specs.declared.Refusal.{Refusal}
use Rattle.refusal.specs.Answers.{at_front}
use Rattle.model.specs.Layout.{fields_of}
use Rattle.model.specs.Rules.{halted}
use Rattle.model.specs.Contract.{file_number}
use Rattle.chain.specs.Of.{filled_file}
use Rattle.groups.specs.Groups.{each_alone}
use Rattle.merge.specs.Contract.{MergeEnsures}

-- Of whatever merge answers and leaves, and of the filled file:
pub record EmptyRows : Type 0 where
  -- Merging keeps the version
  pub version : (file grouping : List ℕ) {before after : List ℕ} {size : ℕ} → MergeEnsures file grouping before after (Ok size) →
      (fields_of (take size after)).version ≡ (fields_of file).version
  -- and writes filled rows: no state of the merged file is halted.
  pub rows_filled : (file grouping : List ℕ) {before after : List ℕ} {size : ℕ} → MergeEnsures file grouping before after (Ok size) →
      (s : ℕ) → halted (fields_of (take size after)) s ≡ false
  -- So grouping 0, 1, 2 and on gives back the filled file, where the output has room for it;
  pub back : (file : List ℕ) {before after : List ℕ} {w : Result ℕ Refusal} → file_number file ≡ 0 → length file ≤ length before →
      MergeEnsures file (each_alone (fields_of file).n) before after w →
      (w ≡ Ok (length file)) × (after ≡ at_front (filled_file file) before)
  -- in version 0, and wherever no state is halted, that is the same file.
  pub version_0 : (file : List ℕ) → file_number file ≡ 0 → (fields_of file).version ≡ 0 → filled_file file ≡ file
  pub none_halted : (file : List ℕ) → file_number file ≡ 0 → ((s : ℕ) → halted (fields_of file) s ≡ false) → filled_file file ≡ file
