-- T-05, of merge and of the filled file.
use Prim.Native.Nat.{ℕ, ◌≤◌}
use mathlib.Core.Bool.{false}
use mathlib.Core.List.{List}
use mathlib.Core.Path.{◌≡◌, sym, ap, ◌∙◌}
use lib.ListN.{length, take}
use lib.Seq.{take_at}
use Rattle.std.specs.Prelude.{Result, Ok}
use Rattle.refusal.specs.declared.Refusal.{Refusal}
use Rattle.refusal.specs.Answers.{at_front}
use Rattle.refusal.proofs.Ensuring.{right_of}
use Rattle.refusal.proofs.Listed.{none_applies, list_number, one_writing, writes_done}
use Rattle.model.specs.declared.Model.{Model}
use Rattle.model.specs.Layout.{fields_of}
use Rattle.model.specs.Rules.{halted}
use Rattle.model.specs.Contract.{file_number}
use Rattle.chain.specs.Of.{filled_file}
use Rattle.chain.proofs.Accepted.{fields_are_right, rows_are_right}
use Rattle.chain.proofs.Filling.{version_goes}
use Rattle.groups.specs.Groups.{each_alone, merged_model}
use Rattle.merge.specs.Contract.{merge_number, merged_file, MergeEnsures}
use Rattle.merge.proofs.Merging.{goes}
use Rattle.merge.proofs.Numbers.{merge_rows_ascend}
use Rattle.merge.proofs.Theorems.{Mergeable, mergeable, merged_read}
use Rattle.merge.proofs.Unmerged.{unfilled, own_file, own_long, own_fits}
use Rattle.demands.specs.Filling.{EmptyRows}

module _ (file grouping : List ℕ) {before after : List ℕ} {size : ℕ} (writes : MergeEnsures file grouping before after (Ok size)) where
  free : merge_number file grouping (length before) ≡ 0
  unfolding merge_number
  free = sym (list_number (merge_rows_ascend file grouping (length before)) writes.ensured)

  merges : Mergeable file grouping (length before)
  merges = mergeable file grouping (length before) free

  -- the bytes at the front are read as the merged model
  model_written : fields_of (take size after) ≡ merged_model (fields_of file) grouping
  unfolding merge_number
  model_written =
      let m = merges in
      let right = right_of (none_applies (merge_rows_ascend file grouping (length before)) free) writes.ensured in
      let long : length right.2.text ≡ size = sym right.2.sized ∙ sym (cc right.1) in
      let front : take size after ≡ merged_file file grouping =
      ap (take size) right.2.left ∙ take_at right.2.text _ size long ∙ right.2.asked in
      ap fields_of front ∙ merged_read file grouping m.accepted m.grouped m.alike

  version_kept : (fields_of (take size after)).version ≡ (fields_of file).version
  unfolding merged_model
  version_kept = ap (λ (m : Model). m.version) model_written

  none_stands : (s : ℕ) → halted (fields_of (take size after)) s ≡ false
  none_stands s =
      let m = merges in
      ap (λ (x : Model). halted x s) model_written ∙
      goes (fields_of file) grouping (fields_are_right file m.accepted) m.grouped m.alike (rows_are_right file m.accepted) s

-- grouping 0, 1, 2 and on
filled_back : (file : List ℕ) {before after : List ℕ} {w : Result ℕ Refusal} → file_number file ≡ 0 → length file ≤ length before →
    MergeEnsures file (each_alone (fields_of file).n) before after w →
    (w ≡ Ok (length file)) × (after ≡ at_front (filled_file file) before)
unfolding merge_number
filled_back file {before} accepted room writes =
    let own = each_alone (fields_of file).n in
    let wrote : MergeEnsures file own before (at_front (filled_file file) before) (Ok (length file)) =
    writes_done (merge_rows_ascend file own (length before)) (merged_file file own) (own_fits file accepted (length before) room)
    (ap Ok (sym (own_long file accepted))) (ap (λ (t : List ℕ). at_front t before) (sym (own_file file accepted))) in
    one_writing writes wrote

pub empty_rows : EmptyRows
empty_rows =
    record {
      version = λ file grouping writes. version_kept file grouping writes;
      rows_filled = λ file grouping writes s. none_stands file grouping writes s;
      back = λ file accepted room writes. filled_back file accepted room writes;
      version_0 = λ file accepted zero. unfilled file accepted (version_goes (fields_of file) zero);
      none_halted = λ file accepted none. unfilled file accepted none;
    }
