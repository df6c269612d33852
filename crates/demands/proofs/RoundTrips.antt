-- Demand 2, of the readers and writers: both round trips, from what the calls ensure.
use Prim.Native.Nat.{ℕ, ◌≤◌}
use mathlib.Core.List.{List}
use mathlib.Core.Path.{◌≡◌, sym, ap, subst, ◌∙◌}
use lib.ListN.{length, take}
use lib.Seq.{take_at}
use Rattle.std.specs.Prelude.{Result, Ok}
use Rattle.refusal.specs.declared.Refusal.{Refusal}
use Rattle.refusal.specs.Answers.{at_front}
use Rattle.refusal.proofs.Ensuring.{right_of}
use Rattle.refusal.proofs.Listed.{list_number, none_applies, one_writing, writes_done}
use Rattle.model.specs.declared.Model.{Model}
use Rattle.model.specs.Layout.{Shaped, fields_of, file_of}
use Rattle.model.specs.Contract.{ReadModelEnsures, record_number, WriteModelEnsures}
use Rattle.model.proofs.Answer.{record_rows_ascend, read_number, read_value}
use Rattle.model.proofs.Theorems.{write_of_read, write_of_read_fits, read_of_write}
use Rattle.round_trips.proofs.RoundTrips.{read_then_write, write_then_read}
use Rattle.demands.specs.Demands.{RoundTrips}

-- writing a model that was read
file_back : (file : List ℕ) {before after : List ℕ} {m : Model} {w : Result ℕ Refusal} → ReadModelEnsures file (Ok m) →
    length file ≤ length before → WriteModelEnsures m before after w → (w ≡ Ok (length file)) × (after ≡ at_front file before)
unfolding record_number
file_back file {before} {after} {m} {w} reads room writes =
    let accepted = sym (read_number file reads) in
    let m' = fields_of file in
    let same = write_of_read file accepted in
    let own : m ≡ m' = cc (read_value file reads accepted) in
    let text = subst (λ (x : Model). WriteModelEnsures x before after w) own writes in
    let wrote : WriteModelEnsures m' before (at_front file before) (Ok (length file)) =
    writes_done (record_rows_ascend m' (length before)) (file_of m') (write_of_read_fits file (length before) accepted room)
    (ap (λ (t : List ℕ). Ok (length t)) (sym same)) (ap (λ (t : List ℕ). at_front t before) (sym same)) in
    one_writing text wrote

-- reading a file that was written
model_back : {m : Model} {before after : List ℕ} {size : ℕ} {r : Result Model Refusal} → Shaped m →
    WriteModelEnsures m before after (Ok size) → ReadModelEnsures (take size after) r → r ≡ Ok m
unfolding record_number
model_back {m} {before} {after} {size} {r} shaped writes reads =
    let free = sym (list_number (record_rows_ascend m (length before)) writes.ensured) in
    let right = right_of (none_applies (record_rows_ascend m (length before)) free) writes.ensured in
    let long : length right.2.text ≡ size = sym right.2.sized ∙ sym (cc right.1) in
    let front : take size after ≡ file_of m = ap (take size) right.2.left ∙ take_at right.2.text _ size long ∙ right.2.asked in
    let back = read_of_write m (length before) shaped free in
    read_value (file_of m) (subst (λ (file : List ℕ). ReadModelEnsures file r) front reads) back.0 ∙ ap Ok back.1

pub round_trips : RoundTrips
round_trips =
    record {
      files = λ file reads room writes. file_back file reads room writes;
      texts = λ text reads room writes. read_then_write reads room writes;
      models = λ shaped writes reads. model_back shaped writes reads;
      sentences = λ long writes reads. write_then_read long writes reads;
    }
