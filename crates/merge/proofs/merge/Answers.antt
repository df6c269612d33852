-- `merge::merge` meets its contract: the reader's refusal where it refuses, else that of the model's groups.
use mathlib.Core.Path.{◌≡◌, refl, sym, ap, subst, ◌∙◌}
use borrow.Author.Rules.{rules}
use Prim.Native.Nat.{ℕ}
use mathlib.Core.List.{List}
use lib.ListN.{length}
use Rattle.std.specs.Prelude.{Result, Ok, Err}
use Rattle.refusal.specs.declared.Refusal.{Refusal}
use Rattle.refusal.specs.Answers.{number_in, number_of, reply_of, Writes}
use Rattle.refusal.proofs.Ensuring.{number_positive}
use Rattle.refusal.proofs.Listed.{writes_refused, rows_changed}
use Rattle.model.specs.declared.Model.{Model}
use Rattle.model.specs.Layout.{fields_of, file_of}
use Rattle.model.specs.Rules.{fields_right, rows_right}
use Rattle.model.specs.Contract.{file_number, ReadModelEnsures}
use Rattle.model.proofs.Answer.{read_number, read_value, read_refusal}
use Rattle.chain.proofs.Accepted.{fields_are_right, rows_are_right}
use Rattle.groups.specs.Groups.{merged_model}
use Rattle.merge.specs.Contract.{group_rows, merge_number, merged_file}
use Rattle.merge.proofs.Numbers.{group_rows_ascend, merge_rows_ascend, file_refused, file_accepted}
use Rattle.merge.proofs.merge.Goals as goal

-- what an accepted file's model is
module _ (file : List ℕ) {r : Result Model Refusal} {m : Model} (reads : ReadModelEnsures file r) (e : r ≡ Ok m) where
  read : file_number file ≡ 0
  read = sym (read_number file reads) ∙ ap (λ (r : Result Model Refusal). number_in (reply_of r)) e

  fields : m ≡ fields_of file
  fields = cc (sym e ∙ read_value file reads read)

pub merge_model-requires : goal.merge_model-requires
merge_model-requires c =
    let file = c.args.file.now in
    let ok = read file c.read_model.ensures c.in_ok-model.was in
    let same = fields file c.read_model.ensures c.in_ok-model.was in
    (ap fields_right same ∙ fields_are_right file ok, ap rows_right same ∙ rows_are_right file ok)

pub returns-in_err-model : goal.returns-in_err-model
unfolding merge_number
returns-in_err-model c =
    let a = c.args in
    let file = a.file.now in
    let x = c.in_err-model.field-0.0 in
    let same : c.from_residual.result ≡ Err x = search rules in
    writes_refused (merge_rows_ascend file a.grouping.now (length a.out.now)) (merged_file file a.grouping.now) x
    (file_refused file a.grouping.now (length a.out.now) (number_of x) (number_positive x)
    (read_refusal file c.read_model.ensures c.in_err-model.was)) same refl

pub returns : goal.returns
unfolding merge_number
returns c =
    let a = c.args in
    let file = a.file.now in
    let grouping = a.grouping.now in
    let room = length a.out.now in
    let last = c.merge_model.new.out in
    let r = c.merge_model.result in
    rows_changed (group_rows_ascend (fields_of file) grouping room) (merge_rows_ascend file grouping room)
    (sym (file_accepted file grouping room (read file c.read_model.ensures c.in_ok-model.was)))
    (subst (λ (m : Model). Writes (group_rows m grouping room) (file_of (merged_model m grouping)) a.out.now last r)
    (fields file c.read_model.ensures c.in_ok-model.was) c.merge_model.ensures)
