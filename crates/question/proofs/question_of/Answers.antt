-- `question::question_of` meets its contract: the first refusal in the order of the rows, and where there is none what was read and the
-- numbers that it needs.
use Prim.Native.Nat.{ℕ}
use mathlib.Core.List.{List}
use mathlib.Core.Path.{◌≡◌, sym, ap, subst}
use native.Mathlib.Omega.{arith}
use borrow.Author.Rules.{rules}
use Rattle.std.specs.Prelude.{Result, Ok, Err}
use Rattle.refusal.specs.declared.Refusal.{Refusal}
use Rattle.refusal.specs.Answers.{number_in, number_of, reply_of}
use Rattle.refusal.specs.Rows.{Decided}
use Rattle.model.specs.declared.Model.{Model}
use Rattle.sentence.specs.declared.Sentence.{Sentence}
use Rattle.question.specs.declared.Question.{Question}
use Rattle.question.specs.Contract.{QuestionRow}
use Rattle.question.specs.Working.{QuestionOf, FileOfModel, TextOfSentence, Late}
use Rattle.question.proofs.Numbers.{none_of}
use Rattle.question.proofs.Early.{file_refused, file_read, text_refused, text_read}
use Rattle.question.proofs.Settled.{ready_of}
use Rattle.question.proofs.question_of.Goals.{In_ok-model, In_ok-sentence, In_ok-late_rows}
use Rattle.question.proofs.question_of.Goals as goal

-- a refusal that the rows give
refused_so : {file text : List ℕ} {r : Result Question Refusal} {x : Refusal} → r ≡ Err x → Decided (QuestionRow file text) (number_of x) →
    QuestionOf file text r
refused_so {file} {text} e d = subst (QuestionOf file text) (sym e) d

-- what the late rows say of the file and the text
module _ {file text : List ℕ} {m : Model} {s : Sentence} {answer : Result Unit Refusal} (late : Late m s answer) (a : FileOfModel file m)
    (b : TextOfSentence text s) where
  late_refused : {x : Refusal} → answer ≡ Err x → Decided (QuestionRow file text) (number_of x)
  late_refused e =
      subst (Decided (QuestionRow file text)) (ap (λ (r : Result Unit Refusal). number_in (reply_of r)) e) (late.each file text a b)

  none_left : {u : Unit} → answer ≡ Ok u → (k : ℕ) → QuestionRow file text k → ⊥
  none_left e =
      let zero = ap (λ (r : Result Unit Refusal). number_in (reply_of r)) e in
      none_of (late.each file text a b) (omega (arith, zero))

-- The facts of the readers' results are found without the name of the call that stands between a reader and its `?`.
read : (c : In_ok-model) → FileOfModel c.args.file.now c.in_ok-model.model
read c =
    let was : c.read_model.result ≡ Ok c.in_ok-model.model = search rules in
    file_read c.read_model.ensures was

said : (c : In_ok-sentence) → TextOfSentence c.args.text.now c.in_ok-sentence.sentence
said c =
    let was : c.read_sentence.result ≡ Ok c.in_ok-sentence.sentence = search rules in
    text_read c.read_sentence.ensures was

pub returns-in_err-model : goal.returns-in_err-model
returns-in_err-model c =
    let x = c.in_err-model.field-0.0 in
    let same : c.from_residual.result ≡ Err x = search rules in
    let was : c.read_model.result ≡ Err x = search rules in
    refused_so same (file_refused c.read_model.ensures was)

pub returns-in_err-sentence : goal.returns-in_err-sentence
returns-in_err-sentence c =
    let x = c.in_err-sentence.field-0.0 in
    let same : c.from_residual-in_err-sentence.result ≡ Err x = search rules in
    let was : c.read_sentence.result ≡ Err x = search rules in
    refused_so same (text_refused (read (goal.at.returns-in_err-sentence c).In_ok-model).accepted c.read_sentence.ensures was)

pub late_rows-requires : goal.late_rows-requires
late_rows-requires c =
    let at = goal.at.late_rows-requires c in
    record { file = c.args.file.now; text = c.args.text.now; model = read at.In_ok-model; sentence = said at.In_ok-sentence }

pub returns-in_err-late_rows : goal.returns-in_err-late_rows
returns-in_err-late_rows c =
    let at = goal.at.returns-in_err-late_rows c in
    let x = c.in_err-late_rows.field-0.0 in
    let same : c.from_residual-in_err-late_rows.result ≡ Err x = search rules in
    let was : c.late_rows.result ≡ Err x = search rules in
    refused_so same (late_refused c.late_rows.ensures (read at.In_ok-model) (said at.In_ok-sentence) was)

-- none of the rows applies
free : (c : In_ok-late_rows) → FileOfModel c.args.file.now c.in_ok-model.model → TextOfSentence c.args.text.now c.in_ok-sentence.sentence →
    (k : ℕ) → QuestionRow c.args.file.now c.args.text.now k → ⊥
free c a b =
    let was : c.late_rows.result ≡ Ok _ = search rules in
    none_left c.late_rows.ensures a b was

pub area_needed-area-requires : goal.area_needed-area-requires
area_needed-area-requires c =
    let at = goal.at.area_needed-area-requires c in
    let a = read at.In_ok-model in
    let b = said at.In_ok-sentence in
    ready_of (free at.In_ok-late_rows a b) a b

pub returns : goal.returns
returns c =
    let at = goal.at.returns c in
    let a = read at.In_ok-model in
    let b = said at.In_ok-sentence in
    let none = free at.In_ok-late_rows a b in
    record { none = none; model = a; sentence = b; ready = ready_of none a b; area = c.area_needed-area.ensures }
