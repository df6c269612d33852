-- The file and the text: their own rows give the number, or they are read.
use Prim.Native.Nat.{ℕ, zero, suc, ◌≤◌, ◌<◌}
use mathlib.Core.List.{List}
use mathlib.Core.Path.{◌≡◌, refl, sym, ap, subst, ◌∙◌}
use native.Mathlib.Omega.{arith}
use Rattle.std.specs.Prelude.{Result, Ok, Err}
use Rattle.refusal.specs.declared.Refusal.{Refusal}
use Rattle.refusal.specs.Answers.{number_in, number_of, reply_of, Ensured, refused as not-read, answered}
use Rattle.refusal.specs.Rows.{Decided, by_row, by_none}
use Rattle.refusal.proofs.Ensuring.{number_decided, number_positive}
use Rattle.model.specs.declared.Model.{Model}
use Rattle.model.specs.Contract.{file_number, ReadModelEnsures}
use Rattle.model.proofs.Answer.{read_number, read_value, read_refusal}
use Rattle.sentence.specs.declared.Node.{Node}
use Rattle.sentence.specs.declared.Sentence.{Sentence}
use Rattle.sentence.specs.Grammar.{Spells}
use Rattle.sentence_reader.specs.Contract.{ReadRow, Spelled, ReadSentenceEnsures}
use Rattle.sentence.specs.Record.{record_of}
use Rattle.trees.proofs.Exists.{formula_of}
use Rattle.question.specs.Contract.{QuestionRow, model, sentence, labels, size, tuples}
use Rattle.question.specs.Working.{FileOfModel, TextOfSentence}
use Rattle.question.proofs.Numbers.{text_number, least_model}
use Rattle.question.proofs.Stages.{none_of_file}

-- the file

pub gives_file : {file text : List ℕ} {n : ℕ} → file_number file ≡ n → 0 < n → Decided (QuestionRow file text) n
gives_file {n = zero} e h = absurd (omega arith)
gives_file {n = suc n} e h = let least = least_model e in by_row least.0 least.1

-- where no row of the question applies, the file is accepted
pub file_free : {file text : List ℕ} → ((n : ℕ) → QuestionRow file text n → ⊥) → file_number file ≡ 0
file_free {file} none = by (file_number file) refl
  where
    by : (n : ℕ) → file_number file ≡ n → n ≡ 0
    by zero e = refl
    by (suc n) e = absurd (none (suc n) (least_model e).0)

-- the reader's refusal is the question's
pub file_refused : {file text : List ℕ} {r : Result Model Refusal} {x : Refusal} → ReadModelEnsures file r → r ≡ Err x →
    Decided (QuestionRow file text) (number_of x)
file_refused {file} {x = x} reads e = gives_file (read_refusal file reads e) (number_positive x)

pub file_read : {file : List ℕ} {r : Result Model Refusal} {m : Model} → ReadModelEnsures file r → r ≡ Ok m → FileOfModel file m
file_read {file} {r} {m} reads e =
    let free = sym (read_number file reads) ∙ ap (λ (r : Result Model Refusal). number_in (reply_of r)) e in
    record { accepted = free; fields = cc (sym e ∙ read_value file reads free) }

-- the text

pub text_refused : {file text : List ℕ} {r : Result Sentence Refusal} {x : Refusal} → file_number file ≡ 0 → ReadSentenceEnsures text r →
    r ≡ Err x → Decided (QuestionRow file text) (number_of x)
text_refused {file} {text} {x = x} free said e =
    by (subst (Decided (ReadRow text)) (ap (λ (r : Result Sentence Refusal). number_in (reply_of r)) e) (number_decided said.ensured))
    (number_positive x)
  where
    by : {n : ℕ} → Decided (ReadRow text) n → 0 < n → Decided (QuestionRow file text) n
    by (by_none none) h = absurd (omega arith)
    by {n} (by_row row least) h = by_row (sentence row) from
      where
        from : (j : ℕ) → QuestionRow file text j → n ≤ j
        from j (model b) = absurd (none_of_file file free b)
        from j (sentence b) = least j b
        from j (labels s b) = let x = text_number row in omega arith
        from j (size s b) = let x = text_number row in omega arith
        from j (tuples s b) = let x = text_number row in omega arith

pub text_read : {text : List ℕ} {r : Result Sentence Refusal} {s : Sentence} → ReadSentenceEnsures text r → r ≡ Ok s → TextOfSentence text s
text_read {text} {r} {s} said e = by said.ensured
  where
    by : Ensured (ReadRow text) (λ read nothing. Spelled text read) (tt {0}) (reply_of r) (tt {0}) → TextOfSentence text s
    by (not-read k l row least) =
        let x = text_number row in
        let n = sym (ap number_in k) ∙ ap (λ (r : Result Sentence Refusal). number_in (reply_of r)) e in
        absurd (omega (arith, n, x))
    by (answered {v} k right clean) =
        let f = formula_of right.spells.nests in
        let same : s ≡ v = cc (sym (ap reply_of e) ∙ k) in
        record {
          prefix = right.prefix;
          body = f.0;
          spelled = subst (λ (l : List Node). Spells right.prefix l text) f.1 right.spells;
          clean = clean;
          fields = same ∙ right.fields ∙ ap (record_of right.prefix) f.1;
        }
