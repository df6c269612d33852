-- A file of any size: the answer on the first bytes is the answer on the whole files. Assumes nothing.
use Prim.Native.Nat.{ℕ, zero, suc, ◌%◌, ◌≤◌, ◌<◌}
use mathlib.Core.Bool.{Bool, true, false, ◌&&◌}
use mathlib.Core.List.{List}
use mathlib.Core.Path.{◌≡◌, refl, sym, ap, subst, ◌∙◌}
use native.Mathlib.Omega.{arith}
use borrow.Author.Tests.{lt-leb}
use lib.Dec.{leb, eqb}
use lib.ListN.{length, take}
use Rattle.std.specs.Prelude.{Result}
use Rattle.refusal.specs.declared.Refusal.{Refusal}
use Rattle.refusal.specs.Answers.{refuses, number_in, Ensured, refused, answered, reply_of}
use Rattle.refusal.specs.Rows.{Decided, by_row}
use Rattle.refusal.proofs.Ensuring.{refused_as, others_first, number_decided}
use Rattle.refusal.proofs.Laws.{one_number}
use Rattle.model.specs.Rules.{length_right}
use Rattle.model.specs.Contract.{file_number}
use Rattle.model.proofs.Answer.{number_2}
use Rattle.sentence_reader.specs.Contract.{long}
use Rattle.question.specs.Contract.{QuestionRow, model, sentence, labels, size, tuples}
use Rattle.question.proofs.Numbers.{text_number}
use Rattle.question.proofs.Stages.{none_of_file}
use Rattle.question.proofs.Early.{gives_file}
use Rattle.verdict.specs.Contract.{VerdictRow, Judges, VerdictEnsures}
use Rattle.lines.specs.Texts.{without_newline}
use Rattle.twolsken.specs.Contract.{AnswersFiles, AnswersBuffers}
use Rattle.twolsken.proofs.Enough.{Alike, same, over, model_enough, text_enough}

-- a conjunction whose last part fails
last_fails : (a b c : Bool) → c ≡ false → (a && (b && c)) ≡ false
last_fails true true c e = e
last_fails true false c e = refl
last_fails false b c e = refl

-- a model file of over 3,072 bytes is refused 2, whatever the text
over_model : (file text : List ℕ) → 3072 < length file → Decided (QuestionRow file text) 2
unfolding length_right
over_model file text h =
    gives_file
    (number_2 file (last_fails (eqb (length file % 512) 0) (leb 512 (length file)) (leb (length file) 3072)
    (lt-leb (length file) 3072 h)))
    (omega arith)

-- a text of over 400 bytes is refused 6, unless the model is refused
over_text : (file text : List ℕ) → file_number file ≡ 0 → 400 < length text → Decided (QuestionRow file text) 6
over_text file text free h = by_row (sentence (long h)) from
  where
    from : (k : ℕ) → QuestionRow file text k → 6 ≤ k
    from k (model a) = absurd (none_of_file file free a)
    from k (sentence r) = (text_number r).0
    from k (labels s e) = omega arith
    from k (size s e) = omega arith
    from k (tuples s e) = omega arith

-- so the number of an accepted or a refused file does not depend on what is over
both_over : (file q text : List ℕ) → 400 < length q → 400 < length text →
    (n : ℕ) × (0 < n) × Decided (QuestionRow file q) n × Decided (QuestionRow file text) n
both_over file q text g h = by (file_number file) refl
  where
    by : (k : ℕ) → file_number file ≡ k → (n : ℕ) × (0 < n) × Decided (QuestionRow file q) n × Decided (QuestionRow file text) n
    by zero e = (6, omega arith, over_text file q e g, over_text file text e h)
    by (suc k) e = (suc k, omega arith, gives_file e (omega arith), gives_file e (omega arith))

-- two questions that give the same number have the same answer
alike : {file text file' text' before after : List ℕ} {r : Result Bool Refusal} {n : ℕ} → 0 < n → Decided (QuestionRow file text) n →
    Decided (QuestionRow file' text') n → VerdictEnsures file text before r after →
    VerdictEnsures file' text' before r after
alike {file} {text} {file'} {text'} {before} {after} {r} {n} some d d' a =
    by a.ensured (one_number (number_decided a.ensured) (others_first d some))
  where
    by : Ensured (VerdictRow file text (length before)) (Judges file text before) before (reply_of r) after → number_in (reply_of r) ≡ n →
        VerdictEnsures file' text' before r after
    by (refused e k row least) one =
        let number = sym (ap number_in e) ∙ one in
        record { ensured = refused_as (others_first d' some) some (e ∙ ap refuses number) k }
    by (answered e right none) one =
        let number = sym (ap number_in e) ∙ one in
        absurd (omega arith)

-- the answer on the first bytes is the answer on the whole files
pub any_size : (file said : List ℕ) {before after : List ℕ} {r : Result Bool Refusal} →
    VerdictEnsures (take 3073 file) (without_newline (take 402 said)) before r after →
    VerdictEnsures file (without_newline said) before r after
any_size file said {before} {after} {r} = by (model_enough file) (text_enough said)
  where
    by : Alike 3072 (take 3073 file) file → Alike 400 (without_newline (take 402 said)) (without_newline said) →
        VerdictEnsures (take 3073 file) (without_newline (take 402 said)) before r after →
        VerdictEnsures file (without_newline said) before r after
    by (over g h) t a = alike (omega arith) (over_model (take 3073 file) (without_newline (take 402 said)) g)
        (over_model file (without_newline said) h) a
    by (same e) (same f) a =
        subst (λ (x : List ℕ). VerdictEnsures x (without_newline said) before r after) e
        (subst (λ (x : List ℕ). VerdictEnsures (take 3073 file) x before r after) f a)
    by (same e) (over g h) a =
        let b = subst (λ (x : List ℕ). VerdictEnsures x (without_newline (take 402 said)) before r after) e a in
        let n = both_over file (without_newline (take 402 said)) (without_newline said) g h in
        alike n.1 n.2 n.3 b

-- so the answer on what stands in the buffers is the answer on the whole files, where the buffers have that many bytes
pub buffers_so : {model sentence : List ℕ} {m s : ℕ} {r : Result Bool Refusal} → length model ≡ 3073 → length sentence ≡ 402 →
    AnswersFiles (take m model) (take s sentence) r → AnswersBuffers model m sentence s r
buffers_so {model} {sentence} {m} {s} {r} whole-model whole-text own = record {
  each = λ file said first second.
      let model_first : take m model ≡ take 3073 file = first ∙ ap (λ (k : ℕ). take k file) whole-model in
      let text_first : take s sentence ≡ take 402 said = second ∙ ap (λ (k : ℕ). take k said) whole-text in
      record {
        before = own.before;
        after = own.after;
        enough = own.enough;
        answer =
            any_size file said
            (subst (λ (x : List ℕ). VerdictEnsures x (without_newline (take 402 said)) own.before r own.after) model_first
            (subst (λ (x : List ℕ). VerdictEnsures (take m model) (without_newline x) own.before r own.after) text_first
            own.answer));
      };
}
