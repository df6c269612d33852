-- Demand 2, of the exported readers and writers (`exported_round_trips`): the numbers that a reader leaves stand for what was read, so
-- both round trips are those of the library's own calls.
use Prim.Native.Nat.{ℕ, ◌≤◌, ◌<◌}
use mathlib.Core.Bool.{not}
use mathlib.Core.List.{List, [], ◌∷◌}
use mathlib.Core.Path.{◌≡◌, refl, sym, ap, subst, ◌∙◌}
use native.Mathlib.Decide.{dec_lt}
use native.Mathlib.Omega.{arith}
use lib.Dec.{eqb}
use lib.ListN.{length, take, get_or}
use Rattle.counting.proofs.Laws.{length_table}
use Rattle.std.specs.Prelude.{Result, Ok, Err}
use Rattle.refusal.specs.declared.Refusal.{Refusal}
use Rattle.refusal.specs.Rows.{Decided, by_row, by_none}
use Rattle.refusal.specs.Answers.{gives, refuses, number_in, reply_of, Ensured, answered, at_front}
use Rattle.refusal.proofs.Ensuring.{right_of, number_decided, filled_given, answer_told}
use Rattle.refusal.proofs.Listed.{none_applies}
use Rattle.model.specs.declared.Model.{Model}
use Rattle.model.specs.Layout.{Shaped}
use Rattle.model.specs.Contract.{file_number, ReadModelEnsures, WriteModelEnsures}
use Rattle.model.proofs.Answer.{file_rows_ascend, read_number}
use Rattle.sentence.specs.declared.Sentence.{Sentence}
use Rattle.sentence_reader.specs.Contract.{ReadRow, many, Spelled, ReadSentenceEnsures}
use Rattle.sentence.specs.Record.{record_of, prefix_of, nodes_of}
use Rattle.sentence_writer.specs.Contract.{WriteSentenceEnsures}
use Rattle.codes.specs.Codes.{code_of, sentence_of, sentence_head, letter_codes, codes_of}
use Rattle.codes.proofs.Back.{record_back}
use Rattle.question.proofs.Numbers.{text_number}
use Rattle.exports.specs.Models.{head_of, model_of_parts, ExportedReadModel, ExportedWriteModel}
use Rattle.exports.specs.Sentences.{ExportedReadSentence, ExportedWriteSentence}
use Rattle.demands.specs.Demands.{ExportedRoundTrips}
use Rattle.demands.proofs.RoundTrips.{round_trips}

-- ---- what the exported readers leave

-- a code of 0 says that read model has read
model_done : {file head masks head' masks' : List ℕ} {rows rows' : List (List ℕ)} →
    (x : ExportedReadModel file head masks rows head' masks' rows' 0) → (m : Model) × (x.read ≡ Ok m)
unfolding file_number
model_done {file} x =
    let free = sym (read_number file x.answer) ∙ sym x.answered in
    let right = right_of (none_applies (file_rows_ascend file) free) x.answer.ensured in
    (right.0, answer_told x.read (Ok right.0) right.1)

-- the three parts that it leaves stand for the model that was read
model_parts : {file head masks head' masks' : List ℕ} {rows rows' : List (List ℕ)} {r : ℕ} {m : Model}
    (x : ExportedReadModel file head masks rows head' masks' rows' r) → x.read ≡ Ok m →
    (head' ≡ head_of m) × (masks' ≡ m.masks) × (rows' ≡ m.weights)
model_parts {head = head} {masks} {rows = rows} x done =
    let told = ap reply_of done in (
      x.head_left ∙ filled_given head_of told head,
      x.masks_left ∙ filled_given (λ (m : Model). m.masks) told masks,
      x.weights_left ∙ filled_given (λ (m : Model). m.weights) told rows,
    )

-- a code of 0 says that read sentence has read
sentence_done : {text head exists head' exists' : List ℕ} {codes codes' : List (List ℕ)} →
    (x : ExportedReadSentence text head exists codes head' exists' codes' 0) → (s : Sentence) × (x.read ≡ Ok s)
sentence_done {text} x =
    let right = right_of (by (subst (Decided (ReadRow text)) (sym x.answered) (number_decided x.answer.ensured)))
    x.answer.ensured in
    (right.0, answer_told x.read (Ok right.0) right.1)
  where
    by : Decided (ReadRow text) 0 → (n : ℕ) → ReadRow text n → ⊥
    by (by_row row least) n r = let some = text_number row in omega arith
    by (by_none none) n r = none n r

-- the three parts that it leaves stand for the sentence that was read
sentence_parts : {text head exists head' exists' : List ℕ} {codes codes' : List (List ℕ)} {r : ℕ} {s : Sentence}
    (x : ExportedReadSentence text head exists codes head' exists' codes' r) → x.read ≡ Ok s →
    sentence_of (get_or head' 0 0) (get_or head' 1 0) exists' codes' ≡ s
unfolding record_of
sentence_parts {text} {head} {exists} {head'} {exists'} {codes} {codes'} {s = s} x done = by x.answer.ensured
  where
    by : Ensured (ReadRow text) (λ read nothing. Spelled text read) (tt {0}) (reply_of x.read) (tt {0}) →
        sentence_of (get_or head' 0 0) (get_or head' 1 0) exists' codes' ≡ s
    by (Ensured.refused {n = n} e left row least) =
        let other : gives s ≡ refuses n = sym (ap reply_of done) ∙ e in
        let z : ◌≡◌ {A = ℕ} 0 1 = cc in
        absurd (omega arith)
    by (answered {v} e right none) =
        let told = ap reply_of done in
        let ps = right.prefix in
        let ns = right.nodes in
        let own = record_of ps ns in
        let read : s ≡ v = cc (sym told ∙ e) in
        let same : s ≡ own = read ∙ right.fields in
        let h : head' ≡ sentence_head own = x.head_left ∙ filled_given sentence_head told head ∙ ap sentence_head same in
        let l : exists' ≡ letter_codes own.exists =
        x.exists_left ∙ filled_given (λ (y : Sentence). letter_codes y.exists) told exists ∙
        ap (λ (y : Sentence). letter_codes y.exists) same in
        let c : codes' ≡ codes_of own.nodes =
        x.codes_left ∙ filled_given (λ (y : Sentence). codes_of y.nodes) told codes ∙ ap (λ (y : Sentence). codes_of y.nodes) same in
        let parts : sentence_of (get_or head' 0 0) (get_or head' 1 0) exists' codes' ≡
        sentence_of (length ps) (length ns) (letter_codes own.exists) (codes_of own.nodes) =
        λ i. sentence_of (get_or (h i) 0 0) (get_or (h i) 1 0) (l i) (c i) in
        parts ∙ record_back right.spells (few (dec_lt 64 (length ns))) ∙ sym same
      where
        few : Dec (64 < length right.nodes) → length right.nodes ≤ 64
        few (yes more) = absurd (none 8 (many right.spells more))
        few (no less) = omega arith

-- ---- what the exported writers tell

-- a code below 2^32 is a size
wrote_so : (w : Result ℕ Refusal) {size : ℕ} → size ≡ code_of w → size < 4294967296 → w ≡ Ok size
unfolding code_of
wrote_so (Ok k) e less = ap Ok (sym e)
wrote_so (Err r) e less = absurd (omega arith)

-- a head of four numbers
four : (l : List ℕ) → length l ≡ 4 → get_or l 0 0 ∷ get_or l 1 0 ∷ get_or l 2 0 ∷ get_or l 3 0 ∷ [] ≡ l
four [] e = absurd (omega arith)
four (a ∷ []) e = absurd (omega arith)
four (a ∷ b ∷ []) e = absurd (omega arith)
four (a ∷ b ∷ c ∷ []) e = absurd (omega arith)
four (a ∷ b ∷ c ∷ d ∷ []) e = refl
four (a ∷ b ∷ c ∷ d ∷ e ∷ l) p = absurd (omega arith)

-- ---- the round trips

file_back : {file head masks head' masks' before after : List ℕ} {rows rows' : List (List ℕ)} {r : ℕ} →
    ExportedReadModel file head masks rows head' masks' rows' 0 → length file ≤ length before →
    ExportedWriteModel (model_of_parts head' masks' rows') before after r → (r ≡ length file) × (after ≡ at_front file before)
unfolding code_of
file_back {file} {head' = head'} {masks'} {before} {after} {rows' = rows'} {r} x room writes =
    let done = model_done x in
    let parts = model_parts x done.1 in
    let same : model_of_parts head' masks' rows' ≡ done.0 = λ i. model_of_parts (parts.0 i) (parts.1 i) (parts.2 i) in
    let w = subst (λ (m : Model). ExportedWriteModel m before after r) same writes in
    let told = round_trips.files file (subst (ReadModelEnsures file) done.1 x.answer) room w.ensures in
    (w.coded ∙ ap code_of told.0, told.1)

text_back : {text head exists head' exists' before after : List ℕ} {codes codes' : List (List ℕ)} {r : ℕ} →
    ExportedReadSentence text head exists codes head' exists' codes' 0 → length text ≤ length before →
    ExportedWriteSentence (sentence_of (get_or head' 0 0) (get_or head' 1 0) exists' codes') before after r →
    (r ≡ length text) × (after ≡ at_front text before)
unfolding code_of
text_back {text} {before = before} {after} {r = r} x room writes =
    let done = sentence_done x in
    let w = subst (λ (s : Sentence). ExportedWriteSentence s before after r) (sentence_parts x done.1) writes in
    let told = round_trips.texts text (subst (ReadSentenceEnsures text) done.1 x.answer) room w.ensures in
    (w.coded ∙ ap code_of told.0, told.1)

model_back : {head masks before after h m h' m' : List ℕ} {rows w w' : List (List ℕ)} {size r : ℕ} → length head ≡ 4 →
    Shaped (model_of_parts head masks rows) → ExportedWriteModel (model_of_parts head masks rows) before after size → size < 4294967296 →
    ExportedReadModel (take size after) h m w h' m' w' r → (r ≡ 0) × (h' ≡ head) × (m' ≡ masks) × (w' ≡ rows)
model_back {head} {masks} {before} {after} {rows = rows} {size = size} long shaped x less y =
    let own = model_of_parts head masks rows in
    let writes = subst (λ (a : Result ℕ Refusal). WriteModelEnsures own before after a)
    (wrote_so x.answer x.coded less) x.ensures in
    let read = round_trips.models shaped writes y.answer in
    let parts = model_parts y read in (
      y.answered ∙ ap (λ (z : Result Model Refusal). number_in (reply_of z)) read,
      parts.0 ∙ four head long,
      parts.1,
      parts.2,
    )

sentence_back : (letters count : ℕ) (exists : List ℕ) (codes : List (List ℕ)) {before after h e h' e' : List ℕ}
    {c c' : List (List ℕ)} {size r : ℕ} →
    ExportedWriteSentence (sentence_of letters count exists codes) before after size → size < 4294967296 →
    ExportedReadSentence (take size after) h e c h' e' c' r →
    (r ≡ 0) × (sentence_of (get_or h' 0 0) (get_or h' 1 0) e' c' ≡
    record_of (prefix_of (sentence_of letters count exists codes)) (nodes_of (sentence_of letters count exists codes)))
sentence_back letters count exists codes {before} {after} {size = size} x less y =
    let own = sentence_of letters count exists codes in
    let writes = subst (λ (a : Result ℕ Refusal). WriteSentenceEnsures own before a after) (wrote_so x.answer x.coded less) x.ensures in
    let read = round_trips.sentences (length_table 4 (λ i. not (eqb (get_or exists i 0) 0))) writes y.answer in (
      y.answered ∙ ap (λ (z : Result Sentence Refusal). number_in (reply_of z)) read,
      sentence_parts y read,
    )

pub exported_round_trips : ExportedRoundTrips
exported_round_trips =
    record {
      files = λ x room writes. file_back x room writes;
      texts = λ x room writes. text_back x room writes;
      models = λ long shaped x less y. model_back long shaped x less y;
      sentences = λ letters count exists codes x less y. sentence_back letters count exists codes x less y;
    }
