-- The three demands of document 00, said of whatever the calls' contracts allow: of every reply, and of all that is left.
use Rattle.std.specs.Prelude.{ℕ, ◌≤◌, ◌<◌, cond, ◌↔◌, ◌≡◌, pos, length, take, get_or}
use mathlib.Core.List.{List, ◌∷◌, map, Memᴰ}
use Rattle.std.specs.Prelude.{Bool, Result, Ok}
use Rattle.refusal.specs.declared.Refusal.{Refusal}
use Rattle.refusal.specs.Rows.{Applies}
use Rattle.refusal.specs.Answers.{Reply, gives, refuses, reply_of, at_front}
use Rattle.model.specs.declared.Model.{Model}
use Rattle.model.specs.Layout.{Shaped, fields_of}
use Rattle.model.specs.Contract.{file_rows, file_number, ReadModelEnsures, record_rows, WriteModelEnsures}
use Rattle.sentence.specs.declared.Sentence.{Sentence}
use Rattle.sentence_reader.specs.Contract.{ReadRow, ReadSentenceEnsures}
use Rattle.sentence.specs.Record.{record_of, prefix_of, nodes_of}
use Rattle.sentence_writer.specs.Contract.{WriteRow, WriteSentenceEnsures}
use Rattle.meaning.specs.Lists.{total, Each, Distinct}
use Rattle.meaning.specs.Chain.{Chain, Tuple, Inside, Run, run_weight}
use Rattle.meaning.specs.Tree.{probability, PathFormula, letter_of}
use Rattle.meaning.specs.Named.{Some, count, named, chosen}
use Rattle.meaning.specs.Meaning.{steps_of, value, verdict}
use Rattle.meaning.specs.Watches.{takes}
use Rattle.meaning.specs.Merging.{weight_into, Grouping}
use Rattle.chain.specs.Of.{chain_of}
use Rattle.question.specs.Contract.{SentenceOf, AreaShort}
use Rattle.verdict.specs.Contract.{VerdictRow, VerdictEnsures}
use Rattle.numerator.specs.declared.Ratio.{Ratio}
use Rattle.numerator.specs.Contract.{NumeratorRow, NumeratorEnsures, numbered}
use Rattle.groups.specs.Groups.{group_of, merged_model}
use Rattle.merge.specs.Contract.{merge_rows, merged_file, MergeEnsures}
use Rattle.codes.specs.Codes.{sentence_of}
use Rattle.exports.specs.Models.{model_of_parts, ExportedReadModel, ExportedWriteModel}
use Rattle.exports.specs.Sentences.{ExportedReadSentence, ExportedWriteSentence}

-- ---- Demand 1

-- How a call ends, of its rows (`R n` says that the row with the number n applies; row 1 applies only where no other does), what it is
-- lent, its reply and what it leaves:
pub record Ends {A L : Type 0} (R : ℕ → Type 0) (before : L) (reply : Reply A) (after : L) : Type 0 where
  -- in a numbered refusal exactly if its row applies and none with a smaller number,
  pub refusal : (n : ℕ) → (reply ≡ refuses n) ↔ (R n × ((m : ℕ) → R m → n ≤ m))
  -- and in an answer exactly if no row applies.
  pub answer : ((v : A) × (reply ≡ gives v)) ↔ ((m : ℕ) → R m → ⊥)
  -- A refusal leaves all lent memory unchanged.
  pub unchanged : (n : ℕ) → reply ≡ refuses n → after ≡ before

-- Every model file, sentence and grouping of any length ends so, in each of the seven calls. A reader of the library is lent
-- nothing, and a refusal carries no record; the exported readers' contracts say that what they are lent is unchanged.
pub record Demand1 : Type 0 where
  pub read_model : (file : List ℕ) {r : Result Model Refusal} → ReadModelEnsures file r →
      Ends (λ n. Applies n (file_rows file)) (tt {0}) (reply_of r) (tt {0})
  pub write_model : (m : Model) {before after : List ℕ} {w : Result ℕ Refusal} → WriteModelEnsures m before after w →
      Ends (λ n. Applies n (record_rows m (length before))) before (reply_of w) after
  pub read_sentence : (text : List ℕ) {r : Result Sentence Refusal} → ReadSentenceEnsures text r →
      Ends (ReadRow text) (tt {0}) (reply_of r) (tt {0})
  pub write_sentence : {s : Sentence} {before after : List ℕ} {w : Result ℕ Refusal} → WriteSentenceEnsures s before w after →
      Ends (WriteRow s (length before)) before (reply_of w) after
  pub verdict_call : {file text before after : List ℕ} {a : Result Bool Refusal} → VerdictEnsures file text before a after →
      Ends (VerdictRow file text (length before)) before (reply_of a) after
  pub numerator_call : {file text tuple before after : List ℕ} {path : ℕ} {a : Result Ratio Refusal} →
      NumeratorEnsures file text tuple path before a after →
      Ends (NumeratorRow file text tuple path (length before)) before (reply_of a) after
  pub merge_call : (file grouping : List ℕ) {before after : List ℕ} {w : Result ℕ Refusal} →
      MergeEnsures file grouping before after w →
      Ends (λ n. Applies n (merge_rows file grouping (length before))) before (reply_of w) after

-- ---- Demand 2

-- the chain that a file describes, its empty rows filled
abbrev pub chain_in : List ℕ → Chain
chain_in file = chain_of (fields_of file)

-- a run of k steps of some variables from a tuple: their states in the tuple, followed by any k tuples of as many states
pub record RunFrom (c : Chain) (those : Some) (k : ℕ) (tuple : Tuple) (r : Run) : Type 0 where
  pub rest : Run
  pub starts : chosen those tuple ∷ rest ≡ r
  pub steps : Each (Inside c.N (count those)) k rest

-- A path formula's numerator and denominator at a tuple. There is a list
pub record PathProbability (c : Chain) (p : PathFormula) (n : ℕ) (tuple : Tuple) (top bottom : ℕ) : Type 0 where
  pub all : List Run
  -- in which just the runs from the tuple stand, of the variables that occur in the path formula, that have as many steps as it speaks of,
  pub just : (r : Run) → Memᴰ r all ↔ RunFrom c (named p n) (steps_of p) tuple r
  -- each run once.
  pub once : Distinct all
  -- The numerator is the total weight of those that the path formula takes,
  pub satisfying : top ≡ total (λ r. cond (takes p c n tuple r) (run_weight c r) 0) all
  -- the denominator the total weight of all.
  pub whole : bottom ≡ total (run_weight c) all

-- the value that a probability has in an expression, at a tuple
pub record Valued (c : Chain) (p : PathFormula) (n : ℕ) (tuple : Tuple) : Type 0 where
  pub top : ℕ
  pub bottom : ℕ
  pub valued : value (probability p) c n tuple ≡ record { top = pos top; bottom = bottom }
  pub counted : PathProbability c p n tuple top bottom

-- Demand 2, of verdict and numerator on a file, where no row applies: the text has a sentence, and one only;
pub record Demand2 (file : List ℕ) : Type 0 where
  pub one_sentence : {text : List ℕ} (s t : SentenceOf text) → (s.prefix ≡ t.prefix) × (s.body ≡ t.body)
  -- the verdict is 'holds' exactly if it holds;
  pub verdicts : {text before after : List ℕ} {a : Result Bool Refusal} → VerdictEnsures file text before a after →
      ((n : ℕ) → VerdictRow file text (length before) n → ⊥) →
      (s : SentenceOf text) × (reply_of a ≡ gives (verdict (chain_in file) (map letter_of s.prefix) s.body))
  -- each probability in it is, at every tuple of states, the total weight of the satisfying runs over the total weight of all;
  pub in_verdicts : {text : List ℕ} {room : ℕ} → ((n : ℕ) → VerdictRow file text room n → ⊥) → (s : SentenceOf text) (p : PathFormula)
      {tuple : Tuple} → Inside (chain_in file).N (length s.prefix) tuple → Valued (chain_in file) p (length s.prefix) tuple
  -- and so are the two numbers that numerator gives.
  pub probabilities : {text tuple before after : List ℕ} {path : ℕ} {a : Result Ratio Refusal} →
      NumeratorEnsures file text tuple path before a after → ((n : ℕ) → NumeratorRow file text tuple path (length before) n → ⊥) →
      (s : SentenceOf text) × (v : Ratio) × (reply_of a ≡ gives v) ×
      PathProbability (chain_in file) (numbered s.body path) (length s.prefix) tuple v.numerator v.denominator

-- Demand 2, of the readers and writers.
pub record RoundTrips : Type 0 where
  -- Writing what was read gives the same file
  pub files : (file : List ℕ) {before after : List ℕ} {m : Model} {w : Result ℕ Refusal} → ReadModelEnsures file (Ok m) →
      length file ≤ length before → WriteModelEnsures m before after w → (w ≡ Ok (length file)) × (after ≡ at_front file before)
  -- or text,
  pub texts : (text : List ℕ) {before after : List ℕ} {s : Sentence} {w : Result ℕ Refusal} → ReadSentenceEnsures text (Ok s) →
      length text ≤ length before → WriteSentenceEnsures s before w after → (w ≡ Ok (length text)) × (after ≡ at_front text before)
  -- and reading what was written gives the same model, of a record as its type has it,
  pub models : {m : Model} {before after : List ℕ} {size : ℕ} {r : Result Model Refusal} → Shaped m →
      WriteModelEnsures m before after (Ok size) → ReadModelEnsures (take size after) r → r ≡ Ok m
  -- or sentence, of a record with four places for letters, as its type has them: its prefix and its nodes, since places past the
  -- count are no part of it.
  pub sentences : {s : Sentence} {before after : List ℕ} {size : ℕ} {r : Result Sentence Refusal} → length s.exists ≡ 4 →
      WriteSentenceEnsures s before (Ok size) after → ReadSentenceEnsures (take size after) r →
      r ≡ Ok (record_of (prefix_of s) (nodes_of s))

-- The same of the exported calls, on the numbers that they leave and take. A code of 0 says that a reader has read, and one below 2^32
-- that a writer has written so many bytes.
pub record ExportedRoundTrips : Type 0 where
  -- Writing what was read gives the same file
  pub files : {file head masks head' masks' before after : List ℕ} {weights weights' : List (List ℕ)} {r : ℕ} →
      ExportedReadModel file head masks weights head' masks' weights' 0 → length file ≤ length before →
      ExportedWriteModel (model_of_parts head' masks' weights') before after r → (r ≡ length file) × (after ≡ at_front file before)
  -- or text,
  pub texts : {text head exists head' exists' before after : List ℕ} {codes codes' : List (List ℕ)} {r : ℕ} →
      ExportedReadSentence text head exists codes head' exists' codes' 0 → length text ≤ length before →
      ExportedWriteSentence (sentence_of (get_or head' 0 0) (get_or head' 1 0) exists' codes') before after r →
      (r ≡ length text) × (after ≡ at_front text before)
  -- and reading what was written leaves the same head, masks and weights, of three parts as their types have them,
  pub models : {head masks before after h m h' m' : List ℕ} {weights w w' : List (List ℕ)} {size r : ℕ} → length head ≡ 4 →
      Shaped (model_of_parts head masks weights) → ExportedWriteModel (model_of_parts head masks weights) before after size
      → size < 4294967296 →
      ExportedReadModel (take size after) h m w h' m' w' r → (r ≡ 0) × (h' ≡ head) × (m' ≡ masks) × (w' ≡ weights)
  -- or the same sentence: its prefix and its nodes.
  pub sentences : (letters count : ℕ) (exists : List ℕ) (codes : List (List ℕ)) {before after h e h' e' : List ℕ}
      {c c' : List (List ℕ)} {size r : ℕ} →
      ExportedWriteSentence (sentence_of letters count exists codes) before after size → size < 4294967296 →
      ExportedReadSentence (take size after) h e c h' e' c' r →
      (r ≡ 0) × (sentence_of (get_or h' 0 0) (get_or h' 1 0) e' c' ≡
      record_of (prefix_of (sentence_of letters count exists codes)) (nodes_of (sentence_of letters count exists codes)))

-- ---- Demand 3

-- It speaks of a model that is accepted, a grouping that gives each state one of M groups, every group number used, and an output
-- that has room.
pub record MergeAsked (file grouping : List ℕ) (M room : ℕ) : Type 0 where
  pub accepted : file_number file ≡ 0
  pub long : length grouping ≡ (fields_of file).n
  pub grouped : Grouping (chain_in file) (group_of grouping) M
  pub fits : length (merged_file file grouping) ≤ room

-- two states of one group differ in labels or in their weight into some group
pub data Differ (c : Chain) (group : ℕ → ℕ) (M : ℕ) : Type 0 where
  in_labels : (s t : ℕ) → s < c.N → t < c.N → group s ≡ group t →
      (((l : ℕ) → c.label l s ≡ c.label l t) → ⊥) → Differ c group M
  in_weight : (s t : ℕ) → s < c.N → t < c.N → group s ≡ group t → (h : ℕ) → h < M →
      (weight_into c group s h ≡ weight_into c group t h → ⊥) → Differ c group M

-- What merging keeps, of the answers on a file and on the file that it is merged to:
pub record Keeps (file grouping merged : List ℕ) : Type 0 where
  -- a work area that is long enough for the full model is so for the merged one;
  pub room : {text : List ℕ} {room : ℕ} → (AreaShort file text room → ⊥) → AreaShort merged text room → ⊥
  -- for every sentence not refused on the full model the verdicts are equal, where the second area is long enough for the merged one,
  pub verdicts : {text area area' left left' : List ℕ} {a b : Result Bool Refusal} → (AreaShort merged text (length area') → ⊥) →
      VerdictEnsures file text area a left →
      ((n : ℕ) → VerdictRow file text (length area) n → ⊥) → VerdictEnsures merged text area' b left' → a ≡ b
  -- and each path formula's numerator and denominator, at every tuple of states, equal those on the merged model at the tuple of
  -- their groups.
  pub numerators : {text tuple area area' left left' : List ℕ} {path : ℕ} {a b : Result Ratio Refusal} →
      (AreaShort merged text (length area') → ⊥) →
      NumeratorEnsures file text tuple path area a left → ((n : ℕ) → NumeratorRow file text tuple path (length area) n → ⊥) →
      NumeratorEnsures merged text (map (group_of grouping) tuple) path area' b left' → a ≡ b

-- The merged model is written: the bytes at the front are its file, which is accepted and read as that model, and what merging
-- keeps is kept.
pub record MergedWritten (file grouping : List ℕ) (answer : Result ℕ Refusal) (after : List ℕ) : Type 0 where
  pub size : ℕ
  pub answered : reply_of answer ≡ gives size
  pub front : take size after ≡ merged_file file grouping
  pub accepted : file_number (take size after) ≡ 0
  pub model : fields_of (take size after) ≡ merged_model (fields_of file) grouping
  pub keeps : Keeps file grouping (take size after)

-- Demand 3, of whatever merge answers and leaves.
pub record Demand3 : Type 0 where
  -- It is refused, with the number 13, exactly if two states of one group differ in labels or in their weight into some group;
  pub refused : (file grouping : List ℕ) (M : ℕ) {before after : List ℕ} {w : Result ℕ Refusal} →
      MergeAsked file grouping M (length before) →
      MergeEnsures file grouping before after w →
      (reply_of w ≡ refuses 13) ↔ Differ (chain_in file) (group_of grouping) M
  -- it is refused with no other number.
  pub number : (file grouping : List ℕ) (M : ℕ) {before after : List ℕ} {w : Result ℕ Refusal} →
      MergeAsked file grouping M (length before) →
      MergeEnsures file grouping before after w →
      (n : ℕ) → reply_of w ≡ refuses n → n ≡ 13
  -- Otherwise the merged model is written, and what merging keeps is kept.
  pub written : (file grouping : List ℕ) (M : ℕ) {before after : List ℕ} {w : Result ℕ Refusal} →
      MergeAsked file grouping M (length before) →
      MergeEnsures file grouping before after w →
      (Differ (chain_in file) (group_of grouping) M → ⊥) → MergedWritten file grouping w after
