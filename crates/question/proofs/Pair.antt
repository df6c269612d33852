-- What is known of a model and a sentence that were read.
use Prim.Native.Nat.{ℕ, ◌≤◌, ◌<◌}
use mathlib.Core.List.{List, [], ◌++◌}
use mathlib.Core.Path.{◌≡◌, refl, sym, ap, subst, ◌∙◌}
use native.Mathlib.Omega.{arith}
use native.Mathlib.Decide.{dec_lt}
use lib.ListN.{length}
use Rattle.model.specs.declared.Model.{Model}
use Rattle.sentence.specs.declared.Sentence.{Sentence}
use Rattle.sentence.specs.declared.Node.{Node}
use Rattle.sentence_reader.specs.Contract.{many}
use Rattle.sentence.specs.Record.{record_of, prefix_of, nodes_of}
use Rattle.sentence.proofs.Records.{same_sentence}
use Rattle.trees.specs.Listed.{formula_nodes}
use Rattle.trees.specs.Standing.{FormulaAt}
use Rattle.trees.proofs.Once.{formula_once}
use Rattle.trees.proofs.Stretch.{record_stands}
use Rattle.chain.proofs.Accepted as accepted
use Rattle.question.specs.Contract.{SentenceOf}
use Rattle.question.specs.Working.{FileOfModel, TextOfSentence}

-- the sentence of a text that was read
abbrev pub own_sentence : {text : List ℕ} {s : Sentence} → TextOfSentence text s → SentenceOf text
own_sentence b = record { prefix = b.prefix; body = b.body; spelled = b.spelled }

module _ {file : List ℕ} {m : Model} (a : FileOfModel file m) where
  pub states_few : m.n ≤ 32
  states_few = subst (λ (x : Model). x.n ≤ 32) (sym a.fields) (accepted.states_few file a.accepted)

module _ {text : List ℕ} {s : Sentence} (b : TextOfSentence text s) where
  pub nodes_few : length (formula_nodes b.body) ≤ 64
  nodes_few = by (dec_lt 64 (length (formula_nodes b.body)))
    where
      by : Dec (64 < length (formula_nodes b.body)) → length (formula_nodes b.body) ≤ 64
      by (yes h) = absurd (b.clean 8 (many b.spelled h))
      by (no h) = omega arith

  pub letters_few : s.letters ≤ 4
  unfolding record_of
  letters_few = subst (λ (x : Sentence). x.letters ≤ 4) (sym b.fields) b.spelled.few

  pub count_few : s.count ≤ 64
  unfolding record_of
  count_few = subst (λ (x : Sentence). x.count ≤ 64) (sym b.fields) nodes_few

  -- the body stands in the places of the record
  pub stands : FormulaAt s.nodes 0 b.body (length (formula_nodes b.body))
  stands =
      subst (λ (x : Sentence). FormulaAt x.nodes 0 b.body (length (formula_nodes b.body))) (sym b.fields)
      (record_stands b.prefix (formula_nodes b.body) b.body nodes_few refl)

  pub letters_length : s.letters ≡ length b.prefix
  unfolding record_of
  letters_length = ap (λ (x : Sentence). x.letters) b.fields

-- a sentence has one prefix and one body
pub one_sentence : {text text' : List ℕ} {s : Sentence} (b : TextOfSentence text s) (d : TextOfSentence text' s) →
    (b.prefix ≡ d.prefix) × (b.body ≡ d.body)
one_sentence {s = s} b d =
    let e = sym b.fields ∙ d.fields in
    let was = same_sentence b.prefix (formula_nodes b.body) in
    let is = same_sentence d.prefix (formula_nodes d.body) in
    let nodes = sym was.1 ∙ ap nodes_of e ∙ is.1 in
    (sym was.0 ∙ ap prefix_of e ∙ is.0, (formula_once b.body d.body [] [] (ap (λ (l : List Node). l ++ []) nodes)).0)
