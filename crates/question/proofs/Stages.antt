-- Of a file and a text that are accepted only rows 9, 10 and 11 are left; what each asks of the model and the sentence that
-- were read.
use Prim.Native.Nat.{ℕ, ◌^◌, ◌≤◌, ◌<◌}
use mathlib.Core.Bool.{Bool, true, false, true≢false}
use mathlib.Core.List.{List}
use mathlib.Core.Path.{◌≡◌, sym, ap, ap₂, subst, ◌∙◌}
use native.Mathlib.Omega.{arith}
use lib.ListN.{length, take}
use Rattle.refusal.specs.Rows.{Applies, Decided, by_row, by_none, Given}
use Rattle.model.specs.declared.Model.{Model}
use Rattle.model.specs.Layout.{fields_of}
use Rattle.model.specs.Contract.{file_rows, file_number}
use Rattle.model.proofs.Theorems.{read_smallest}
use Rattle.sentence.specs.declared.Sentence.{Sentence}
use Rattle.sentence.specs.Record.{nodes_of}
use Rattle.sentence.proofs.Records.{same_sentence}
use Rattle.meaning.specs.Lists.{every}
use Rattle.meaning.specs.Chain.{tuple_count}
use Rattle.meaning.specs.Tree.{Formula}
use Rattle.meaning.specs.Size.{exceeds}
use Rattle.trees.specs.Listed.{formula_nodes}
use Rattle.trees.proofs.Once.{sentence_once}
use Rattle.chain.specs.Of.{chain_of}
use Rattle.question.specs.Contract.{label_right, SentenceOf, QuestionRow, model, sentence, labels, size, tuples}
use Rattle.question.specs.Working.{FileOfModel, TextOfSentence}
use Rattle.question.proofs.Numbers.{file_number_bounds}
use Rattle.question.proofs.Pair.{letters_length, own_sentence}

-- no row of an accepted file applies
pub none_of_file : (file : List ℕ) → file_number file ≡ 0 → {n : ℕ} → Applies n (file_rows file) → ⊥
none_of_file file e {n} a = by (subst (Given (file_rows file)) e (read_smallest file))
  where
    by : Given (file_rows file) 0 → ⊥
    by (by_row b least) = let m = file_number_bounds file b in absurd (omega arith)
    by (by_none none) = none n a

module _ {file text : List ℕ} {m : Model} {s : Sentence} (a : FileOfModel file m) (b : TextOfSentence text s) where
  pub labels_same : every (label_right m.a) (take s.count s.nodes) ≡ every (label_right (fields_of file).a) (formula_nodes b.body)
  labels_same =
      ap (λ (x : Sentence). every (label_right m.a) (nodes_of x)) b.fields ∙
      ap (every (label_right m.a)) (same_sentence b.prefix (formula_nodes b.body)).1 ∙
      ap (λ (x : Model). every (label_right x.a) (formula_nodes b.body)) a.fields

  pub size_same : exceeds b.body m.d s.letters ≡ exceeds b.body (fields_of file).d (length b.prefix)
  size_same = ap₂ (exceeds b.body) (ap (λ (x : Model). x.d) a.fields) (letters_length b)

  pub tuples_same : m.n ^ s.letters ≡ tuple_count (chain_of (fields_of file)) (length b.prefix)
  unfolding tuple_count
  tuples_same = ap₂ (λ (n k : ℕ). n ^ k) (ap (λ (x : Model). x.n) a.fields) (letters_length b)

  -- the text's sentence is the one that was read
  pub one : (s : SentenceOf text) → (s.prefix ≡ b.prefix) × (s.body ≡ b.body)
  one s = sentence_once s.body b.body s.spelled b.spelled

  -- the rows that are left, of the model and the sentence that were read
  pub data Late : ℕ → Type 0 where
    nine : every (label_right (fields_of file).a) (formula_nodes b.body) ≡ false → Late 9
    ten : exceeds b.body (fields_of file).d (length b.prefix) ≡ true → Late 10
    eleven : 1024 < tuple_count (chain_of (fields_of file)) (length b.prefix) → Late 11

  late : {k : ℕ} → QuestionRow file text k → Late k
  late (model r) = absurd (none_of_file file a.accepted r)
  late {k} (sentence r) = absurd (b.clean k r)
  late (labels s e) =
      nine (ap (λ (g : Formula). every (label_right (fields_of file).a) (formula_nodes g)) (sym (one s).1) ∙ e)
  late (size s e) =
      ten (ap₂ (λ (g : Formula) (ps : List Bool). exceeds g (fields_of file).d (length ps)) (sym (one s).1) (sym (one s).0) ∙ e)
  late (tuples s e) =
      eleven (subst (λ (qs : List Bool). 1024 < tuple_count (chain_of (fields_of file)) (length qs)) (one s).0 e)

  pub gives_9 : every (label_right (fields_of file).a) (formula_nodes b.body) ≡ false → Decided (QuestionRow file text) 9
  gives_9 e = by_row (labels (own_sentence b) e) (λ k r. from (late r))
    where
      from : {k : ℕ} → Late k → 9 ≤ k
      from (nine h) = omega arith
      from (ten h) = omega arith
      from (eleven h) = omega arith

  module _ (right : every (label_right (fields_of file).a) (formula_nodes b.body) ≡ true) where
    pub gives_10 : exceeds b.body (fields_of file).d (length b.prefix) ≡ true → Decided (QuestionRow file text) 10
    gives_10 e = by_row (size (own_sentence b) e) (λ k r. from (late r))
      where
        from : {k : ℕ} → Late k → 10 ≤ k
        from (nine h) = absurd (true≢false (sym right ∙ h))
        from (ten h) = omega arith
        from (eleven h) = omega arith

    module _ (small : exceeds b.body (fields_of file).d (length b.prefix) ≡ false) where
      pub gives_11 : 1024 < tuple_count (chain_of (fields_of file)) (length b.prefix) → Decided (QuestionRow file text) 11
      gives_11 e = by_row (tuples (own_sentence b) e) (λ k r. from (late r))
        where
          from : {k : ℕ} → Late k → 11 ≤ k
          from (nine h) = absurd (true≢false (sym right ∙ h))
          from (ten h) = absurd (true≢false (sym h ∙ small))
          from (eleven h) = omega arith

      pub gives_none : tuple_count (chain_of (fields_of file)) (length b.prefix) ≤ 1024 → Decided (QuestionRow file text) 0
      gives_none few = by_none (λ k r. from (late r))
        where
          from : {k : ℕ} → Late k → ⊥
          from (nine h) = absurd (true≢false (sym right ∙ h))
          from (ten h) = absurd (true≢false (sym h ∙ small))
          from (eleven h) = absurd (omega arith)
