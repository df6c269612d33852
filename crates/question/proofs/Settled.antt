-- A file and a text to which none of the question's rows applies: the model and the sentence that were read are ready for evaluation.
use Prim.Native.Nat.{ℕ, ◌*◌, ◌^◌, ◌≤◌, ◌<◌}
use mathlib.Core.Bool.{Bool, true, false}
use mathlib.Core.List.{List}
use mathlib.Core.Path.{◌≡◌, refl, sym, ap, ap₂, subst, ◌∙◌}
use native.Mathlib.Decide.{dec_lt}
use native.Mathlib.Nat.{mul-le-mul_right}
use native.Mathlib.Omega.{arith}
use lib.ListN.{length}
use Rattle.std.specs.Prelude.{Result, Ok, Err}
use Rattle.refusal.specs.declared.Refusal.{Refusal}
use Rattle.refusal.specs.Answers.{number_of}
use Rattle.refusal.specs.Rows.{Decided}
use Rattle.model.specs.declared.Model.{Model}
use Rattle.model.specs.Layout.{fields_of}
use Rattle.sentence.specs.declared.Sentence.{Sentence}
use Rattle.sentence.specs.Grammar.{some_out_of_range}
use Rattle.sentence_reader.specs.Contract.{range}
use Rattle.sentence.specs.Record.{record_of}
use Rattle.meaning.specs.Chain.{Sound, tuple_count}
use Rattle.meaning.specs.Size.{exceeds}
use Rattle.counting.specs.Entries.{cell}
use Rattle.layers.specs.Held.{LayerSizes}
use Rattle.layers.specs.declared.Setting.{Setting}
use Rattle.evaluate.specs.Evaluation.{Fixed}
use Rattle.trees.specs.Listed.{formula_nodes}
use Rattle.trees.specs.Ranged.{Ranged}
use Rattle.trees.proofs.Ranges.{nests_in_range, formula_ranged}
use Rattle.chain.specs.Of.{chain_of, filled_rows}
use Rattle.chain.proofs.Filling.{filled_cell}
use Rattle.chain.proofs.Accepted as accepted
use Rattle.question.specs.declared.Question.{Question}
use Rattle.question.specs.Contract.{QuestionRow, size, tuples, SentenceOf, area_needed, needed, AreaShort}
use Rattle.question.specs.Working.{FileOfModel, TextOfSentence, Ready, Answerable, QuestionOf, SettingOf}
use Rattle.question.proofs.Pair.{states_few, letters_few, letters_length, own_sentence}
use Rattle.question.proofs.Stages.{size_same, tuples_same, one}

-- where no row applies the sentence has few enough tuples,
pub tuples_few : {file text : List ℕ} → ((n : ℕ) → QuestionRow file text n → ⊥) → (s : SentenceOf text) →
    tuple_count (chain_of (fields_of file)) (length s.prefix) ≤ 1024
tuples_few {file} none s = by (dec_lt 1024 (tuple_count (chain_of (fields_of file)) (length s.prefix)))
  where
    by : Dec (1024 < tuple_count (chain_of (fields_of file)) (length s.prefix)) →
        tuple_count (chain_of (fields_of file)) (length s.prefix) ≤ 1024
    by (yes h) = absurd (none 11 (tuples s h))
    by (no h) = omega arith

-- and the model and the sentence that were read are ready
pub ready_of : {file text : List ℕ} {m : Model} {s : Sentence} → ((n : ℕ) → QuestionRow file text n → ⊥) → FileOfModel file m →
    TextOfSentence text s → Ready m s
ready_of {file} {text} {m} {s} none a b = record {
  read = record { file = file; text = text; model = a; sentence = b };
  small = size_same a b ∙ fits (exceeds b.body (fields_of file).d (length b.prefix)) refl;
  few = let t = tuples_same a b in let few = tuples_few none (own_sentence b) in omega (arith, t, few);
}
  where
    fits : (t : Bool) → exceeds b.body (fields_of file).d (length b.prefix) ≡ t → t ≡ false
    fits true e = absurd (none 10 (size (own_sentence b) e))
    fits false e = refl

-- what was asked is told by what the call gave: a refusal that the rows give, or a question to which no row applies
module _ {file text : List ℕ} {r : Result Question Refusal} where
  pub decided_so : {x : Refusal} → r ≡ Err x → QuestionOf file text r → Decided (QuestionRow file text) (number_of x)
  decided_so e h = subst (QuestionOf file text) e h

  pub answerable_so : {q : Question} → r ≡ Ok q → QuestionOf file text r → Answerable file text q
  answerable_so e h = subst (QuestionOf file text) e h

-- a question to which no row applies
module _ {file text : List ℕ} {q : Question} (y : Answerable file text q) where
  -- the numbers that it needs are those that its text's sentence needs on its file's chain
  pub area_is : (s : SentenceOf text) → q.area ≡ needed file s
  area_is s =
      y.area ∙
      ap₂ (λ (x : Model) (k : ℕ). area_needed (chain_of x) k) y.model.fields
      (letters_length y.sentence ∙ ap length (sym (one y.model y.sentence s).0))

  -- so the work area is too short exactly if it is shorter than that
  pub area_short : {room : ℕ} → room < q.area → AreaShort file text room
  area_short {room} h =
      let s = own_sentence y.sentence in
      record { sentence = s; short = subst (λ (k : ℕ). room < k) (area_is s) h }

  pub area_enough : {room : ℕ} → q.area ≤ room → AreaShort file text room → ⊥
  area_enough h a = let e = area_is a.sentence in let short = a.short in absurd (omega (arith, e, h, short))

-- the body's numbers are in their ranges
pub body_ranged : {text : List ℕ} {s : Sentence} (b : TextOfSentence text s) → Ranged s.letters b.body
unfolding record_of
body_ranged {s = s} b =
    subst (λ (x : Sentence). Ranged x.letters b.body) (sym b.fields)
    (formula_ranged b.body (length b.prefix)
    (nests_in_range (length b.prefix) b.spelled.nests (by (some_out_of_range (length b.prefix) (formula_nodes b.body)) refl)))
  where
    by : (t : Bool) → some_out_of_range (length b.prefix) (formula_nodes b.body) ≡ t → t ≡ false
    by true e = absurd (b.clean 7 (range b.spelled e))
    by false e = refl

-- D is no larger than a weight can be
pub d_few : {m : Model} {s : Sentence} → Ready m s → m.d < 65536
d_few r =
    let a = r.read.model in
    let low = subst (λ (x : Model). x.d ≤ 65535) (sym a.fields) (accepted.total_few r.read.file a.accepted) in
    omega (arith, low)

-- the model's masks and filled rows hold its chain, in the setting of the pair
module _ {m : Model} {s : Sentence} {g : Setting} (r : Ready m s) (so : SettingOf m s g) where
  pub sizes : LayerSizes g.states g.variables g.tuples
  sizes =
      let a = r.read.model in
      let some = subst (λ (x : Model). 1 ≤ x.n) (sym a.fields) (accepted.states_some r.read.file a.accepted) in
      let low = states_few a in
      let e = so.states in
      let t = so.tuples in
      let few = r.few in
      record {
        some = omega (arith, some, e);
        states = omega (arith, low, e);
        whole = t ∙ ap₂ (λ (n k : ℕ). n ^ k) (sym e) (sym so.variables);
        few = omega (arith, t, few);
      }

  pub fixed : {rows : List (List ℕ)} → rows ≡ filled_rows m → Fixed (chain_of m) m.masks rows g
  fixed {rows} same =
      let a = r.read.model in
      let some = subst (λ (x : Model). 1 ≤ x.d) (sym a.fields) (accepted.total_some r.read.file a.accepted) in
      let e = so.d in
      let low = states_few a in
      record {
        held = record {
          states = sym so.states;
          weights = λ i j h k.
              ap (λ (x : List (List ℕ)). cell x i j) same ∙ filled_cell m i j (omega (arith, low, h)) (omega (arith, low, k));
          sound = subst (λ (x : Model). Sound (chain_of x)) (sym a.fields) (accepted.sound r.read.file a.accepted);
        };
        labels = λ l i h. refl;
        sums = sym e;
        weighed = omega (arith, some, e);
        sizes = sizes;
      }

  pub variables_few : g.variables ≤ 4
  variables_few = let low = letters_few r.read.sentence in let e = so.variables in omega (arith, low, e)

  -- the area that the pair needs has eight layers of T numbers; seven lie in it
  pub layers_fit : {k room : ℕ} → k ≤ 7 → room ≡ area_needed (chain_of m) s.letters → k * g.tuples ≤ room
  unfolding area_needed tuple_count
  layers_fit {k} low h =
      let e = mul-le-mul_right g.tuples low in
      let t = so.tuples in
      omega (arith, e, h, t)

-- and no more than the descent can number
pub area_small : {m : Model} {s : Sentence} → Ready m s → area_needed (chain_of m) s.letters ≤ 65536
unfolding area_needed tuple_count
area_small r = let few = r.few in omega (arith, few)
