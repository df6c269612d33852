-- Evaluation and descent, of a model and a sentence to which none of the question's rows applies.
use Prim.Native.Nat.{ℕ, ◌^◌}
use mathlib.Core.Bool.{Bool}
use mathlib.Core.List.{List, map}
use mathlib.Core.Path.{◌≡◌, sym, ap, ap₂, subst, ◌∙◌}
use native.Mathlib.Omega.{arith}
use lib.ListN.{length, take, length-map}
use Rattle.model.specs.declared.Model.{Model}
use Rattle.sentence.specs.declared.Kind.TheVariants.{State}
use Rattle.sentence.specs.declared.Sentence.{Sentence}
use Rattle.sentence.specs.Record.{prefix_of}
use Rattle.sentence.proofs.Records.{same_sentence}
use Rattle.meaning.specs.Tree.{Formula, Letter, letter_of}
use Rattle.meaning.specs.Meaning.{holds, verdict}
use Rattle.meaning.specs.Size.{exceeds}
use Rattle.layers.specs.Layers.{Layer, truth}
use Rattle.layers.specs.declared.Setting.{Setting}
use Rattle.evaluate.specs.Evaluation.{TreeReady, TreeDone}
use Rattle.descent.specs.Descent.{descended, DescentReady}
use Rattle.descent.proofs.Laws.{descent_is}
use Rattle.trees.specs.Listed.{formula_nodes}
use Rattle.trees.specs.Ranged.{Ranged}
use Rattle.trees.proofs.Needs.{need_seven}
use Rattle.chain.specs.Of.{chain_of, filled_rows}
use Rattle.question.specs.Working.{TextOfSentence, Ready, SettingOf}
use Rattle.question.proofs.Pair.{nodes_few, stands, one_sentence, letters_length}
use Rattle.question.proofs.Settled.{body_ranged, sizes, fixed, variables_few, layers_fit, area_small}
use Rattle.question.specs.Contract.{area_needed}

module _ {m : Model} {s : Sentence} {g : Setting} {rows : List (List ℕ)} (r : Ready m s) (so : SettingOf m s g)
    (e : rows ≡ filled_rows m) where
  -- the body can be evaluated
  pub formula_ready : {w : List ℕ} → length w ≡ area_needed (chain_of m) s.letters → TreeReady State s.nodes g m.masks rows 0 w
  formula_ready long =
      let b = r.read.sentence in
      record {
        chain = chain_of m;
        fixed = fixed r so e;
        few = variables_few r so;
        tree = b.body;
        end = length (formula_nodes b.body);
        stands = stands b;
        ranged = subst (λ (k : ℕ). Ranged k b.body) (sym so.variables) (body_ranged b);
        fits = ap (exceeds b.body m.d) so.variables ∙ r.small;
        room = layers_fit r so (need_seven b.body (nodes_few b)) long;
        small = omega arith;
      }

  -- the letters of the prefix, as the record has them
  letters_are : {text : List ℕ} (b : TextOfSentence text s) → map letter_of (take g.variables s.exists) ≡ map letter_of b.prefix
  letters_are b =
      ap (λ (k : ℕ). map letter_of (take k s.exists)) so.variables ∙
      ap (λ (x : Sentence). map letter_of (prefix_of x)) b.fields ∙
      ap (map letter_of) (same_sentence b.prefix (formula_nodes b.body)).0

  -- they are as many as the variables
  letters_long : {text : List ℕ} (b : TextOfSentence text s) → g.variables ≡ length (map letter_of b.prefix)
  letters_long b = so.variables ∙ letters_length b ∙ sym (length-map b.prefix letter_of)

  -- so are those in the record
  pub letters_count : length (take g.variables s.exists) ≡ g.variables
  letters_count =
      let b = r.read.sentence in
      sym (length-map (take g.variables s.exists) letter_of) ∙ ap length (letters_are b) ∙ sym (letters_long b)

  -- the prefix can be descended
  pub descent_ready : {w : List ℕ} → length w ≡ area_needed (chain_of m) s.letters →
      DescentReady (take g.variables s.exists) g.states 0 w
  descent_ready long =
      let size = sizes r so in
      let whole = size.whole in
      let one = layers_fit r so {k = 1} (omega arith) long in
      let all = area_small r in
      record {
        few = omega (arith, letters_count, variables_few r so);
        states = size.states;
        room = omega (arith, one, whole, ap (λ (k : ℕ). g.states ^ k) letters_count);
        small = omega (arith, long, all);
      }

  -- the descent over the body's layer decides the sentence
  pub judged_so : {after : List ℕ} {next : ℕ} {t : Bool} → TreeDone State s.nodes g m.masks rows 0 after next 1 →
      t ≡ descended g.states (map letter_of (take g.variables s.exists)) 0 after → {text : List ℕ} (b : TextOfSentence text s) →
      t ≡ verdict (chain_of m) (map letter_of b.prefix) b.body
  unfolding verdict
  judged_so {after} done h b =
      let c = chain_of m in
      let same = one_sentence b r.read.sentence in
      let fits = ap₂ (λ (f : Formula) (k : ℕ). exceeds f m.d k) same.1 so.variables ∙ r.small in
      let layer = (done.each c b.body _ (fixed r so e) (stands b) fits).2 in
      h ∙
      ap₂ (λ (n : ℕ) (ls : List Letter). descended n ls 0 after) so.states (letters_are b) ∙
      descent_is c (holds b.body c (length (map letter_of b.prefix))) after (map letter_of b.prefix)
      (subst (λ (k : ℕ). Layer c.N k (truth (λ t. holds b.body c k t)) after) (letters_long b) layer)
