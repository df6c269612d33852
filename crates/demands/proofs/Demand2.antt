-- Demand 2, of verdict and numerator (`demand_2`). The list of runs is `runs` of the meaning, whose laws say that it has just the
-- runs from the tuple, each once.
use Prim.Native.Nat.{ℕ}
use mathlib.Core.List.Memᴰ
use mathlib.Core.List.{List, map}
use mathlib.Core.Path.{◌≡◌, refl, sym, ap, ◌∙◌}
use lib.ListN.{length}
use Rattle.std.specs.Prelude.{Bool, Result}
use Rattle.refusal.specs.declared.Refusal.{Refusal}
use Rattle.refusal.specs.Answers.{reply_of, gives}
use Rattle.refusal.proofs.Ensuring.{right_of, others_free}
use Rattle.model.specs.Layout.{fields_of}
use Rattle.meaning.specs.Chain.{Chain, Tuple, Inside, Sound, runs}
use Rattle.meaning.specs.Tree.{PathFormula, letter_of}
use Rattle.meaning.specs.Named.{count, named, v, chosen}
use Rattle.meaning.specs.Meaning.{steps_of, value, numerator, denominator, verdict}
use Rattle.meaning.proofs.Runs.{runs_member, runs_has, runs_distinct}
use Rattle.meaning.proofs.Watches.{taken_runs, all_runs}
use Rattle.chain.proofs.Accepted.{sound}
use Rattle.question.specs.Contract.{SentenceOf}
use Rattle.question.proofs.Early.{file_free}
use Rattle.verdict.specs.Contract.{VerdictRow, VerdictEnsures}
use Rattle.numerator.specs.declared.Ratio.{Ratio}
use Rattle.numerator.specs.Contract.{NumeratorRow, question, NumeratorEnsures, numbered}
use Rattle.demands.specs.Demands.{chain_in, PathProbability, Valued, Demand2}
use Rattle.demands.proofs.Free.{one_sentence, tuple_inside}

-- a path formula's numerator and denominator are its probability
unfoldable pub counted_once : (p : PathFormula) (c : Chain) → Sound c → (n : ℕ) {s : Tuple} → Inside c.N n s →
    PathProbability c p n s (numerator p c n s) (denominator p c.D n)
unfolding v
counted_once p c adds n {s} inside =
    let those = named p n in
    record {
      all = runs c (count those) (steps_of p) (chosen those s);
      just = λ r. (
        λ m. let own = runs_member c (count those) (steps_of p) (chosen those s) m in
            record { rest = own.0; starts = own.1; steps = own.2 },
        λ from. Memᴰ.cast (sym from.starts) (runs_has c (count those) (steps_of p) (chosen those s) from.steps),
      );
      once = runs_distinct c (count those) (steps_of p) (chosen those s);
      satisfying = taken_runs p c n s;
      whole = all_runs p c adds n inside;
    }

valued_so : (p : PathFormula) (c : Chain) → Sound c → (n : ℕ) {s : Tuple} → Inside c.N n s → Valued c p n s
unfolding value
valued_so p c adds n {s} inside = record {
  top = numerator p c n s;
  bottom = denominator p c.D n;
  valued = refl;
  counted = counted_once p c adds n inside;
}

judged : (file : List ℕ) {text before after : List ℕ} {a : Result Bool Refusal} → VerdictEnsures file text before a after →
    ((n : ℕ) → VerdictRow file text (length before) n → ⊥) →
    (s : SentenceOf text) × (reply_of a ≡ gives (verdict (chain_in file) (map letter_of s.prefix) s.body))
judged file x none =
    let right = right_of none x.ensured in
    (right.2.sentence, right.1 ∙ ap gives right.2.meant)

counted : (file : List ℕ) {text tuple before after : List ℕ} {path : ℕ} {a : Result Ratio Refusal} →
    NumeratorEnsures file text tuple path before a after → ((n : ℕ) → NumeratorRow file text tuple path (length before) n → ⊥) →
    (s : SentenceOf text) × (x : Ratio) × (reply_of a ≡ gives x) ×
    PathProbability (chain_in file) (numbered s.body path) (length s.prefix) tuple x.numerator x.denominator
counted file {tuple = tuple} {path = path} x none =
    let right = right_of none x.ensured in
    let free = others_free none in
    let s = right.2.sentence in
    let p = numbered s.body path in
    let n = length s.prefix in (
      s,
      record { numerator = numerator p (chain_in file) n tuple; denominator = denominator p (fields_of file).d n },
      right.1 ∙ ap gives (λ i. record { numerator = right.2.top i; denominator = right.2.bottom i }),
      counted_once p (chain_in file) (sound file (file_free (λ n r. free n (question r)))) n (tuple_inside free s),
    )

pub demand_2 : (file : List ℕ) → Demand2 file
demand_2 file = record {
  one_sentence = λ s t. one_sentence s t;
  verdicts = λ x none. judged file x none;
  in_verdicts = λ none s p inside. valued_so p (chain_in file) (sound file (file_free (others_free none))) (length s.prefix) inside;
  probabilities = λ x none. counted file x none;
}
