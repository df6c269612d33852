-- T-09, of the definitions by the laws of the crate `meaning`, and of the answers (`longer_watches`): two texts that differ in one k2
-- alone have that until as the path formula with one number, with the same two formulas.
use Prim.Native.Nat.{ℕ, ◌+◌, ◌*◌, ◌-◌, ◌^◌, ◌≤◌, ◌<◌}
use mathlib.Core.Bool.{Bool, true}
use mathlib.Core.List.{List, [], ◌∷◌, ◌++◌}
use mathlib.Core.Path.{◌≡◌, refl, sym, ap, subst, transport⁻¹, ◌∙◌}
use native.Mathlib.Decide.{dec_lt}
use native.Mathlib.Nat.{mul-one, mul-le-mul_right}
use native.Mathlib.Numerals.{add-one}
use native.Mathlib.Omega.{arith}
use lib.ListN.{length}
use Rattle.std.specs.Prelude.{Ok}
use Rattle.refusal.proofs.Ensuring.{right_of, others_free}
use Rattle.sentence.specs.declared.Node.{Node}
use Rattle.sentence.specs.declared.Node.TheVariants.{Until}
use Rattle.sentence.specs.Grammar.{Spells}
use Rattle.sentence.proofs.Once.{spelled_once}
use Rattle.sentence_reader.specs.Contract.{many}
use Rattle.meaning.specs.Chain.{Chain, Sound, Tuple, Inside}
use Rattle.meaning.specs.Tree.{Formula, always, PathFormula, next, until}
use Rattle.meaning.specs.Named.{v}
use Rattle.meaning.specs.Meaning.{numerator, denominator}
use Rattle.meaning.specs.Watches.{takes, not_taken}
use Rattle.meaning.proofs.Watches.{still_taken, one_step_more, longer_watch, longer_denominator, taken_and_not}
use Rattle.trees.specs.Listed.{path_count}
use Rattle.trees.proofs.Windows.{OneUntil, one_until}
use Rattle.chain.proofs.Accepted.{sound}
use Rattle.question.specs.Contract.{sentence, SentenceOf}
use Rattle.question.proofs.Early.{file_free}
use Rattle.numerator.specs.declared.Ratio.{Ratio}
use Rattle.numerator.specs.Contract.{AskedRow, question, NumeratorEnsures, numbered}
use Rattle.demands.specs.Demands.{chain_in}
use Rattle.demands.specs.Watches.{Lengthened, Grown, TakenAndNot, Watched, WatchesAnswered, LongerWatches}
use Rattle.demands.proofs.Demand1.{demand_1}
use Rattle.demands.proofs.Demand2.{counted_once}
use Rattle.demands.proofs.Free.{one_sentence, tuple_inside}

-- ---- of the definitions

module _ (c : Chain) (adds : Sound c) (n : ℕ) where
  -- the two sums over the runs of a path formula
  both_sums : (p : PathFormula) {tuple : Tuple} → Inside c.N n tuple →
      TakenAndNot c p n tuple (numerator p c n tuple) (denominator p c.D n)
  unfolding not_taken counted_once v
  both_sums p inside =
      record { counted = counted_once p c adds n inside; not_taken_sum = refl; add_up = taken_and_not p c adds n inside }

  watched : Watched c n
  watched = record {
    no_run_lost = λ k1 k2 f g tuple r t long e.
        subst (λ (k : ℕ). takes (until k1 k f g) c n tuple (r ++ (t ∷ [])) ≡ true) (sym (add-one k2))
        (still_taken c n k1 f g k2 tuple r t (long ∙ add-one k2) e);
    one_more = λ k1 k2 f g {tuple} inside.
        subst (λ (k : ℕ). numerator (until k1 k2 f g) c n tuple * c.D ^ v (until k1 k2 f g) n ≤ numerator (until k1 k f g) c n tuple)
        (sym (add-one k2)) (one_step_more c adds n k1 f g inside k2);
    any_more = λ k1 k2 k2' f g h inside. longer_watch c adds n k1 f g inside k2 k2' h;
    add_up = λ p inside. both_sums p inside;
  }

-- ---- of the calls

-- what an answer that is no refusal tells: no row applies, the text has a sentence, and of its path formula the two numbers are right
record Told (file text tuple : List ℕ) (path : ℕ) (area : List ℕ) (top bottom : ℕ) : Type 0 where
  free : (n : ℕ) → AskedRow file text tuple path n → ⊥
  spelled : SentenceOf text
  tops : (s : SentenceOf text) → top ≡ numerator (numbered s.body path) (chain_in file) (length s.prefix) tuple
  bottoms : (s : SentenceOf text) → bottom ≡ denominator (numbered s.body path) (chain_in file).D (length s.prefix)

told : {file text tuple area left : List ℕ} {path : ℕ} {r : Ratio} →
    NumeratorEnsures file text tuple path area (Ok r) left → Told file text tuple path area r.numerator r.denominator
told {file} {text} {tuple} {path = path} {r} x =
    let none = (demand_1.numerator_call x).answer.0 (r, refl) in
    let right = right_of none x.ensured in
    let same : r ≡ right.0 = cc right.1 in
    let one : (s : SentenceOf text) → _ = λ s. one_sentence right.2.sentence s in
    record {
      free = others_free none;
      spelled = right.2.sentence;
      tops = λ s.
          (λ i. (same i).numerator) ∙ right.2.top ∙
          (λ i. numerator (numbered ((one s).1 i) path) (chain_in file) (length ((one s).0 i)) tuple);
      bottoms = λ s.
          (λ i. (same i).denominator) ∙ right.2.bottom ∙
          (λ i. denominator (numbered ((one s).1 i) path) (chain_in file).D (length ((one s).0 i)));
    }

module _ {file text tuple area : List ℕ} {path top bottom : ℕ} (x : Told file text tuple path area top bottom) where
  -- the file's chain is sound
  all_add_up : Sound (chain_in file)
  all_add_up = sound file (file_free (λ n r. x.free n (question r)))

  -- a list that spells the text has at most 64 nodes
  few : {ps : List Bool} (ns : List Node) → Spells ps ns text → length ns ≤ 64
  few ns spells = by (dec_lt 64 (length ns))
    where
      by : Dec (64 < length ns) → length ns ≤ 64
      by (yes h) = absurd (x.free 8 (question (sentence (many spells h))))
      by (no h) = omega arith

  -- the sums of runs taken and not taken
  sums_told : (s : SentenceOf text) → TakenAndNot (chain_in file) (numbered s.body path) (length s.prefix) tuple top bottom
  sums_told s =
      let p = numbered s.body path in
      let n = length s.prefix in
      subst (λ (k : ℕ). TakenAndNot (chain_in file) p n tuple top k) (sym (x.bottoms s))
      (subst (λ (k : ℕ). TakenAndNot (chain_in file) p n tuple k (denominator p (chain_in file).D n)) (sym (x.tops s))
      (both_sums (chain_in file) all_add_up n p (tuple_inside x.free s)))

-- two numbers of an until with a longer window beside those of the shorter
grown : (c : Chain) → Sound c → (n k1 k2 k2' : ℕ) (f g : Formula) {tuple : Tuple} → Inside c.N n tuple → k2 ≤ k2' →
    Grown (c.D ^ (v (until k1 k2 f g) n * (k2' - k2))) (numerator (until k1 k2 f g) c n tuple) (denominator (until k1 k2 f g) c.D n)
    (numerator (until k1 k2' f g) c n tuple) (denominator (until k1 k2' f g) c.D n)
grown c adds n k1 k2 k2' f g {tuple} inside h =
    let tops = longer_watch c adds n k1 f g inside k2 k2' h in
    let bottoms = longer_denominator k1 f g c.D n k2 k2' h in
    record { numerators = tops; denominators = bottoms; probabilities = no_lower _ _ _ tops bottoms }
  where
    no_lower : (power top bottom : ℕ) {top' bottom' : ℕ} → top * power ≤ top' → bottom * power ≡ bottom' → top * bottom' ≤ top' * bottom
    no_lower power top bottom {bottom' = bottom'} tops bottoms =
        let scaled = mul-le-mul_right bottom tops in
        let whole : top * bottom' ≡ top * (bottom * power) = ap (λ (k : ℕ). top * k) (sym bottoms) in
        omega arith

module _
    {file text text' tuple area area' : List ℕ} {path k1 k2 k2' top bottom top' bottom' : ℕ} (l : Lengthened text text' path k1 k2 k2')
    (x : Told file text tuple path area top bottom) (y : Told file text' tuple path area' top' bottom') (s : SentenceOf text)
    (s' : SentenceOf text')
  where
    -- the until, in the one sentence and in the other
    untils : OneUntil s.body s'.body (path_count l.front) k1 k2 k2' (next always)
    untils =
        one_until l.front l.back k1 k2 k2' s.body s'.body (next always)
        (spelled_once l.shorter s.spelled).1
        (spelled_once l.longer s'.spelled).1
        (few x (l.front ++ (Until k1 k2 ∷ l.back)) l.shorter)

    that_until : (f : Formula) × (g : Formula) × (numbered s.body path ≡ until k1 k2 f g) × (numbered s'.body path ≡ until k1 k2' f g)
    unfolding numbered
    that_until = (
      untils.first,
      untils.second,
      ap (numbered s.body) (sym l.number) ∙ untils.is,
      ap (numbered s'.body) (sym l.number) ∙ untils.is',
    )

    answers_grown : k2 ≤ k2' →
        Grown ((chain_in file).D ^ (v (numbered s.body path) (length s.prefix) * (k2' - k2))) top bottom top' bottom'
    answers_grown h =
        let c = chain_in file in
        let n = length s.prefix in
        let f = that_until.0 in
        let g = that_until.1 in
        let is = that_until.2 in
        let is' = that_until.3 in
        let letters : length s'.prefix ≡ n =
        ap length (sym (spelled_once l.longer s'.spelled).0 ∙ (spelled_once l.shorter s.spelled).0) in
        let tops : top ≡ numerator (until k1 k2 f g) c n tuple = x.tops s ∙ ap (λ (w : PathFormula). numerator w c n tuple) is in
        let bottoms : bottom ≡ denominator (until k1 k2 f g) c.D n =
        x.bottoms s ∙ ap (λ (w : PathFormula). denominator w c.D n) is in
        let tops' : top' ≡ numerator (until k1 k2' f g) c n tuple = y.tops s' ∙ (λ i. numerator (is' i) c (letters i) tuple) in
        let bottoms' : bottom' ≡ denominator (until k1 k2' f g) c.D n =
        y.bottoms s' ∙ (λ i. denominator (is' i) c.D (letters i)) in
        transport⁻¹ (λ i. Grown (c.D ^ (v (is i) n * (k2' - k2))) (tops i) (bottoms i) (tops' i) (bottoms' i))
        (grown c (all_add_up x) n k1 k2 k2' f g (tuple_inside x.free s) h)

-- a step is one
one_step : (D vars k2 : ℕ) → D ^ (vars * (k2 + 1 - k2)) ≡ D ^ vars
one_step D vars k2 = ap (λ (k : ℕ). D ^ k) (ap (λ (k : ℕ). vars * k) (omega arith) ∙ mul-one vars)

answered : (file : List ℕ) → WatchesAnswered file
answered file = record {
  that_until = λ l x y s s'. that_until l (told x) (told y) s s';
  one_more = λ {path = path} {k2 = k2} {x = a} {x' = b} l x y s.
      subst (λ (power : ℕ). Grown power a.numerator a.denominator b.numerator b.denominator)
      (one_step (chain_in file).D (v (numbered s.body path) (length s.prefix)) k2)
      (answers_grown l (told x) (told y) s (told y).spelled (omega arith));
  any_more = λ l h x y s. answers_grown l (told x) (told y) s (told y).spelled h;
  add_up = λ x s. sums_told (told x) s;
}

pub longer_watches : LongerWatches
longer_watches = record { numbers = watched; answers = answered }
