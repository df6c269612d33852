-- T-09 of document 02: longer watches never lose a run.
use Rattle.std.specs.Prelude.{Ok}
use Rattle.std.specs.Prelude.{ℕ, ◌+◌, ◌*◌, ◌-◌, ◌^◌, ◌≤◌, Bool, true, cond, List, [], ◌∷◌, ◌++◌, ◌≡◌, length}
use Rattle.sentence.specs.declared.Node.{Node}
use Rattle.sentence.specs.declared.Node.TheVariants.{Until}
use Rattle.sentence.specs.Grammar.{Spells}
use Rattle.meaning.specs.Lists.{total}
use Rattle.meaning.specs.Chain.{Chain, Sound, Tuple, Inside, Run, run_weight}
use Rattle.meaning.specs.Tree.{Formula, PathFormula, until}
use Rattle.meaning.specs.Named.{v}
use Rattle.meaning.specs.Meaning.{numerator, denominator}
use Rattle.meaning.specs.Watches.{takes, not_taken}
use Rattle.trees.specs.Listed.{path_count}
use Rattle.question.specs.Contract.{SentenceOf}
use Rattle.numerator.specs.declared.Ratio.{Ratio}
use Rattle.numerator.specs.Contract.{NumeratorEnsures, numbered}
use Rattle.demands.specs.Demands.{chain_in, PathProbability}

-- Two texts that differ in one k2 alone: the same letters, and the same nodes but for one until. That until is the path formula with
-- the number `path`: so many start before it.
pub record Lengthened (text text' : List ℕ) (path k1 k2 k2' : ℕ) : Type 0 where
  pub letters : List Bool
  pub front : List Node
  pub back : List Node
  pub shorter : Spells letters (front ++ (Until k1 k2 ∷ back)) text
  pub longer : Spells letters (front ++ (Until k1 k2' ∷ back)) text'
  pub number : path_count front ≡ path

-- the two numbers of the longer watch beside those of the shorter, where `power` is a power of D:
pub record Grown (power top bottom top' bottom' : ℕ) : Type 0 where
  -- its numerator is at least the other times the power,
  pub numerators : top * power ≤ top'
  -- its denominator is exactly the other times the power,
  pub denominators : bottom * power ≡ bottom'
  -- and so the probability is no lower.
  pub probabilities : top * bottom' ≤ top' * bottom

-- the total weights of runs taken and of runs not taken, each a sum over the same list of all runs, each run once
pub record TakenAndNot (c : Chain) (p : PathFormula) (n : ℕ) (tuple : Tuple) (top bottom : ℕ) : Type 0 where
  pub counted : PathProbability c p n tuple top bottom
  pub not_taken_sum : not_taken p c n tuple ≡ total (λ r. cond (takes p c n tuple r) 0 (run_weight c r)) counted.all
  pub add_up : top + not_taken p c n tuple ≡ bottom

-- Of the definitions, on a chain and for a sentence of n variables:
pub record Watched (c : Chain) (n : ℕ) : Type 0 where
  -- a run that an until takes is still taken, however it goes on, where k2 is one more;
  pub no_run_lost : (k1 k2 : ℕ) (f g : Formula) (tuple : Tuple) (r : Run) (t : Tuple) → length r ≡ k2 + 1 →
      takes (until k1 k2 f g) c n tuple r ≡ true → takes (until k1 (k2 + 1) f g) c n tuple (r ++ (t ∷ [])) ≡ true
  -- with k1 and both formulas unchanged, the numerator for k2 + 1 is at least the numerator for k2 times D^v, at every tuple,
  pub one_more : (k1 k2 : ℕ) (f g : Formula) {tuple : Tuple} → Inside c.N n tuple →
      numerator (until k1 k2 f g) c n tuple * c.D ^ v (until k1 k2 f g) n ≤ numerator (until k1 (k2 + 1) f g) c n tuple
  -- and for any k2' from k2 on at least the numerator for k2 times D^(v × (k2' − k2));
  pub any_more : (k1 k2 k2' : ℕ) (f g : Formula) → k2 ≤ k2' → {tuple : Tuple} → Inside c.N n tuple →
      numerator (until k1 k2 f g) c n tuple * c.D ^ (v (until k1 k2 f g) n * (k2' - k2)) ≤ numerator (until k1 k2' f g) c n tuple
  -- and the weights of runs taken and runs not taken add up to the denominator, for next and for until.
  pub add_up : (p : PathFormula) {tuple : Tuple} → Inside c.N n tuple →
      TakenAndNot c p n tuple (numerator p c n tuple) (denominator p c.D n)

-- Of the answers, other than refusals, that the contract of numerator allows on a file:
pub record WatchesAnswered (file : List ℕ) : Type 0 where
  -- of any two for texts that differ in one k2 alone, at one tuple and one path number, the path formula with that number is the until
  -- in both sentences, with k1 and both formulas unchanged;
  pub that_until : {text text' tuple area area' left left' : List ℕ} {path k1 k2 k2' : ℕ} {x x' : Ratio} →
      Lengthened text text' path k1 k2 k2' → NumeratorEnsures file text tuple path area (Ok x) left →
      NumeratorEnsures file text' tuple path area' (Ok x') left' → (s : SentenceOf text) (s' : SentenceOf text') →
      (f : Formula) × (g : Formula) × (numbered s.body path ≡ until k1 k2 f g) × (numbered s'.body path ≡ until k1 k2' f g)
  -- where k2 is one more in the second, the numbers grow by D^v,
  pub one_more : {text text' tuple area area' left left' : List ℕ} {path k1 k2 : ℕ} {x x' : Ratio} →
      Lengthened text text' path k1 k2 (k2 + 1) → NumeratorEnsures file text tuple path area (Ok x) left →
      NumeratorEnsures file text' tuple path area' (Ok x') left' → (s : SentenceOf text) →
      Grown ((chain_in file).D ^ v (numbered s.body path) (length s.prefix)) x.numerator x.denominator x'.numerator x'.denominator
  -- and for any k2' from k2 on by D^(v × (k2' − k2));
  pub any_more : {text text' tuple area area' left left' : List ℕ} {path k1 k2 k2' : ℕ} {x x' : Ratio} →
      Lengthened text text' path k1 k2 k2' → k2 ≤ k2' → NumeratorEnsures file text tuple path area (Ok x) left →
      NumeratorEnsures file text' tuple path area' (Ok x') left' → (s : SentenceOf text) →
      Grown ((chain_in file).D ^ (v (numbered s.body path) (length s.prefix) * (k2' - k2)))
      x.numerator x.denominator x'.numerator x'.denominator
  -- and runs taken and runs not taken add up to the denominator.
  pub add_up : {text tuple area left : List ℕ} {path : ℕ} {x : Ratio} →
      NumeratorEnsures file text tuple path area (Ok x) left → (s : SentenceOf text) →
      TakenAndNot (chain_in file) (numbered s.body path) (length s.prefix) tuple x.numerator x.denominator

-- T-09.
pub record LongerWatches : Type 0 where
  -- It holds of demand 2's numbers on every sound chain,
  pub numbers : (c : Chain) → Sound c → (n : ℕ) → Watched c n
  -- and of the answers on every file.
  pub answers : (file : List ℕ) → WatchesAnswered file
