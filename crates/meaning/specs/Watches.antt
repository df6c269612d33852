-- The runs that a path takes and those that it does not: document 02, T-09.
use Rattle.std.specs.Prelude.{ℕ, Bool, cond}
use Rattle.meaning.specs.Lists.{total}
use Rattle.meaning.specs.Chain.{Chain, Tuple, Run, run_weight, runs}
use Rattle.meaning.specs.Tree.{PathFormula, next, until}
use Rattle.meaning.specs.Named.{named, v, chosen}
use Rattle.meaning.specs.Meaning.{next_takes, until_takes, steps_of, beside, holds}

-- whether the path takes the run of its variables, where the other variables have the states of the tuple
abbrev pub takes : PathFormula → Chain → ℕ → Tuple → Run → Bool
takes (next f) c n tuple r = next_takes (beside (named (next f) n) tuple (λ t. holds f c n t)) r
takes (until k1 k2 f g) c n tuple r =
    until_takes
    (beside (named (until k1 k2 f g) n) tuple (λ t. holds f c n t))
    (beside (named (until k1 k2 f g) n) tuple (λ t. holds g c n t)) k1 k2 r

-- the total weight of the runs not taken, each run once: the numerator's list of runs, summed over those that the path does not take
unfoldable pub not_taken : PathFormula → Chain → ℕ → Tuple → ℕ
not_taken p c n tuple =
    total (λ r. cond (takes p c n tuple r) 0 (run_weight c r)) (runs c (v p n) (steps_of p) (chosen (named p n) tuple))
