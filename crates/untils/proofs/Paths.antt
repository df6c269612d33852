-- What the steps mean for paths: from the truth of its formulas, the layer of a path's numerator.
use Prim.Native.Nat.{ℕ, suc, ◌^◌, ◌≤◌, ◌<◌}
use mathlib.Core.Bool.{Bool, true, false, cond, ◌||◌}
use mathlib.Core.List.{List}
use mathlib.Core.Path.{◌≡◌, sym, ◌∙◌}
use native.Mathlib.Nat.{le_of_eq, le_trans}
use native.Mathlib.Omega.{arith}
use lib.ListN.{length, get_or, drop}
use Rattle.meaning.specs.Chain.{Chain, Tuple}
use Rattle.meaning.specs.Tree.{Formula, next, until}
use Rattle.meaning.specs.Named.{occurs, named, v}
use Rattle.meaning.specs.Meaning.{holds, numerator}
use Rattle.meaning.proofs.Numbers.{tuple_of}
use Rattle.meaning.proofs.Tests.{or_left, or_right}
use Rattle.meaning.proofs.Named.{named_length}
use Rattle.meaning.proofs.Looking.{named_at_place, overlooks}
use Rattle.meaning.proofs.Until.{numerator_next}
use Rattle.layers.specs.Layers.{Layer, truth}
use Rattle.layers.specs.Held.{Holds}
use Rattle.steps.specs.Steps.{Stepped}
use Rattle.untils.specs.Untils.{UntilRepeated}

-- a truth is at most 1
pub truth_small : {N n : ℕ} (p : Tuple → Bool) {w : List ℕ} → Layer N n (truth p) w →
    (k : ℕ) → k < N ^ n → get_or w k 0 ≤ 1
truth_small {N} {n} p h k l = le_trans (le_of_eq (h.at k l)) (small (p (tuple_of N n k)))
  where
    small : (b : Bool) → cond b 1 0 ≤ 1
    small true = omega arith
    small false = omega arith

-- a variable before the first that an until names occurs in neither formula
unnamed : (k1 k2 : ℕ) (f g : Formula) (n : ℕ) {l : ℕ} → l ≤ length (named (until k1 k2 f g) n) →
    ((i : ℕ) → i < l → get_or (named (until k1 k2 f g) n) i false ≡ false) → (i : ℕ) → i < l → (occurs (suc i) f || occurs (suc i) g) ≡
    false
unfolding occurs
unnamed k1 k2 f g n few quiet i less =
    let p = until k1 k2 f g in
    sym (named_at_place p n i (omega (arith, named_length p n))) ∙ quiet i less

module _ {rows : List (List ℕ)} {N n T : ℕ} {before after : List ℕ} {c : Chain} (held : Holds c rows N) (f : Formula)
    (one : Layer N n (truth (λ t. holds f c n t)) before) where
  -- the numerator of next is a step of its formula's truth by the variables that it names
  pub next_layer : Stepped rows N n (named (next f) n) T before after → Layer N n (numerator (next f) c n) after
  next_layer stepped = record {
    at = λ k l.
        (stepped.each c held (truth (λ t. holds f c n t)) one).at k l ∙ sym (numerator_next f c n (tuple_of N n k));
  }

  -- the numerator of until
  pub until_layer : {d k1 k2 : ℕ} (g : Formula) → Layer N n (truth (λ t. holds g c n t)) (drop T before) → c.D ≡ d →
      UntilRepeated rows N n (named (until k1 k2 f g) n) T d k1 k2 before after → Layer N n (numerator (until k1 k2 f g) c n) after
  unfolding numerator v
  until_layer {k1 = k1} {k2 = k2} g two sums taken =
      taken.each c held sums (λ t. holds f c n t) (λ t. holds g c n t)
      (λ a b t long few quiet.
      overlooks c n f a b t long
      (λ i l. or_left (occurs (suc i) f) (occurs (suc i) g) (unnamed k1 k2 f g n few quiet i l)))
      (λ a b t long few quiet.
      overlooks c n g a b t long
      (λ i l. or_right (occurs (suc i) f) (occurs (suc i) g) (unnamed k1 k2 f g n few quiet i l)))
      one two
