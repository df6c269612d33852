-- What the answers of the definitions mean: a label, a relation, a letter of the prefix.
use Prim.Native.Nat.{ℕ, zero, suc, ◌<◌}
use mathlib.Core.Bool.{Bool, true, false, ◌&&◌, false≢true}
use mathlib.Core.List.{List, [], ◌∷◌}
use mathlib.Core.Logic.{◌↔◌}
use mathlib.Core.Path.{◌≡◌, refl, sym, ap, ◌∙◌}
use native.Mathlib.Nat.{not-suc-le-zero}
use native.Mathlib.Omega.{arith}
use lib.Dec.{T}
use lib.IntN.{ℤ}
use lib.ListN.{length, get_or}
use lib.Signed.{le_z, lt_z, le_z_yes, lt_z_yes, ◌≤ℤ◌, ◌<ℤ◌}
use Rattle.counting.proofs.Laws.{left_of, right_of, and_true}
use Rattle.meaning.specs.Lists.{below}
use Rattle.meaning.specs.Chain.{Chain, Tuple}
use Rattle.meaning.specs.Tree.{less, at_most, equal, at_least, greater, Letter, for_all, exists}
use Rattle.meaning.specs.Meaning.{has_label, related, ranges, ranged}
use Rattle.meaning.proofs.Magnitude.{le_z_both, le_z_self}
use Rattle.meaning.proofs.Tests.{every_means, there_is_found, there_is_from}
use Rattle.meaning.proofs.Tests.{below_member, below_has}

-- label l of variable i + 1 is that of the state in place i, counted from 0
pub has_label_at : (c : Chain) (l i : ℕ) (s : Tuple) → i < length s → has_label c l (suc i) s ≡ c.label l (get_or s i 0)
unfolding has_label
has_label_at c l i [] h = absurd (not-suc-le-zero h)
has_label_at c l zero (s ∷ ss) h = refl
has_label_at c l (suc i) (s ∷ ss) h = has_label_at c l i ss (omega arith)

-- an answer is `true` exactly if it passes for a proof
truth : (b : Bool) → (b ≡ true) ↔ T b
truth true = (λ e. tt, λ t. refl)
truth false = (λ e. absurd (false≢true e), λ t. absurd t)

-- the relations mean the order of whole numbers: `<` is less
pub less_means : (a b : ℤ) → (related less a b ≡ true) ↔ (a <ℤ b)
unfolding related
less_means a b = (λ e. lt_z_yes ((truth (lt_z a b)).0 e), λ h. (truth (lt_z a b)).1 h.lt)

-- `L` is at most
pub at_most_means : (a b : ℤ) → (related at_most a b ≡ true) ↔ (a ≤ℤ b)
unfolding related
at_most_means a b = (λ e. le_z_yes ((truth (le_z a b)).0 e), λ h. (truth (le_z a b)).1 h.le)

-- `G` and `>` are `L` and `<` with the sides exchanged
pub exchanged : (a b : ℤ) → (related at_least a b ≡ related at_most b a) × (related greater a b ≡ related less b a)
unfolding related
exchanged a b = (refl, refl)

-- `=` means that the two numbers are one
pub equal_means : (a b : ℤ) → (related equal a b ≡ true) ↔ (a ≡ b)
unfolding related
equal_means a b = (
  λ e. le_z_both a b (left_of (le_z a b) (le_z b a) e) (right_of (le_z a b) (le_z b a) e),
  λ p. ap (λ x. le_z a x && le_z x a) (sym p) ∙ and_true (le_z_self a) (le_z_self a),
)

module _ (c : Chain) (letters : List Letter) (meets : Tuple → Bool) where
  -- `A`: for every state the rest holds
  pub for_all_means : (ranged c (for_all ∷ letters) meets ≡ true) ↔
      ((s : ℕ) → s < c.N → ranged c letters (λ ss. meets (s ∷ ss)) ≡ true)
  unfolding ranged ranges
  for_all_means =
      let r = every_means (λ s. ranged c letters (λ ss. meets (s ∷ ss))) (below c.N) in
      (λ e s i. r.0 e s (below_has c.N i), λ h. r.1 (λ s m. h s (below_member c.N m)))

  -- `E`: for some state the rest holds
  pub exists_means : (ranged c (exists ∷ letters) meets ≡ true) ↔
      ((s : ℕ) × (s < c.N) × (ranged c letters (λ ss. meets (s ∷ ss)) ≡ true))
  unfolding ranged ranges
  exists_means = (
    λ e.
        let q = there_is_found (λ s. ranged c letters (λ ss. meets (s ∷ ss))) (below c.N) e in
        (q.0, below_member c.N q.1, q.2),
    λ q.
        there_is_from (λ s. ranged c letters (λ ss. meets (s ∷ ss))) q.0 (below c.N)
        (below_has c.N q.1) q.2,
  )
