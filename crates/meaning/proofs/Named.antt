-- The variables that a path names: their states in a tuple, and tuples in which they have others.
use Prim.Native.Nat.{ℕ}
use mathlib.Core.Bool.{true, false}
use mathlib.Core.List.{[], ◌∷◌, map}
use mathlib.Core.Path.{◌≡◌, refl, sym, ap, ◌∙◌, subst}
use lib.ListN.{length, length-map}
use Rattle.meaning.specs.Lists.{below, nothing, further}
use Rattle.meaning.specs.Chain.{Tuple, Inside}
use Rattle.meaning.specs.Tree.{PathFormula}
use Rattle.meaning.specs.Named.{Some, count, named, v, chosen, placed}
use Rattle.meaning.proofs.Runs.{length_below}

module _ (N : ℕ) where
  -- the states of some variables
  pub chosen_inside : (bs : Some) {s : Tuple} → Inside N (length bs) s → Inside N (count bs) (chosen bs s)
  unfolding chosen count
  chosen_inside [] i = nothing
  chosen_inside (true ∷ bs) (further h i) = further h (chosen_inside bs i)
  chosen_inside (false ∷ bs) (further h i) = chosen_inside bs i

  -- the tuple in which they have others
  pub placed_inside : (bs : Some) {s t : Tuple} → Inside N (length bs) s → Inside N (count bs) t →
      Inside N (length bs) (placed bs s t)
  unfolding placed count
  placed_inside [] i j = i
  placed_inside (true ∷ bs) (further h i) (further k j) = further k (placed_inside bs i j)
  placed_inside (false ∷ bs) (further h i) j = further h (placed_inside bs i j)

  -- what they have there
  pub chosen_placed : (bs : Some) {s t : Tuple} → Inside N (length bs) s → Inside N (count bs) t →
      chosen bs (placed bs s t) ≡ t
  unfolding chosen placed count
  chosen_placed [] i nothing = refl
  chosen_placed (true ∷ bs) (further h i) (further {x = t} k j) = ap (λ (x : Tuple). t ∷ x) (chosen_placed bs i j)
  chosen_placed (false ∷ bs) (further h i) j = chosen_placed bs i j

  -- of two placings the later one stays
  pub placed_placed : (bs : Some) {s t : Tuple} → Inside N (length bs) s → Inside N (count bs) t → (r : Tuple) →
      placed bs (placed bs s t) r ≡ placed bs s r
  unfolding placed count
  placed_placed [] i j r = refl
  placed_placed (true ∷ bs) (further h i) (further l j) [] = refl
  placed_placed (true ∷ bs) (further h i) (further l j) (x ∷ r) = ap (λ (y : Tuple). x ∷ y) (placed_placed bs i j r)
  placed_placed (false ∷ bs) (further {x = x} h i) j r = ap (λ (y : Tuple). x ∷ y) (placed_placed bs i j r)

  -- with the states that they have, it is the tuple
  pub placed_chosen : (bs : Some) {s : Tuple} → Inside N (length bs) s → placed bs s (chosen bs s) ≡ s
  unfolding placed chosen
  placed_chosen [] i = refl
  placed_chosen (true ∷ bs) (further {x = x} h i) = ap (λ (y : Tuple). x ∷ y) (placed_chosen bs i)
  placed_chosen (false ∷ bs) (further {x = x} h i) = ap (λ (y : Tuple). x ∷ y) (placed_chosen bs i)

  -- both, of the groups of the states
  pub chosen_map : (group : ℕ → ℕ) (bs : Some) {s : Tuple} → Inside N (length bs) s →
      chosen bs (map group s) ≡ map group (chosen bs s)
  unfolding chosen
  chosen_map group [] i = refl
  chosen_map group (true ∷ bs) (further {x = x} h i) = ap (λ (y : Tuple). group x ∷ y) (chosen_map group bs i)
  chosen_map group (false ∷ bs) (further h i) = chosen_map group bs i

  pub placed_map : (group : ℕ → ℕ) (bs : Some) {s t : Tuple} → Inside N (length bs) s → Inside N (count bs) t →
      placed bs (map group s) (map group t) ≡ map group (placed bs s t)
  unfolding placed count
  placed_map group [] i j = refl
  placed_map group (true ∷ bs) (further h i) (further {x = x} k j) = ap (λ (y : Tuple). group x ∷ y) (placed_map group bs i j)
  placed_map group (false ∷ bs) (further {x = x} h i) j = ap (λ (y : Tuple). group x ∷ y) (placed_map group bs i j)

-- a yes or no for each of the n variables
pub named_length : (p : PathFormula) (n : ℕ) → length (named p n) ≡ n
unfolding named
named_length p n = length-map (below n) _ ∙ length_below n

module _ (p : PathFormula) {N n : ℕ} {s : Tuple} (i : Inside N n s) where
  -- a tuple has a state for each variable that may be named
  pub long_named : Inside N (length (named p n)) s
  long_named = subst (λ (k : ℕ). Inside N k s) (sym (named_length p n)) i

  -- the named variables' states are a tuple of v states
  pub named_inside : Inside N (v p n) (chosen (named p n) s)
  unfolding v
  named_inside = chosen_inside N (named p n) long_named

  -- and a tuple in which they have others is a tuple of n states
  pub named_placed : {t : Tuple} → Inside N (v p n) t → Inside N n (placed (named p n) s t)
  unfolding v
  named_placed {t} j =
      subst (λ (k : ℕ). Inside N k (placed (named p n) s t)) (named_length p n) (placed_inside N (named p n) long_named j)
