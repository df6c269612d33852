-- What filling does to a model's rows, by whether the state is halted.
use Prim.Native.Nat.{ℕ, ◌≤◌, ◌<◌}
use mathlib.Core.Bool.{Bool, true, false, cond, ◌&&◌}
use mathlib.Core.List.{List, []}
use mathlib.Core.Path.{◌≡◌, refl, sym, ap, ◌∙◌}
use native.Mathlib.Decide.{ℕ_discrete}
use native.Mathlib.Omega.{arith}
use borrow.Author.Tests.{eqb-true, eq-eqb, ne_eqb, ltb-true}
use lib.Dec.{ltb, eqb}
use lib.ListN.{length, get_or, set, length-set}
use lib.Seq.{get_or-set_same, get_or-set_other}
use Rattle.counting.specs.Below.{sum_below, table}
use Rattle.counting.specs.Entries.{cell}
use Rattle.counting.proofs.Laws.{left_of, right_of, every_at, sum_zero, sum_same, table_at, table_is, is_not_true}
use Rattle.model.specs.declared.Model.{Model}
use Rattle.model.specs.Layout.{weight_of}
use Rattle.model.specs.Rules.{empty_row, halted}
use Rattle.meaning.proofs.Merging.{pick}
use Rattle.meaning.proofs.Sums.{total_sum}
use Rattle.chain.specs.Of.{filled_weight, filled_rows}

-- a number put into a list of zeros
pub one_weight : (zeros : List ℕ) (s d : ℕ) → length zeros ≡ 32 → ((t : ℕ) → t < 32 → get_or zeros t 0 ≡ 0) → s < 32 →
    set zeros s d ≡ table 32 (λ t. cond (eqb s t) d 0)
one_weight zeros s d long none l =
    table_is 32 (λ t. cond (eqb s t) d 0) 0 (set zeros s d) (length-set zeros s d ∙ long) (λ t k. by t k (ℕ_discrete s t))
  where
    by : (t : ℕ) → t < 32 → Dec (s ≡ t) → get_or (set zeros s d) t 0 ≡ cond (eqb s t) d 0
    by t k (yes e) =
        ap (λ (x : ℕ). get_or (set zeros s d) x 0) (sym e) ∙
        get_or-set_same zeros s d 0 (omega (arith, long)) ∙
        sym (ap (λ (b : Bool). cond b d 0) (eq-eqb s t e))
    by t k (no other) =
        get_or-set_other zeros s t d 0 (λ e. other (sym e)) ∙
        none t k ∙
        sym (ap (λ (b : Bool). cond b d 0) (ne_eqb s t other))

module _ (m : Model) where
  -- a halted state's row is weight D to the state itself
  pub filled_halted : (s t : ℕ) → halted m s ≡ true → filled_weight m s t ≡ cond (eqb s t) m.d 0
  unfolding filled_weight
  filled_halted s t e = ap (λ (b : Bool). cond b (cond (eqb s t) m.d 0) (weight_of m s t)) e

  -- any other row stays
  pub filled_other : (s t : ℕ) → halted m s ≡ false → filled_weight m s t ≡ weight_of m s t
  unfolding filled_weight
  filled_other s t e = ap (λ (b : Bool). cond b (cond (eqb s t) m.d 0) (weight_of m s t)) e

  -- a halted state's row adds up to D
  pub sum_halted : (s : ℕ) → s < 32 → halted m s ≡ true → sum_below 32 (filled_weight m s) ≡ m.d
  sum_halted s l e =
      sum_same 32 (λ t k. filled_halted s t e) ∙ sym (total_sum 32 (λ t. cond (eqb s t) m.d 0)) ∙ pick (λ t. m.d) s 32 l

  -- a halted state is one of the N
  pub halted_below : (s : ℕ) → halted m s ≡ true → s < m.n
  halted_below s e =
      ltb-true s m.n
      (left_of (ltb s m.n) (eqb m.version 1) (left_of (ltb s m.n && eqb m.version 1) (empty_row m s) e))

  -- in its row no weight stands
  pub halted_none : (s t : ℕ) → halted m s ≡ true → t < 32 → weight_of m s t ≡ 0
  halted_none s t e k =
      eqb-true (weight_of m s t) 0
      (every_at 32 (λ t. eqb (weight_of m s t) 0) (right_of (ltb s m.n && eqb m.version 1) (empty_row m s) e) t k)

  -- so no state whose row has some weight is halted,
  pub weighed_goes : (s : ℕ) → 1 ≤ sum_below 32 (weight_of m s) → halted m s ≡ false
  weighed_goes s some =
      is_not_true (halted m s)
      (λ e.
      let none = sum_zero 32 {f = weight_of m s} (λ t k. halted_none s t e k) in
      absurd (omega (arith, none, some)))

  -- no row from N on is filled,
  pub past_goes : (s : ℕ) → m.n ≤ s → halted m s ≡ false
  past_goes s past = is_not_true (halted m s) (λ e. let low = halted_below s e in absurd (omega (arith, low, past)))

  -- and none in version 0
  pub version_goes : m.version ≡ 0 → (s : ℕ) → halted m s ≡ false
  version_goes zero s =
      is_not_true (halted m s)
      (λ e.
      let one =
      eqb-true m.version 1
      (right_of (ltb s m.n) (eqb m.version 1) (left_of (ltb s m.n && eqb m.version 1) (empty_row m s) e)) in
      absurd (omega (arith, one, zero)))

  -- the table of the filled rows
  pub filled_cell : (s t : ℕ) → s < 32 → t < 32 → cell (filled_rows m) s t ≡ filled_weight m s t
  filled_cell s t l k =
      ap (λ (row : List ℕ). get_or row t 0) (table_at 32 (λ s. table 32 (filled_weight m s)) [] s l) ∙ table_at 32 (filled_weight m s) 0 t k

-- ---- a row after filling, as the code makes it

module _ (m : Model) (s : ℕ) where
  pub row_halted : halted m s ≡ true → table 32 (λ t. cond (eqb s t) m.d 0) ≡ table 32 (filled_weight m s)
  unfolding filled_weight
  row_halted e = sym (ap (λ (b : Bool). table 32 (λ t. cond b (cond (eqb s t) m.d 0) (weight_of m s t))) e)

  pub row_goes : halted m s ≡ false → length (get_or m.weights s []) ≡ 32 → get_or m.weights s [] ≡ table 32 (filled_weight m s)
  unfolding filled_weight
  row_goes e long =
      table_is 32 (weight_of m s) 0 (get_or m.weights s []) long (λ t k. refl) ∙
      sym (ap (λ (b : Bool). table 32 (λ t. cond b (cond (eqb s t) m.d 0) (weight_of m s t))) e)
