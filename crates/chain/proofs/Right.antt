-- The chain of a record whose fields and rows are right: it is sound.
use Prim.Native.Nat.{ℕ, ◌≤◌, ◌<◌}
use mathlib.Core.Bool.{Bool, true, false, cond, ◌&&◌, ◌||◌}
use mathlib.Core.Path.{◌≡◌, refl, sym, ap, ◌∙◌}
use native.Mathlib.Omega.{arith}
use borrow.Author.Tests.{eqb-true, ne_eqb, lt-ltb, le-ltb, ltb-false, lt-leb}
use lib.Dec.{leb, ltb}
use Rattle.counting.specs.Below.{sum_below}
use Rattle.counting.proofs.Laws.{every_at, sum_same, term_le_sum, not_second}
use Rattle.model.specs.declared.Model.{Model}
use Rattle.model.specs.Layout.{weight_of}
use Rattle.model.specs.Rules.{fields_right, adds_up, halted, rows_right}
use Rattle.model.proofs.Rightness.{states_few, weight_past}
use Rattle.meaning.specs.Chain.{Sound}
use Rattle.chain.specs.Of.{filled_weight, chain_of}
use Rattle.meaning.proofs.Sums.{total_sum}
use Rattle.chain.proofs.Filling.{filled_halted, filled_other, sum_halted, halted_below, halted_none}
use Rattle.chain.proofs.Totals.{sum_first}

-- of two tests joined by 'or' the first is met where the second is not
first_met : (a : Bool) {b : Bool} → b ≡ false → (a || b) ≡ true → a ≡ true
first_met true e h = refl
first_met false e h = sym e ∙ h

module _ (m : Model) (fields : fields_right m ≡ true) where
  -- after filling too, columns and rows from N on are zero
  pub filled_past : (s t : ℕ) → s < 32 → t < 32 → (ltb s m.n && ltb t m.n) ≡ false → filled_weight m s t ≡ 0
  filled_past s t l k out = by (halted m s) refl
    where
      by : (b : Bool) → halted m s ≡ b → filled_weight m s t ≡ 0
      by true e =
          let low = halted_below m s e in
          let past = ltb-false t m.n (sym (ap (λ (b : Bool). b && ltb t m.n) (lt-ltb s m.n low)) ∙ out) in
          filled_halted m s t e ∙ ap (λ (b : Bool). cond b m.d 0) (ne_eqb s t (λ same. omega (arith, low, past, same)))
      by false e = filled_other m s t e ∙ weight_past m fields s t l k out

  pub column_zero : (s t : ℕ) → s < 32 → t < 32 → m.n ≤ t → filled_weight m s t ≡ 0
  column_zero s t l k past = filled_past s t l k (not_second (ltb s m.n) (le-ltb t m.n past))

  pub row_zero : (s t : ℕ) → s < 32 → t < 32 → m.n ≤ s → filled_weight m s t ≡ 0
  row_zero s t l k past = filled_past s t l k (ap (λ (b : Bool). b && ltb t m.n) (le-ltb s m.n past))

  module _ (adds : rows_right m ≡ true) where
    -- the row of a state adds up to D, over all 32 columns
    pub row_at : (s : ℕ) → s < m.n → sum_below 32 (filled_weight m s) ≡ m.d
    unfolding rows_right
    row_at s l = by (halted m s) refl
      where
        right : (adds_up m s || halted m s) ≡ true
        right =
            let few = states_few m fields in
            ap (λ (b : Bool). b || adds_up m s || halted m s) (sym (lt-leb m.n s l)) ∙
            every_at 32 (λ s. leb m.n s || adds_up m s || halted m s) adds s (omega arith)

        by : (b : Bool) → halted m s ≡ b → sum_below 32 (filled_weight m s) ≡ m.d
        by true e = sum_halted m s (let few = states_few m fields in omega arith) e
        by false e =
            sum_same 32 (λ t k. filled_other m s t e) ∙
            eqb-true (sum_below 32 (weight_of m s)) m.d (first_met (adds_up m s) e right)

    -- a weight as it stands is at most D
    pub weight_few : (s t : ℕ) → s < m.n → t < 32 → weight_of m s t ≤ m.d
    weight_few s t l k = by (halted m s) refl
      where
        by : (b : Bool) → halted m s ≡ b → weight_of m s t ≤ m.d
        by true e = let none = halted_none m s t e k in omega (arith, none)
        by false e =
            let part = term_le_sum 32 (filled_weight m s) t k in
            let same = filled_other m s t e in
            let whole = row_at s l in
            omega (arith, part, same, whole)

    -- over the N columns the row adds up to D
    pub sound_right : Sound (chain_of m)
    unfolding Sound
    sound_right s l =
        let few = states_few m fields in
        total_sum m.n (filled_weight m s) ∙
        sym (sum_first m.n 32 (filled_weight m s) few (λ t past k. column_zero s t (omega arith) k past)) ∙
        row_at s l
