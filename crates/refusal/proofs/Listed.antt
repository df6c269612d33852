-- A call whose rows are a list, in the order of their numbers: its contract from the number of the first that applies, and back.
use Prim.Native.Nat.{ℕ, ◌<◌}
use mathlib.Core.List.{List}
use mathlib.Core.Path.{◌≡◌, refl, sym, ap, subst, ◌∙◌}
use native.Mathlib.Omega.{arith}
use lib.ListN.{length}
use Rattle.std.specs.Prelude.{Result, Ok, Err}
use Rattle.refusal.specs.declared.Refusal.{Refusal}
use Rattle.refusal.specs.Answers.{Reply, gives, refuses, number_in, Ensured, refused, answered, number_of, reply_of, at_front, TextAtFront}
use Rattle.refusal.specs.Answers.{Writes, Reads}
use Rattle.refusal.specs.Rows.{Row, first, Ascending, Applies, by_row as smallest-of, by_none, Given}
use Rattle.refusal.proofs.Ensuring.{one_result, number_decided, refused_as, number_positive, one_front, answer_told}
use Rattle.refusal.proofs.Laws.{above, smallest, one_number}

module _ {rows : List Row} (up : Ascending 0 rows) where
  -- the first row's number is what the document asks for
  given_first : {n : ℕ} → first rows ≡ n → Given rows n
  given_first e = subst (Given rows) e (smallest up)

  -- where it is 0, no row applies
  pub none_applies : first rows ≡ 0 → (m : ℕ) → Applies m rows → ⊥
  none_applies e m a = by (given_first e)
    where
      by : Given rows 0 → ⊥
      by (by_none none) = none m a
      by (smallest-of row least) =
          let low = above up 0 row in
          omega arith

  module _ {A L : Type 0} {Right : A → L → Type 0} {before : L} {reply : Reply A} {after : L} where
    -- a refusal
    pub list_refused : (k : ℕ) → 0 < k → first rows ≡ k → reply ≡ refuses k → after ≡ before
        → Ensured (λ n. Applies n rows) Right before reply after
    list_refused k some e r l = refused_as (given_first e) some r l

    -- an answer
    pub list_answered : {v : A} → first rows ≡ 0 → reply ≡ gives v → Right v after → Ensured (λ n. Applies n rows) Right before reply after
    list_answered e r right = answered r right (none_applies e)

    -- the number of a reply is that of the first row that applies
    pub list_number : Ensured (λ n. Applies n rows) Right before reply after → number_in reply ≡ first rows
    list_number w = one_number (number_decided w) (smallest up)

  -- a writer's refusal
  pub writes_refused : (text : List ℕ) {before after : List ℕ} {r : Result ℕ Refusal} (x : Refusal) → first rows ≡ number_of x →
      r ≡ Err x → after ≡ before → Writes rows text before after r
  writes_refused text x e a l = record { ensured = list_refused (number_of x) (number_positive x) e (ap reply_of a) l }

  -- a reader's refusal
  pub reads_refused : {A : Type 0} {Correct : A → Type 0} {r : Result A Refusal} (x : Refusal) → first rows ≡ number_of x → r ≡ Err x →
      Reads (λ n. Applies n rows) Correct r
  reads_refused x e a = record { ensured = list_refused (number_of x) (number_positive x) e (ap reply_of a) refl }

  -- and its answer
  pub reads_done : {A : Type 0} {Correct : A → Type 0} {r : Result A Refusal} {v : A} → first rows ≡ 0 → r ≡ Ok v → Correct v →
      Reads (λ n. Applies n rows) Correct r
  reads_done e a right = record { ensured = list_answered e (ap reply_of a) right }

  -- and a writer's answer
  pub writes_done : (text : List ℕ) {before after : List ℕ} {r : Result ℕ Refusal} → first rows ≡ 0 → r ≡ Ok (length text) →
      after ≡ at_front text before → Writes rows text before after r
  writes_done text e a l =
      record { ensured = list_answered e (ap reply_of a) (record { text = text; asked = refl; sized = refl; left = l }) }

-- other rows with the same first number
pub rows_changed : {rows rows' : List Row} → Ascending 0 rows → Ascending 0 rows' → first rows ≡ first rows' →
    {text before after : List ℕ} {r : Result ℕ Refusal} → Writes rows text before after r → Writes rows' text before after r
rows_changed {rows} {rows'} up up' same {text} {before} {after} {r} w = by w.ensured
  where
    by : Ensured (λ n. Applies n rows) (TextAtFront (λ t. t ≡ text) before) before (reply_of r) after
        → Writes rows' text before after r
    by (refused {n} e l row least) =
        let number = sym (ap number_in e) ∙ list_number up w.ensured ∙ same in
        record { ensured = refused_as (given_first up' (sym number)) (above up n row) e l }
    by (answered e right none) =
        let number = sym (ap number_in e) ∙ list_number up w.ensured ∙ same in
        record { ensured = list_answered up' (sym number) e right }

-- any two results that a writer's contract allows are equal
pub one_writing : {rows : List Row} {text before after after' : List ℕ} {r r' : Result ℕ Refusal} →
    Writes rows text before after r → Writes rows text before after' r' → (r ≡ r') × (after ≡ after')
one_writing {r = r} {r'} w w' =
    let one = one_result (one_front (λ t t' p q. p ∙ sym q)) w.ensured w'.ensured in
    (answer_told r r' one.0, one.1)
