-- Demand 1, of every call: each contract is an `Ensured`.
use Prim.Native.Nat.{ℕ, ◌≤◌}
use mathlib.Core.Path.{◌≡◌, sym, ap, subst, ◌∙◌}
use native.Mathlib.Nat.{le_antisymm}
use native.Mathlib.Omega.{arith}
use Rattle.refusal.specs.Answers.{Reply, gives, refuses, number_in, Ensured, refused, answered}
use Rattle.demands.specs.Demands.{Ends, Demand1}

-- no reply is both
not_both : {A : Type 0} {reply : Reply A} {n : ℕ} {v : A} → reply ≡ refuses n → reply ≡ gives v → ⊥
not_both {n = n} {v} e e' =
    let other : refuses n ≡ gives v = sym e ∙ e' in
    let z : ◌≡◌ {A = ℕ} 0 1 = cc in
    omega arith

module _ {A L : Type 0} {R : ℕ → Type 0} {Right : A → L → Type 0} {before : L} {reply : Reply A} {after : L} where
  -- the row of a refusal, and that none with a smaller number applies
  row_of : Ensured R Right before reply after → (n : ℕ) → reply ≡ refuses n → R n × ((m : ℕ) → R m → n ≤ m)
  row_of (refused {n = k} e left row least) n e' =
      let same : n ≡ k = ap number_in (sym e' ∙ e) in
      subst (λ (x : ℕ). R x × ((m : ℕ) → R m → x ≤ m)) (sym same) (row, least)
  row_of (answered e right none) n e' = absurd (not_both e' e)

  -- and back
  refused_by : Ensured R Right before reply after → (n : ℕ) → R n × ((m : ℕ) → R m → n ≤ m) → reply ≡ refuses n
  refused_by (refused {n = k} e left row least) n given = e ∙ ap refuses (le_antisymm (least n given.0) (given.1 k row))
  refused_by (answered e right none) n given = absurd (none n given.0)

  none_of : Ensured R Right before reply after → (v : A) × (reply ≡ gives v) → (m : ℕ) → R m → ⊥
  none_of (refused e left row least) given m r = not_both e given.1
  none_of (answered e right none) given m r = none m r

  answer_of : Ensured R Right before reply after → ((m : ℕ) → R m → ⊥) → (v : A) × (reply ≡ gives v)
  answer_of (refused {n = k} e left row least) none = absurd (none k row)
  answer_of (answered {v} e right free) none = (v, e)

  left_so : Ensured R Right before reply after → (n : ℕ) → reply ≡ refuses n → after ≡ before
  left_so (refused e left row least) n e' = left
  left_so (answered e right none) n e' = absurd (not_both e' e)

  -- a call that ensures so ends so
  ends : Ensured R Right before reply after → Ends R before reply after
  ends w = record {
    refusal = λ n. (row_of w n, refused_by w n);
    answer = (none_of w, answer_of w);
    unchanged = left_so w;
  }

pub demand_1 : Demand1
demand_1 = record {
  read_model = λ file w. ends w.ensured;
  write_model = λ m w. ends w.ensured;
  read_sentence = λ text w. ends w.ensured;
  write_sentence = λ w. ends w.ensured;
  verdict_call = λ w. ends w.ensured;
  numerator_call = λ w. ends w.ensured;
  merge_call = λ file grouping w. ends w.ensured;
}
