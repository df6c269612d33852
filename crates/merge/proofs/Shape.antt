-- A record with right fields and rows, whose lists are 32 long, can stand in a file: its masks and weights are numbers of
-- two bytes.
use Prim.Native.Nat.{ℕ, ◌^◌, ◌≤◌, ◌<◌}
use mathlib.Core.Bool.{Bool, true, false, ◌&&◌, ◌||◌}
use mathlib.Core.List.{List, []}
use mathlib.Core.Path.{◌≡◌, refl, ap}
use native.Mathlib.Decide.{dec_lt}
use native.Mathlib.Nat.{le_trans}
use native.Mathlib.Omega.{arith}
use borrow.Author.Tests.{ltb-true, le-ltb, eqb-true}
use lib.Dec.{ltb, eqb}
use lib.ListN.{length, get_or, get_or-eq_default}
use lib.Pow.{pow_mono}
use Rattle.model.specs.declared.Model.{Model}
use Rattle.model.specs.Layout.{Shaped, mask_of, weight_of}
use Rattle.model.specs.Rules.{fields_right, rows_right}
use Rattle.model.proofs.Rightness.{labels_few, total_few, mask_at_right, weight_past}
use Rattle.chain.proofs.Right.{weight_few}

-- a mask has its bits A and up zero, and A is at most 16
pub mask_two : (m : Model) → fields_right m ≡ true → (s : ℕ) → s < 32 → mask_of m s < 2 ^ 16
mask_two m fields s l = look (ltb s m.n) (ltb (mask_of m s) (2 ^ m.a)) refl (mask_at_right m fields s l)
  where
    look : (b d : Bool) → ltb (mask_of m s) (2 ^ m.a) ≡ d → (b && d || eqb (mask_of m s) 0) ≡ true → mask_of m s < 2 ^ 16
    look b true p e = le_trans (ltb-true (mask_of m s) (2 ^ m.a) p) (pow_mono (labels_few m fields))
    look true false p e =
        let z = eqb-true (mask_of m s) 0 e in
        omega arith
    look false false p e =
        let z = eqb-true (mask_of m s) 0 e in
        omega arith

module _ (m : Model) (fields : fields_right m ≡ true) (adds : rows_right m ≡ true)
    (masks : length m.masks ≡ 32) (rows : length m.weights ≡ 32)
    (row : (s : ℕ) → s < 32 → length (get_or m.weights s []) ≡ 32) where
  mask_small : (s : ℕ) → Dec (s < 32) → mask_of m s < 65536
  mask_small s (no past) =
      let e = get_or-eq_default m.masks 0 (past_end past) in
      omega arith
    where
      past_end : (s < 32 → ⊥) → length m.masks ≤ s
      past_end h = omega arith
  mask_small s (yes l) = mask_two m fields s l

  -- a weight is at most D
  weight_small : (s t : ℕ) → Dec (s < 32) → Dec (t < 32) → Dec (s < m.n) → weight_of m s t < 65536
  weight_small s t (no past) d n =
      let e = ap (λ (r : List ℕ). get_or r t 0) (get_or-eq_default m.weights [] (past_end past)) in
      omega arith
    where
      past_end : (s < 32 → ⊥) → length m.weights ≤ s
      past_end h = omega arith
  weight_small s t (yes l) (no past) n =
      let e = get_or-eq_default (get_or m.weights s []) 0 (past_end past (row s l)) in
      omega arith
    where
      past_end : (t < 32 → ⊥) → length (get_or m.weights s []) ≡ 32 → length (get_or m.weights s []) ≤ t
      past_end h e = omega arith
  weight_small s t (yes l) (yes k) (no past) =
      let e = weight_past m fields s t l k (ap (λ (b : Bool). b && ltb t m.n) (le-ltb s m.n (omega arith))) in
      omega arith
  weight_small s t (yes l) (yes k) (yes n) =
      let part = weight_few m fields adds s t n k in
      let few = total_few m fields in
      omega arith

  pub shaped : Shaped m
  shaped =
      record {
        masks = masks;
        rows = rows;
        row = row;
        mask = λ s. mask_small s (dec_lt s 32);
        weight = λ s t. weight_small s t (dec_lt s 32) (dec_lt t 32) (dec_lt s m.n);
      }
