-- What a record with right fields has.
use Prim.Native.Nat.{ℕ, ◌≤◌, ◌<◌}
use mathlib.Core.Bool.{Bool, true, false, ◌&&◌, ◌||◌}
use mathlib.Core.List.{List}
use mathlib.Core.Path.{◌≡◌, ap, sym, ◌∙◌}
use borrow.Author.Tests.{leb-true, eqb-true}
use lib.Dec.{leb, ltb, eqb}
use Rattle.counting.specs.Below.{every_below}
use Rattle.counting.proofs.Laws.{left_of, right_of, every_at}
use Rattle.block.specs.Block.{byte_of, blocks_in}
use Rattle.model.specs.declared.Model.{Model}
use Rattle.model.specs.Layout.{weight_of, content_byte, blocks}
use Rattle.model.specs.Rules.{within, numbers_right, mask_right, weight_right, fields_right, laid_out}

-- a number within bounds has them
within_low : (low high x : ℕ) → within low high x ≡ true → low ≤ x
within_low low high x e = leb-true low x (left_of (leb low x) (leb x high) e)

within_high : (low high x : ℕ) → within low high x ≡ true → x ≤ high
within_high low high x e = leb-true x high (right_of (leb low x) (leb x high) e)

-- a file that is laid out has right fields
pub laid_fields : (file : List ℕ) (m : Model) → laid_out file m ≡ true → fields_right m ≡ true
unfolding laid_out
laid_fields file m e =
    left_of (fields_right m) (eqb (blocks_in file) (blocks m.n))
    (left_of (fields_right m && eqb (blocks_in file) (blocks m.n))
    (every_below (blocks_in file) (λ i. every_below 510 (λ j. eqb (byte_of file i j) (content_byte m i j)))) e)

module _ (m : Model) (right : fields_right m ≡ true) where
  numbers : numbers_right m ≡ true
  unfolding fields_right
  numbers = left_of (numbers_right m) (every_below 32 (mask_right m))
      (left_of (numbers_right m && every_below 32 (mask_right m)) (every_below 32 (λ s. every_below 32 (weight_right m s))) right)

  -- N, A and D are right
  three : (within 1 32 m.n && within 1 16 m.a && within 1 65535 m.d) ≡ true
  three = left_of (within 1 32 m.n && within 1 16 m.a && within 1 65535 m.d) (leb m.version 1) numbers

  states : within 1 32 m.n ≡ true
  states = left_of (within 1 32 m.n) (within 1 16 m.a)
      (left_of (within 1 32 m.n && within 1 16 m.a) (within 1 65535 m.d) three)

  -- N is 1..32
  pub states_some : 1 ≤ m.n
  states_some = within_low 1 32 m.n states

  pub states_few : m.n ≤ 32
  states_few = within_high 1 32 m.n states

  -- A is 1..16
  labels : within 1 16 m.a ≡ true
  labels = right_of (within 1 32 m.n) (within 1 16 m.a)
      (left_of (within 1 32 m.n && within 1 16 m.a) (within 1 65535 m.d) three)

  pub labels_some : 1 ≤ m.a
  labels_some = within_low 1 16 m.a labels

  pub labels_few : m.a ≤ 16
  labels_few = within_high 1 16 m.a labels

  -- D is 1..65,535
  pub total_some : 1 ≤ m.d
  total_some = within_low 1 65535 m.d (right_of (within 1 32 m.n && within 1 16 m.a) (within 1 65535 m.d) three)

  pub total_few : m.d ≤ 65535
  total_few = within_high 1 65535 m.d (right_of (within 1 32 m.n && within 1 16 m.a) (within 1 65535 m.d) three)

  -- the version is 0 or 1
  pub version_few : m.version ≤ 1
  version_few = leb-true m.version 1
      (right_of (within 1 32 m.n && within 1 16 m.a && within 1 65535 m.d) (leb m.version 1) numbers)

  -- every state's mask is right
  pub mask_at_right : (s : ℕ) → s < 32 → mask_right m s ≡ true
  unfolding fields_right
  mask_at_right s l = every_at 32 (mask_right m)
      (right_of (numbers_right m) (every_below 32 (mask_right m))
      (left_of (numbers_right m && every_below 32 (mask_right m)) (every_below 32 (λ s. every_below 32 (weight_right m s))) right)) s l

  -- rows and columns from N on are zero
  weights_end : every_below 32 (λ s. every_below 32 (weight_right m s)) ≡ true
  unfolding fields_right
  weights_end = right_of (numbers_right m && every_below 32 (mask_right m)) (every_below 32 (λ s. every_below 32 (weight_right m s))) right

  pub weight_past : (s t : ℕ) → s < 32 → t < 32 → (ltb s m.n && ltb t m.n) ≡ false → weight_of m s t ≡ 0
  weight_past s t l k out = eqb-true (weight_of m s t) 0
      (ap (λ (b : Bool). b || eqb (weight_of m s t) 0) (sym out) ∙
      every_at 32 (weight_right m s) (every_at 32 (λ s. every_below 32 (weight_right m s)) weights_end s l) t k)
