-- What the layers of codes mean: from the layers of two expressions, that of their sum, difference or product, and the
-- truth of their comparison; and that the size rule gives what the calls ask.
use Prim.Native.Nat.{ℕ, ◌+◌, ◌^◌, ◌≤◌, ◌<◌}
use mathlib.Core.Bool.{Bool, false, cond, ◌||◌}
use mathlib.Core.List.{List}
use mathlib.Core.Path.{◌≡◌, refl, sym, ap, ap₂, ◌∙◌}
use native.Mathlib.Nat.{le_trans, le_of_eq, mul-le-mul, mul-le-mul_right}
use native.Mathlib.Omega.{arith}
use lib.IntN.{nat_abs}
use lib.ListN.{length, get_or, drop}
use lib.Seq.{get_or-drop}
use Rattle.sentence.specs.declared.Relation.{Relation}
use Rattle.meaning.specs.Chain.{Chain, Sound, Tuple}
use Rattle.meaning.specs.Tree as tree
use Rattle.meaning.specs.Tree.{Expression, probability, constant, PathFormula}
use Rattle.meaning.specs.Meaning.{value, holds, numerator, compared}
use Rattle.meaning.specs.Size.{size, add_s, mul_s, exceeds, exceeds_in, large_size, large_cross}
use Rattle.meaning.proofs.Bounds.{value_within, size_fits, cross_fits, top_fits}
use Rattle.meaning.proofs.Numbers.{tuple_of, tuple_inside}
use Rattle.meaning.proofs.Tests.{or_left, or_right}
use Rattle.trees.specs.Listed.{relation_read}
use Rattle.layers.specs.Layers.{Layer, truth, WrittenFront}
use Rattle.layers.proofs.Truth.{written_layer}
use Rattle.fractions.specs.declared.Operation.{Operation}
use Rattle.fractions.specs.declared.Operation.TheVariants.{Sum, Difference, Product}
use Rattle.fractions.specs.Codes.{coded, decoded}
use Rattle.fractions.specs.Operations.{over, operated, sized, combined_at, compared_at}
use Rattle.fractions.specs.Operations.{CombineFits, CompareFits}
use Rattle.fractions.specs.Values.{numerator_codes, expression_of}
use Rattle.fractions.proofs.Magnitude.{decoded_coded}

-- ---- the size rule, for an operation

-- a larger bound gives a larger bound
sized_mono : (op : Operation) (d1 d2 : ℕ) {m1 m2 m1' m2' : ℕ} → m1 ≤ m1' → m2 ≤ m2' →
    (sized op (record { d = d1; m = m1 }) (record { d = d2; m = m2 })).m ≤
    (sized op (record { d = d1; m = m1' }) (record { d = d2; m = m2' })).m
unfolding sized add_s mul_s
sized_mono Sum d1 d2 p q = omega (arith, mul-le-mul_right d2 p, mul-le-mul_right d1 q)
sized_mono Difference d1 d2 p q = omega (arith, mul-le-mul_right d2 p, mul-le-mul_right d1 q)
sized_mono Product d1 d2 p q = mul-le-mul p q

-- the size of the expression is what the operation makes of the sizes
size_of : (op : Operation) (a b : Expression) (D n : ℕ) →
    size (expression_of op a b) D n ≡ sized op (size a D n) (size b D n)
unfolding size sized
size_of Sum a b D n = refl
size_of Difference a b D n = refl
size_of Product a b D n = refl

-- its value is what the operation makes of the values
value_of : (op : Operation) (a b : Expression) (c : Chain) (n : ℕ) (s : Tuple) →
    value (expression_of op a b) c n s ≡ operated op (value a c n s) (value b c n s)
unfolding value operated
value_of Sum a b c n s = refl
value_of Difference a b c n s = refl
value_of Product a b c n s = refl

-- the rule that refuses nothing of the whole refuses nothing of the parts
exceeds_of : (op : Operation) (a b : Expression) (D n : ℕ) →
    exceeds_in (expression_of op a b) D n ≡
    (exceeds_in a D n || exceeds_in b D n || large_size (size (expression_of op a b) D n))
unfolding exceeds_in
exceeds_of Sum a b D n = refl
exceeds_of Difference a b D n = refl
exceeds_of Product a b D n = refl

both_small : (x y z : Bool) → (x || y || z) ≡ false → (x ≡ false) × (y ≡ false)
both_small x y z e = (or_left x y (or_left (x || y) z e), or_right x y (or_left (x || y) z e))

pub operands_small : (op : Operation) (a b : Expression) (D n : ℕ) → exceeds_in (expression_of op a b) D n ≡ false →
    (exceeds_in a D n ≡ false) × (exceeds_in b D n ≡ false)
operands_small op a b D n e =
    both_small (exceeds_in a D n) (exceeds_in b D n) (large_size (size (expression_of op a b) D n))
    (sym (exceeds_of op a b D n) ∙ e)

pub sides_small : (r : tree.Relation) (a b : Expression) (D n : ℕ) → exceeds (tree.compare r a b) D n ≡ false →
    (exceeds_in a D n ≡ false) × (exceeds_in b D n ≡ false)
unfolding exceeds
sides_small r a b D n e = both_small (exceeds_in a D n) (exceeds_in b D n) (large_cross (size a D n) (size b D n)) e

-- ---- one layer

-- the numerator of a path is the code of its probability's numerator
pub probability_layer : {N n : ℕ} (p : PathFormula) (c : Chain) {w : List ℕ} → Layer N n (numerator p c n) w →
    Layer N n (numerator_codes (probability p) c n) w
unfolding value
probability_layer p c h = h

pub constant_layer : {N n T : ℕ} → T ≡ N ^ n → (a b : ℕ) (c : Chain) {before after : List ℕ} →
    WrittenFront T (λ k. a) before after →
    Layer N n (numerator_codes (constant a b) c n) after
unfolding value
constant_layer whole a b c h = written_layer whole h (λ k l. refl)

-- ---- the code at tuple k, of an expression that the size rule does not refuse

-- with the denominator of the size rule it is the value, and it is within the rule's bound
record Stands (c : Chain) (n : ℕ) (a : Expression) (k x : ℕ) : Type 0 where
  pub is : over (decoded x) (size a c.D n).d ≡ value a c n (tuple_of c.N n k)
  pub small : nat_abs (decoded x) ≤ (size a c.D n).m

stands : (c : Chain) → Sound c → {n k x : ℕ} (a : Expression) → exceeds_in a c.D n ≡ false → k < c.N ^ n →
    x ≡ numerator_codes a c n (tuple_of c.N n k) → Stands c n a k x
stands c sound {n} {k} a fits l at =
    let within = value_within a c sound n (tuple_inside c.N n k l) in
    let top = ap decoded at ∙
    decoded_coded (value a c n (tuple_of c.N n k)).top
    (record { size = top_fits a c sound n fits (tuple_inside c.N n k l) }) in
    record {
      is = ap₂ over top (sym within.bottom);
      small = le_trans (le_of_eq (ap nat_abs top)) within.top;
    }

-- ---- two layers, of two such expressions
module _ (c : Chain) (sound : Sound c) {n T : ℕ} (whole : T ≡ c.N ^ n) (a b : Expression)
    (small-a : exceeds_in a c.D n ≡ false) (small_b : exceeds_in b c.D n ≡ false) {w : List ℕ}
    (one : Layer c.N n (numerator_codes a c n) w) (two : Layer c.N n (numerator_codes b c n) (drop T w)) where
  first : (k : ℕ) → k < T → Stands c n a k (get_or w k 0)
  first k l = stands c sound a small-a (omega arith) (one.at k (omega arith))

  second : (k : ℕ) → k < T → Stands c n b k (get_or w (T + k) 0)
  second k l = stands c sound b small_b (omega arith) (sym (get_or-drop T w k 0) ∙ two.at k (omega arith))

  -- what `combine` asks, and what it makes
  pub combine_fits : (op : Operation) → exceeds_in (expression_of op a b) c.D n ≡ false → T + T ≤ length w →
      CombineFits op (size a c.D n).d (size b c.D n).d T w
  combine_fits op small room = record {
    room = room;
    fits = λ k l. record {
      left = (size_fits a c.D n small-a).0;
      right = (size_fits b c.D n small_b).0;
      bound =
          le_trans (sized_mono op (size a c.D n).d (size b c.D n).d (first k l).small (second k l).small)
          (le_trans (le_of_eq (ap (λ z. z.m) (sym (size_of op a b c.D n))))
          (size_fits (expression_of op a b) c.D n small).1);
    };
  }

  pub combine_layer : (op : Operation) {after : List ℕ} →
      WrittenFront T (combined_at op (size a c.D n).d (size b c.D n).d T w) w after →
      Layer c.N n (numerator_codes (expression_of op a b) c n) after
  combine_layer op h = written_layer whole h
      (λ k l.
      ap₂ (λ x y. coded (operated op x y).top) (first k (omega arith)).is (second k (omega arith)).is ∙
      ap (λ x. coded x.top) (sym (value_of op a b c n (tuple_of c.N n k))))

  -- what `compare` asks, and what it makes
  pub compare_fits : (r : Relation) → exceeds (tree.compare (relation_read r) a b) c.D n ≡ false → T + T ≤ length w →
      CompareFits (size a c.D n).d (size b c.D n).d T w
  compare_fits r small room = record {
    room = room;
    fits = λ k l. record {
      first = record {
        small = (size_fits b c.D n small_b).0;
        size = le_trans (mul-le-mul_right (size b c.D n).d (first k l).small)
            (cross_fits (relation_read r) a b c.D n small).0;
      };
      second = record {
        small = (size_fits a c.D n small-a).0;
        size = le_trans (mul-le-mul_right (size a c.D n).d (second k l).small)
            (cross_fits (relation_read r) a b c.D n small).1;
      };
    };
  }

  pub compare_layer : (r : Relation) {after : List ℕ} →
      WrittenFront T (compared_at r (size a c.D n).d (size b c.D n).d T w) w after →
      Layer c.N n (truth (λ s. holds (tree.compare (relation_read r) a b) c n s)) after
  unfolding holds
  compare_layer r h = written_layer whole h
      (λ k l.
      ap₂ (λ x y. cond (compared (relation_read r) x y) 1 0) (first k (omega arith)).is (second k (omega arith)).is)
