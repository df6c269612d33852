-- `layers::plain::label` meets its contract: a variable's stride is N to the number of variables after it.
use Prim.Native.Nat.{ℕ, suc, ◌*◌, ◌-◌, ◌^◌, ◌≤◌, ◌<◌}
use mathlib.Core.Path.{◌≡◌, sym, ap, subst, ◌∙◌}
use native.Mathlib.Nat.{pow-le-pow_right, pow-succ', one-mul}
use native.Mathlib.Omega.{arith}
use Rattle.meaning.specs.Meaning.{has_label}
use Rattle.layers.specs.Layers.{Layer, truth}
use Rattle.layers.specs.Held.{most_tuples, LayerSizes}
use Rattle.layers.proofs.Truth.{labelled_layer}
use Rattle.layers.proofs.Places.{pow_some}
use Rattle.layers.proofs.plain.label.Goals as goal

-- a power of N that is no tuple count is no larger than T
stride_small : {N n T : ℕ} (k : ℕ) → LayerSizes N n T → k ≤ n → N ^ k ≤ most_tuples
stride_small {N} {n} k h l =
    let p : N ^ k ≤ N ^ n = pow-le-pow_right h.some l in
    omega arith

-- the tuples in which a variable goes through all states once are no more than all
once_through : {N n T : ℕ} (k : ℕ) → LayerSizes N n T → k < n → N * N ^ k ≤ T
once_through {N} {n} k h l =
    let p : N ^ suc k ≤ N ^ n = pow-le-pow_right h.some l in
    omega (arith, h.whole, pow-succ' N k)

pub scaled-stride-requires : goal.scaled-stride-requires
scaled-stride-requires c =
    let args = c.args in
    let p = stride_small (args.setting.variables - args.variable) c.requires.sizes (omega arith) in
    (c.requires.sizes.some, omega arith)

pub labelled-requires : goal.labelled-requires
labelled-requires c =
    let args = c.args in
    let p = pow_some args.setting.states (args.setting.variables - args.variable) c.requires.sizes.some in
    let period = once_through (args.setting.variables - args.variable) c.requires.sizes
    (omega (arith, c.requires.some, c.requires.bound)) in (
      c.requires.letter,
      c.requires.sizes.some,
      c.requires.sizes.states,
      omega arith,
      omega (arith, period, ap (λ (x : ℕ). args.setting.states * x) (c.scaled-stride.ensures ∙ one-mul _)),
      c.requires.sizes.few,
      c.requires.room,
    )

pub returns : goal.returns
returns c =
    let args = c.args in
    let v = args.variable in
    let one : suc (v - 1) ≡ v = omega (arith, c.requires.some) in
    record {
      each = λ chain labels.
          subst (λ (i : ℕ). Layer args.setting.states args.setting.variables (truth (has_label chain args.l i))
          c.labelled.new.work) one
          (labelled_layer c.requires.sizes.whole chain args.masks.now args.l (v - 1)
          c.scaled-stride.result
          c.requires.sizes.some (omega (arith, c.requires.some, c.requires.bound))
          (c.scaled-stride.ensures ∙ one-mul _ ∙
          ap (λ (i : ℕ). args.setting.states ^ (args.setting.variables - i)) (sym one))
          labels c.labelled.ensures);
    }
