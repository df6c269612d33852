-- What the setting gives: layers over the chain's states are layers over the setting's, and there are T tuples of them.
use Prim.Native.Nat.{ℕ, ◌^◌}
use mathlib.Core.List.{List}
use mathlib.Core.Path.{◌≡◌, sym, ap, subst, ◌∙◌}
use Rattle.meaning.specs.Chain.{Chain, Tuple}
use Rattle.layers.specs.Layers.{Layer}
use Rattle.layers.specs.declared.Setting.{Setting}
use Rattle.evaluate.specs.Evaluation.{Fixed}

module _ {c : Chain} {masks : List ℕ} {rows : List (List ℕ)} {g : Setting} (fixed : Fixed c masks rows g) where
  -- a layer over the setting's states is one over the chain's
  pub to_chain : {n : ℕ} {f : Tuple → ℕ} {w : List ℕ} → Layer g.states n f w → Layer c.N n f w
  to_chain {n} {f} {w} h = subst (λ (N : ℕ). Layer N n f w) (sym fixed.held.states) h

  -- and the other way
  pub to_setting : {n : ℕ} {f : Tuple → ℕ} {w : List ℕ} → Layer c.N n f w → Layer g.states n f w
  to_setting {n} {f} {w} h = subst (λ (N : ℕ). Layer N n f w) fixed.held.states h

  -- T is N^n
  pub tuple_count_power : g.tuples ≡ c.N ^ g.variables
  tuple_count_power = fixed.sizes.whole ∙ ap (λ (N : ℕ). N ^ g.variables) (sym fixed.held.states)
