-- Working: what the functions of this crate promise one another. Nothing here has to be believed.
--
-- The path that stands at the places at..end, from the truth of its formulas.
use Rattle.std.specs.Prelude.{ℕ, ◌*◌, ◌^◌, ◌≤◌, List, ◌≡◌, take}
use Rattle.sentence.specs.declared.Node.{Node}
use Rattle.meaning.specs.Named.{Some, count}
use Rattle.meaning.specs.Size.{size_limit}
use Rattle.steps.specs.Steps.{StepFits, Stepped}
use Rattle.untils.specs.Untils.{UntilFits, UntilRepeated}
use Rattle.names.specs.Names.{names_between}
use Rattle.layers.specs.declared.Setting.{Setting}

-- the variables that step: those that its nodes name
abbrev pub named_at : List Node → Setting → (at end : ℕ) → Some
named_at nodes g at end = take g.variables (names_between nodes at end)

module _ (nodes : List Node) (g : Setting) (rows : List (List ℕ)) where
  -- what a next asks: its denominator is at most 2^62
  pub record NextFits (at end : ℕ) (w : List ℕ) : Type 0 where
    pub forward : at ≤ end
    pub within : end ≤ 64
    pub weighed : 1 ≤ g.d
    pub step : StepFits rows g.states g.variables (named_at nodes g at end) g.tuples w
    pub fits : g.d ^ count (named_at nodes g at end) ≤ size_limit

  -- what it leaves and returns
  pub record NextTaken (at end : ℕ) (before after : List ℕ) (r : ℕ) : Type 0 where
    pub stepped : Stepped rows g.states g.variables (named_at nodes g at end) g.tuples before after
    pub bottom : r ≡ g.d ^ count (named_at nodes g at end)

  -- the same of until
  pub record WindowFits (k1 k2 at end : ℕ) (w : List ℕ) : Type 0 where
    pub forward : at ≤ end
    pub within : end ≤ 64
    pub last : k2 ≤ 60
    pub until : UntilFits rows g.states g.variables (named_at nodes g at end) (count (named_at nodes g at end)) g.tuples g.d
        k1 k2 w

  pub record WindowTaken (k1 k2 at end : ℕ) (before after : List ℕ) (r : ℕ) : Type 0 where
    pub taken : UntilRepeated rows g.states g.variables (named_at nodes g at end) g.tuples g.d k1 k2 before after
    pub bottom : r ≡ g.d ^ (count (named_at nodes g at end) * k2)
