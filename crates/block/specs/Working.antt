-- Working: what the functions of this crate promise one another. Nothing here has to be believed.
use Rattle.std.specs.Prelude.{ℕ, ◌+◌, ◌≡◌}
use Rattle.block.specs.declared.Totals.{Totals}

-- the totals t have grown to r: the first by the byte b, the second by the first
pub record Grown (t : Totals) (b : ℕ) (r : Totals) : Type 0 where
  pub plain : r.plain ≡ t.plain + b
  pub weighed : r.weighed ≡ t.weighed + (t.plain + b)
