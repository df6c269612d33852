-- Working: what the functions of this crate promise one another. Nothing here has to be believed.
use Rattle.std.specs.Prelude.{ℕ, min, ◌+◌}
use Rattle.meaning.specs.Size.{size_limit}

-- the number itself up to 2^62, and 2^62 + 1 above
unfoldable pub capped : ℕ → ℕ
capped x = min x (size_limit + 1)
