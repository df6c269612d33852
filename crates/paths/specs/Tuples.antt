-- Which tuples the numerator call takes: document 01, refusal 15.
use Rattle.std.specs.Prelude.{ℕ, Bool, ◌&&◌, List, eqb, ltb, length}
use Rattle.meaning.specs.Lists.{every}

-- every member is below N
abbrev pub members_below : ℕ → List ℕ → Bool
members_below N s = every (λ x. ltb x N) s

-- the tuple's length is n, and every member is below N
abbrev pub tuple_right : (n N : ℕ) → List ℕ → Bool
tuple_right n N s = eqb (length s) n && members_below N s
