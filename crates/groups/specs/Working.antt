-- Working: what the functions of this crate promise one another. Nothing here has to be believed.
--
-- Names for the contracts of merge's parts.
use Rattle.std.specs.Prelude.{ℕ, ◌<◌, ◌≤◌, Option, Some, None, Bool, cond, ◌&&◌, List, [], ◌≡◌, ltb, eqb, length, get_or}
use Rattle.counting.specs.Below.{every_below, table}
use Rattle.groups.specs.Groups.{member_of}

-- r is the first number below n at which f is g, and n where there is none
pub record FirstMember (f : ℕ → ℕ) (g n r : ℕ) : Type 0 where
  pub within : r ≤ n
  pub before : (k : ℕ) → k < r → f k ≡ g → ⊥
  pub found : r < n → f r ≡ g

-- the same, where 'none' is said by itself
abbrev pub FirstIn : (ℕ → ℕ) → (g n : ℕ) → Option ℕ → Type 0
FirstIn f g n None = (k : ℕ) → k < n → f k ≡ g → ⊥
FirstIn f g n (Some r) = (r < n) × FirstMember f g n r

-- two states agree in their masks and in the first columns of their totals
abbrev pub pair_alike : List ℕ → List (List ℕ) → ℕ → ℕ → ℕ → Bool
pair_alike masks totals count s t =
    eqb (get_or masks s 0) (get_or masks t 0) && every_below count
    (λ h. eqb (get_or (get_or totals s []) h 0) (get_or (get_or totals t []) h 0))

-- the masks of the groups below a count, and 0 from it on
abbrev pub masks_of_groups : List ℕ → List ℕ → ℕ → List ℕ
masks_of_groups masks grouping count =
    table 32 (λ g. cond (ltb g count) (get_or masks (member_of (length grouping) grouping g) 0) 0)

-- the totals of the groups below a count, and zeros from it on
abbrev pub rows_of_groups : List (List ℕ) → List ℕ → ℕ → List (List ℕ)
rows_of_groups totals grouping count =
    table 32 (λ g. cond (ltb g count) (get_or totals (member_of (length grouping) grouping g) []) (table 32 (λ h. 0)))
