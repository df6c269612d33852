-- The number of a call whose rows are those of another call and then its own.
use Prim.Native.Nat.{ℕ, ◌<◌}
use mathlib.Core.Bool.{Bool, true, false}
use mathlib.Core.List.{List, [], ◌∷◌, ◌++◌}
use mathlib.Core.Path.{◌≡◌, refl}
use native.Mathlib.Omega.{arith}
use Rattle.refusal.specs.Rows.{Row, or_else, first, Ascending, none, more}

-- where one of the first rows applies, its number is given
pub joined_refused : (rows own : List Row) (k : ℕ) → 0 < k → first rows ≡ k → first (rows ++ own) ≡ k
unfolding first
joined_refused [] own k some e = absurd (omega arith)
joined_refused (r ∷ rows) own k some e = look r.applies e (joined_refused rows own k some)
  where
    look : (b : Bool) → or_else b r.number (first rows) ≡ k → (first rows ≡ k → first (rows ++ own) ≡ k) →
        or_else b r.number (first (rows ++ own)) ≡ k
    look true e later = e
    look false e later = later e

-- where none of them applies, the call's own rows give the number
pub joined_accepted : {low : ℕ} {rows : List Row} → Ascending low rows → (own : List Row) → first rows ≡ 0 →
    first (rows ++ own) ≡ first own
unfolding first
joined_accepted none own e = refl
joined_accepted (more {r = r} {rows = rows} h t) own e = look r.applies e (joined_accepted t own)
  where
    look : (b : Bool) → or_else b r.number (first rows) ≡ 0 → (first rows ≡ 0 → first (rows ++ own) ≡ first own) →
        or_else b r.number (first (rows ++ own)) ≡ first own
    look true e later = absurd (omega arith)
    look false e later = later e
