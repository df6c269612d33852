-- A tail of the work area is lent, `&mut work[a..]`, and comes back: what lies before it has stayed.
use Prim.Native.Nat.{ℕ, ◌+◌, ◌-◌, ◌≤◌, ◌<◌}
use mathlib.Core.List.{List, ◌++◌, append-nil}
use mathlib.Core.Path.{◌≡◌, sym, ap, ◌∙◌}
use native.Mathlib.Nat.{le_of_eq}
use native.Mathlib.Omega.{arith}
use lib.ListN.{length, get_or, take, drop, length-drop, get_or-append}
use lib.Seq.{take_all, drop_at, get_or-take, get_or-drop, length-take-le, drop-length, drop-drop}
use borrow.Rule.Slice.PartMut.{same_len_mid}

-- what is lent is the tail
pub lent_tail : {A : Type 0} (a : ℕ) (w : List A) → take (length w - a) (drop a w) ≡ drop a w
lent_tail a w = take_all (length w - a) (drop a w) (le_of_eq (length-drop a w))

-- `after` is `before` with another tail from a on
pub record Back (a : ℕ) (before lent after : List ℕ) : Type 0 where
  pub long : length after ≡ length before
  pub low : (k : ℕ) → k < a → get_or after k 0 ≡ get_or before k 0
  pub tail : drop a after ≡ lent

-- a number of the tail, in the whole
pub back_at : {a : ℕ} {before lent after : List ℕ} → Back a before lent after → (k : ℕ) →
    get_or after (a + k) 0 ≡ get_or lent k 0
back_at {a} {after = after} b k = sym (get_or-drop a after k 0) ∙ ap (λ (l : List ℕ). get_or l k 0) b.tail

-- the list as the lender has it again
pub put_back : (a : ℕ) (w lent : List ℕ) → a ≤ length w → length lent ≡ length (take (length w - a) (drop a w)) →
    Back a w lent (take a w ++ (lent ++ drop (length w - a) (drop a w)))
put_back a w lent room long = record {
  long = same_len_mid a (length w - a) w lent long;
  low = λ k l.
      get_or-append (take a w) (lent ++ drop (length w - a) (drop a w)) 0 k (omega (arith, first)) ∙
      get_or-take a w k 0 l;
  tail = drop_at (take a w) (lent ++ drop (length w - a) (drop a w)) a first ∙
      ap (λ (l : List ℕ). lent ++ l) (drop-drop (length w - a) a w ∙ ap (λ (x : ℕ). drop x w) whole ∙ drop-length w) ∙
      append-nil lent;
}
  where
    first : length (take a w) ≡ a
    first = length-take-le a w room

    whole : a + (length w - a) ≡ length w
    whole = omega arith
