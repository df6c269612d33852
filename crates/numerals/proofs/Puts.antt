-- How writes join: one after another they are one write of the joined bytes. Assumes nothing.
use Prim.Native.Nat.{ℕ, suc, ◌+◌, ◌≤◌}
use mathlib.Core.List.{List, [], ◌∷◌, ◌++◌}
use mathlib.Core.Path.{◌≡◌, refl, sym, ap, ◌∙◌, subst}
use native.Mathlib.Omega.{arith}
use lib.ListN.{length, set, take, drop, length-append}
use lib.Seq.{sets, length-sets}
use Rattle.std.proofs.lemmas.List.{take_at, length-take-le}
use Rattle.std.proofs.lemmas.List.Edits.{sets-eq}
use Rattle.numerals.specs.Working.{Put}

sets_append : (l : List ℕ) (i : ℕ) (s u : List ℕ) → sets l i (s ++ u) ≡ sets (sets l i s) (i + length s) u
sets_append l i [] u = ap (λ (k : ℕ). sets l k u) none
  where
    none : i ≡ i + 0
    none = omega arith
sets_append l i (b ∷ s) u = sets_append (set l i b) (suc i) s u ∙ ap (λ (k : ℕ). sets (sets (set l i b) (suc i) s) k u) more
  where
    more : suc i + length s ≡ i + suc (length s)
    more = omega arith

-- one write after another
pub put_then : {out mid after : List ℕ} {at next r : ℕ} (s u : List ℕ) → Put out at s next mid → Put mid next u r after
    → Put out at (s ++ u) r after
put_then {out} {mid} {after} {at} {next} {r} s u a b =
    record {
      next = rw (length-append s u) (omega (arith, a.next, b.next));
      bytes = b.bytes ∙ ap (λ (l : List ℕ). sets l next u) a.bytes ∙ ap (λ (k : ℕ). sets (sets out at s) k u) a.next
          ∙ sym (sets_append out at s u);
    }

-- a write of nothing
pub put_nothing : (out : List ℕ) (at : ℕ) → Put out at [] at out
put_nothing out at = record { next = omega arith; bytes = refl }

-- a write leaves the output's length
pub put_length : {out after : List ℕ} {at r : ℕ} (s : List ℕ) → Put out at s r after → length after ≡ length out
put_length {out} {after} {at} s p = ap length p.bytes ∙ length-sets out at s

-- the same bytes, written in another way
pub put_as : {out after : List ℕ} {at r : ℕ} {s u : List ℕ} → s ≡ u → Put out at s r after → Put out at u r after
put_as {out} {after} {at} {r} e p = subst (λ (x : List ℕ). Put out at x r after) e p

-- after a write at the end of a text, the text goes on with what is written
pub put_taken : {out after : List ℕ} {at r : ℕ} (s : List ℕ) → Put out at s r after → at + length s ≤ length out
    → take r after ≡ take at out ++ s
put_taken {out} {after} {at} {r} s p fits =
    ap (take r) (p.bytes ∙ sets-eq s out at fits) ∙ take_at (take at out ++ s) (drop (at + length s) out) r long
  where
    long : length (take at out ++ s) ≡ r
    long = rw (length-append (take at out) s, length-take-le at out (omega arith)) (sym p.next)
