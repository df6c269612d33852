-- The tests of a node's kind and of its text say what the grammar says. Assumes nothing.
use Prim.Native.Nat.{ℕ, ◌≤◌, ◌<◌}
use mathlib.Core.Bool.{true, ◌&&◌, true≢false}
use mathlib.Core.Path.{◌≡◌, refl, sym}
use borrow.Author.Tests.{lt-ltb, le-leb, ltb-true, leb-true}
use lib.Dec.{ltb, leb}
use Rattle.counting.proofs.Laws.{left_of, right_of}
use Rattle.sentence.specs.Grammar.{Writable}
use Rattle.sentence.specs.Working.{same_kind}
use Rattle.sentence.specs.declared.Kind.{Kind}
use Rattle.sentence.specs.declared.Kind.TheVariants.{State, Expression, Path}
use Rattle.sentence.specs.declared.Node.TheVariants.{Label}

pub same_refl : (k : Kind) → same_kind k k ≡ true
same_refl State = refl
same_refl Expression = refl
same_refl Path = refl

pub same_eq : (a b : Kind) → same_kind a b ≡ true → a ≡ b
same_eq State State e = refl
same_eq State Expression e = absurd (true≢false (sym e))
same_eq State Path e = absurd (true≢false (sym e))
same_eq Expression State e = absurd (true≢false (sym e))
same_eq Expression Expression e = refl
same_eq Expression Path e = absurd (true≢false (sym e))
same_eq Path State e = absurd (true≢false (sym e))
same_eq Path Expression e = absurd (true≢false (sym e))
same_eq Path Path e = refl

-- a label has a text exactly if its letter is one of `a`..`p` and its digit one of 1..4
pub label_written : (l v : ℕ) → Writable (Label l v) → (l < 16) × (1 ≤ v) × (v ≤ 4)
label_written l v e =
    let ab : (ltb l 16 && leb 1 v) ≡ true = left_of (ltb l 16 && leb 1 v) (leb v 4) e in (
      ltb-true l 16 (left_of (ltb l 16) (leb 1 v) ab),
      leb-true 1 v (right_of (ltb l 16) (leb 1 v) ab),
      leb-true v 4 (right_of (ltb l 16 && leb 1 v) (leb v 4) e),
    )

pub label_writable : (l v : ℕ) → l < 16 → 1 ≤ v → v ≤ 4 → Writable (Label l v)
label_writable l v a b c = rw (lt-ltb l 16 a, le-leb 1 v b, le-leb v 4 c) refl

-- a constant and an until have a text exactly if their numbers have at most five digits
pub numbers_written : (a b : ℕ) → (ltb a 100000 && ltb b 100000) ≡ true → (a < 100000) × (b < 100000)
numbers_written a b e =
    (ltb-true a 100000 (left_of (ltb a 100000) (ltb b 100000) e), ltb-true b 100000 (right_of (ltb a 100000) (ltb b 100000) e))

pub numbers_writable : (a b : ℕ) → a < 100000 → b < 100000 → (ltb a 100000 && ltb b 100000) ≡ true
numbers_writable a b la lb = rw (lt-ltb a 100000 la, lt-ltb b 100000 lb) refl
