-- A question to which no row applies: what its tuple is, and that there is one sentence of its text.
use Prim.Native.Nat.{ℕ}
use mathlib.Core.Bool.{Bool, true, false}
use mathlib.Core.List.{List}
use mathlib.Core.Path.{◌≡◌, refl, subst}
use borrow.Author.Tests.{eqb-true, eqb-false, lt-ltb}
use lib.Dec.{eqb}
use lib.ListN.{length}
use Rattle.counting.proofs.Laws.{and_true}
use Rattle.model.specs.Layout.{fields_of}
use Rattle.meaning.specs.Lists.{every, nothing, further}
use Rattle.meaning.specs.Chain.{Inside}
use Rattle.trees.proofs.Once.{sentence_once}
use Rattle.paths.specs.Tuples.{members_below}
use Rattle.paths.proofs.Members.{members_inside}
use Rattle.question.specs.Contract.{SentenceOf}
use Rattle.numerator.specs.Contract.{AskedRow, long, member}

-- a text has one sentence
pub one_sentence : {text : List ℕ} (s t : SentenceOf text) → (s.prefix ≡ t.prefix) × (s.body ≡ t.body)
one_sentence s t = sentence_once s.body t.body s.spelled t.spelled

-- a tuple of states has its members below N
pub inside_members : {N n : ℕ} {s : List ℕ} → Inside N n s → members_below N s ≡ true
unfolding every
inside_members nothing = refl
inside_members {N} (further {x = x} less rest) = and_true (lt-ltb x N less) (inside_members rest)

module _ {file text tuple : List ℕ} {path : ℕ} (none : (n : ℕ) → AskedRow file text tuple path n → ⊥) where
  -- the tuple's members are below N
  pub members : members_below (fields_of file).n tuple ≡ true
  members = by (members_below (fields_of file).n tuple) refl
    where
      by : (t : Bool) → members_below (fields_of file).n tuple ≡ t → t ≡ true
      by true e = refl
      by false e = absurd (none 15 (member e))

  -- and it has a member for each letter
  pub as_long : (s : SentenceOf text) → length tuple ≡ length s.prefix
  as_long s = by (eqb (length tuple) (length s.prefix)) refl
    where
      by : (t : Bool) → eqb (length tuple) (length s.prefix) ≡ t → length tuple ≡ length s.prefix
      by true e = eqb-true _ _ e
      by false e = absurd (none 15 (long s (eqb-false _ _ e)))

  -- so it is a tuple of n states
  pub tuple_inside : (s : SentenceOf text) → Inside (fields_of file).n (length s.prefix) tuple
  tuple_inside s = subst (λ (n : ℕ). Inside (fields_of file).n n tuple) (as_long s) (members_inside (fields_of file).n tuple members)
