-- What `read` of a prefix answers, by the letters and the dot. Assumes nothing.
use Prim.Native.Nat.{ℕ, ◌+◌, ◌≤◌, ◌<◌}
use mathlib.Core.Bool.{Bool}
use mathlib.Core.List.{List, [], ◌∷◌, tail}
use mathlib.Core.Path.{◌≡◌, refl, sym, ap, ◌∙◌, subst}
use mathlib.Core.Logic.{◌⊎◌, inl, inr}
use lib.Dec.{eqb}
use native.Mathlib.Numerals.{add-one}
use native.Mathlib.Omega.{arith}
use lib.ListN.{length, set}
use Rattle.numerals.proofs.Numbers.{first_byte}
use Rattle.std.proofs.Common.{Option, Some, None, MatchOption, Bor}
use Rattle.std.proofs.lemmas.List.Edits.{sets}
use Rattle.sentence.specs.Grammar.{letter_byte}
use Rattle.sentence.proofs.Letters.{letter_low}
use Rattle.sentence_reader.specs.Working.{one_letter, with_letters, IsPrefix, NoPrefix}
use Rattle.sentence_reader.specs.declared.Prefix.{Prefix}

-- the dot
pub dot : {t s : List ℕ} (p : Prefix) → t ≡ 46 ∷ s → 1 ≤ p.letters → p.letters ≤ 4 → IsPrefix p t p s
dot {t} {s} p e some few = record {
  letters = [];
  follows = record { some = omega arith; few = omega arith; text = e };
  same = ap (λ (n : ℕ). record { letters = n; exists = p.exists }) (omega arith);
}

-- a letter more, and what follows it
letter_moves : (p : Prefix) (x : Bool) (qs : List Bool) → with_letters (one_letter p x) qs ≡ with_letters p (x ∷ qs)
letter_moves p x qs =
    let count : p.letters + 1 + length qs ≡ p.letters + length (x ∷ qs) = omega arith in
    let kept : sets (set p.exists p.letters x) (p.letters + 1) qs ≡ sets p.exists p.letters (x ∷ qs) =
    ap (λ (i : ℕ). sets (set p.exists p.letters x) i qs) (add-one p.letters) in
    cc

letter_more : {t s : List ℕ} (p : Prefix) (x : Bool) (r : Option (Prefix × Bor (List ℕ))) → t ≡ letter_byte x ∷ s
    → MatchOption r (NoPrefix (one_letter p x) s) (λ y. IsPrefix (one_letter p x) s y.0 y.1.now)
    → MatchOption r (NoPrefix p t) (λ y. IsPrefix p t y.0 y.1.now)
letter_more {t} {s} p x (Some y) e is = record {
  letters = x ∷ is.letters;
  follows =
      record {
        some = omega (arith, is.follows.some);
        few = omega (arith, is.follows.few);
        text = e ∙ ap (λ (l : List ℕ). letter_byte x ∷ l) is.follows.text;
      };
  same = is.same ∙ letter_moves p x is.letters;
}
letter_more {t} {s} p x None e not = by
  where
    by : NoPrefix p t
    by [] rest f = omega (arith, ap first_byte (sym e ∙ f.text), letter_low x)
    by (y ∷ qs) rest f = not qs rest (
        record { some = omega (arith, f.some); few = omega (arith, f.few); text = ap tail (sym e ∙ f.text) }
        )

pub letter_on : {t s : List ℕ} {b : ℕ} (p : Prefix) {q : Prefix} (r : Option (Prefix × Bor (List ℕ))) → t ≡ b ∷ s → (b ≡ 65) ⊎ (b ≡ 69)
    → q ≡ one_letter p (eqb b 69) → MatchOption r (NoPrefix q s) (λ y. IsPrefix q s y.0 y.1.now)
    → MatchOption r (NoPrefix p t) (λ y. IsPrefix p t y.0 y.1.now)
letter_on {t} {s} {b} p r e which same m =
    letter_more p (eqb b 69) r (e ∙ ap (λ (x : ℕ). x ∷ s) (back which))
    (subst (λ (o : Prefix). MatchOption r (NoPrefix o s) (λ y. IsPrefix o s y.0 y.1.now)) same m)
  where
    back : (b ≡ 65) ⊎ (b ≡ 69) → b ≡ letter_byte (eqb b 69)
    back (inl all) = rw all refl
    back (inr some) = rw some refl

-- the byte is no dot after some letter, and none of the letters that still may come
pub no_letter : {t s : List ℕ} {b : ℕ} (p : Prefix) → t ≡ b ∷ s → (b ≡ 46 → p.letters < 1) → ((x : Bool) → b ≡ letter_byte x → 4 ≤
    p.letters)
    → NoPrefix p t
no_letter {t} {s} {b} p e no-dot no-letter [] rest f =
    omega (arith, f.some, no-dot (ap first_byte (sym e ∙ f.text)))
no_letter {t} {s} {b} p e no-dot no-letter (y ∷ qs) rest f =
    omega (arith, f.few, no-letter y (ap first_byte (sym e ∙ f.text)))
