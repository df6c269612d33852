-- `text::without_newline` meets its contract. Assumes nothing.
use Prim.Native.Nat.{ℕ, suc, ◌+◌, ◌-◌, ◌≤◌}
use mathlib.Core.Bool.{true, false}
use mathlib.Core.List.{List, [], ◌∷◌}
use mathlib.Core.Path.{◌≡◌, refl, sym, ap, ◌∙◌}
use native.Mathlib.Omega.{arith}
use denote.Ref.{Bor}
use lib.Dec.{eqb}
use lib.ListN.{length, get_or, take, drop, drop_of_length-le}
use lib.Pointwise.{pointwise}
use lib.Seq.{drop-cons}
use Rattle.std.specs.Prelude.{Option, Some, None, MatchOption, nat_eq}
use Rattle.std.specs.Option.{unwrap_or}
use Rattle.std.proofs.Math.Bool.{and-true}
use Rattle.lines.specs.Texts.{without_newline}
use Rattle.lines.proofs.text.without_newline.Goals as goal

-- the end of a file is a newline where its last byte is one
last_tested : (s : List ℕ) → pointwise nat_eq (drop (length s - 1) s) (10 ∷ []) ≡ eqb (get_or s (length s - 1) 0) 10
last_tested [] = refl
last_tested (b ∷ t) =
    ap (λ (l : List ℕ). pointwise nat_eq l (10 ∷ [])) (drop-cons s last 0 (omega arith) ∙ ap (λ (l : List ℕ). get_or s last 0 ∷ l) none) ∙
    and-true (eqb (get_or s last 0) 10)
  where
    s : List ℕ
    s = b ∷ t

    last : ℕ
    last = length s - 1

    none : drop (suc last) s ≡ []
    none = let over : length s ≤ suc last = omega arith in drop_of_length-le s over

-- a newline at the end goes, and any other end stays
stripped : (file : Bor (List ℕ)) (r : Option (Bor (List ℕ))) →
    MatchOption r (pointwise nat_eq (drop (length file.now - 1) file.now) (10 ∷ []) ≡ false)
    (λ x. (pointwise nat_eq (drop (length file.now - 1) file.now) (10 ∷ []) ≡ true) × (x.now ≡ take (length file.now - 1) file.now) ×
    (length x.now + 1 ≡ length file.now)) →
    (unwrap_or r file).now ≡ without_newline file.now
unfolding without_newline
stripped file None other = rw (sym (last_tested file.now) ∙ other) refl
stripped file (Some rest) (newline, kept, count) = kept ∙ rw (sym (last_tested file.now) ∙ newline) refl

pub returns : goal.returns
returns c = ap (λ (r : Bor (List ℕ)). r.now) c.unwrap_or.ensures ∙ stripped c.args.file _ c.strip_suffix.ensures.cases
