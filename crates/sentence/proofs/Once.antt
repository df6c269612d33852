-- A text is spelled by at most one prefix and node list. Assumes nothing.
use mathlib.Core.Bool.{Bool}
use mathlib.Core.List.{List, [], ◌∷◌, ◌++◌, map, append_assoc, append-nil}
use mathlib.Core.Path.{◌≡◌, refl, sym, ap, ◌∙◌}
use Prim.Native.Nat.{ℕ}
use Rattle.sentence.specs.Grammar.{letter_byte, body_text, Spells, Nests}
use Rattle.sentence.specs.Grammar.Nests.{end}
use Rattle.sentence.specs.declared.Node.{Node}
use Rattle.sentence.proofs.Unique.{Peeled, peel}
use Rattle.sentence.proofs.Letters.{one_prefix}

-- nothing is wanted, and there is no node
pub no_nodes : {ns : List Node} → Nests [] ns → ns ≡ []
no_nodes end = refl

-- a sentence's text is its letters, the dot and the body
pub spelled_text : {ps : List Bool} {ns : List Node} {t : List ℕ} → Spells ps ns t → t ≡ map letter_byte ps ++ 46 ∷ body_text ns
spelled_text {ps} {ns} {t} s = s.text ∙ append_assoc (map letter_byte ps) (46 ∷ []) (body_text ns)

pub spelled_once : {ps qs : List Bool} {ns ms : List Node} {t : List ℕ} → Spells ps ns t → Spells qs ms t → (ps ≡ qs) × (ns ≡ ms)
spelled_once {ps} {qs} {ns} {ms} {t} a b =
    let one : (ps ≡ qs) × (body_text ns ≡ body_text ms) =
    one_prefix ps qs (body_text ns) (body_text ms) (sym (spelled_text a) ∙ spelled_text b) in
    let p : Peeled [] ns ms [] [] = peel [] ms [] [] a.nests b.nests (ap (λ (s : List ℕ). s ++ []) one.1) in
    (one.0, sym (p.split ∙ ap (λ (l : List Node). ns ++ l) (no_nodes p.nests) ∙ append-nil ns))
