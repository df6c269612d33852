-- The work area after an answer.
use Prim.Native.Nat.{ℕ, ◌+◌, ◌-◌, ◌≤◌, ◌<◌}
use mathlib.Core.Bool.{Bool}
use mathlib.Core.List.{List, ◌++◌}
use mathlib.Core.Path.{◌≡◌, sym, ap, ap₂, ◌∙◌}
use native.Mathlib.Omega.{arith}
use lib.ListN.{length, get_or, take, drop, replicate, take-append-drop, length-replicate, get_or-replicate, length-append, length-drop}
use lib.ListN.{get_or-append}
use lib.Seq.{ext_get_or, get_or-take, get_or-drop, get_or-append-add, length-take-le, drop-append_seam}
use Rattle.model.specs.Layout.{fields_of}
use Rattle.layers.specs.Layers.{WrittenFront}
use Rattle.trees.proofs.Once.{sentence_once}
use Rattle.chain.specs.Of.{chain_of}
use Rattle.question.specs.Contract.{SentenceOf, area_needed, needed, cleared}

-- the area that was lent of it is as long as before, and so is the whole
pub back_long : {n : ℕ} (w area : List ℕ) → n ≤ length w → length area ≡ n → length (area ++ drop n w) ≡ length w
back_long {n} w area room long = length-append area (drop n w) ∙ let d = length-drop n w in omega (arith, d, long, room)

-- the first n numbers were used, as `area`, and then set to zero
pub cleared_so : {n : ℕ} {after : List ℕ} (w area : List ℕ) → n ≤ length w → length area ≡ n
    → WrittenFront n (λ k. 0) (area ++ drop n w) after →
    after ≡ cleared n w
unfolding cleared
cleared_so {n} {after} w area room long zeros =
    sym (take-append-drop n after) ∙ ap₂ (λ (x y : List ℕ). x ++ y) front back
  where
    enough : n ≤ length after
    enough = let e = zeros.kept.long in let f = back_long w area room long in omega (arith, e, f, room)

    front : take n after ≡ replicate n 0
    front = ext_get_or 0 (take n after) (replicate n 0) (length-take-le n after enough ∙ sym (length-replicate n 0)) each
      where
        each : (i : ℕ) → i < length (take n after) → get_or (take n after) i 0 ≡ get_or (replicate n 0) i 0
        each i h =
            let l = length-take-le n after enough in
            let u : i < n = omega (arith, h, l) in
            get_or-take n after i 0 u ∙ zeros.each i u ∙ sym (get_or-replicate n i 0 0 u)

    back : drop n after ≡ drop n w
    back = zeros.kept.rest ∙ ap (λ (k : ℕ). drop k (area ++ drop n w)) (sym long) ∙ drop-append_seam area (drop n w)

-- it is the same for whichever sentence of the text
pub cleared_once : (file before : List ℕ) {text after : List ℕ} (s t : SentenceOf text) → after ≡ cleared (needed file s) before →
    after ≡ cleared (needed file t) before
cleared_once file before s t e =
    e ∙
    ap (λ (ps : List Bool). cleared (area_needed (chain_of (fields_of file)) (length ps)) before)
    (sentence_once s.body t.body s.spelled t.spelled).0

-- what stands in a cleared area: zeros, then what stood there, as many numbers as before
module _ {n : ℕ} (w : List ℕ) where
  pub cleared_zero : {k : ℕ} → k < n → get_or (cleared n w) k 0 ≡ 0
  unfolding cleared
  cleared_zero {k} h =
      let long = length-replicate {A = ℕ} n 0 in
      get_or-append (replicate n 0) (drop n w) 0 k (omega (arith, long, h)) ∙ get_or-replicate n k 0 0 h

  pub cleared_rest : {k : ℕ} → n ≤ k → get_or (cleared n w) k 0 ≡ get_or w k 0
  unfolding cleared
  cleared_rest {k} h =
      let long = length-replicate {A = ℕ} n 0 in
      let past : k ≡ length {A = ℕ} (replicate n 0) + (k - n) = omega (arith, long, h) in
      let whole : n + (k - n) ≡ k = omega (arith, h) in
      ap (λ (i : ℕ). get_or (replicate n 0 ++ drop n w) i 0) past ∙
      get_or-append-add (replicate n 0) (drop n w) (k - n) 0 ∙
      get_or-drop n w (k - n) 0 ∙
      ap (λ (i : ℕ). get_or w i 0) whole

  pub cleared_long : n ≤ length w → length (cleared n w) ≡ length w
  unfolding cleared
  cleared_long room = back_long w (replicate n 0) room (length-replicate n 0)
