-- A text has one node at its front, one node list of given kinds, and one prefix: what is read back from a node's text is the
-- node. Assumes nothing.
use Prim.Native.Nat.{ℕ, ◌+◌, ◌-◌, ◌<◌}
use mathlib.Core.Bool.{cond}
use mathlib.Core.List.{List, [], ◌∷◌, ◌++◌, tail, append_assoc}
use mathlib.Core.Logic.{inl, inr}
use mathlib.Core.Path.{◌≡◌, refl, sym, ap, ◌∙◌, subst}
use native.Mathlib.Omega.{arith}
use borrow.Author.Tests.{le-leb}
use lib.Dec.{leb, eqb}
use Rattle.numerals.specs.Numeral.{number_text}
use Rattle.sentence.specs.Grammar.{node_text, Writable, wants, Nests, body_text}
use Rattle.sentence.specs.Grammar.Nests.{end, node}
use Rattle.numerals.specs.Working.{NoDigit}
use Rattle.sentence.specs.Working.{AllWritable}
use Rattle.sentence.specs.declared.Kind.{Kind}
use Rattle.sentence.specs.declared.Relation.TheVariants.{Less, AtMost, Equal, AtLeast, Greater}
use Rattle.sentence.specs.declared.Node.{Node}
use Rattle.sentence.specs.declared.Node.TheVariants.{True, Label, Not, And, Compare, Probability, Constant, Sum, Difference, Product}
use Rattle.sentence.specs.declared.Node.TheVariants.{Next, Until}
use Rattle.numerals.proofs.Numbers.{first_byte, scan, scan_number, scan_other}
use Rattle.sentence.proofs.Suiting.{numbers_written}

-- the node of an operator's byte; of another byte it means nothing
abbrev operator_node : ℕ → Node
operator_node b =
    cond (eqb b 84) True
    (cond (eqb b 33) Not
    (cond (eqb b 38) And
    (cond (eqb b 60) (Compare Less)
    (cond (eqb b 76) (Compare AtMost)
    (cond (eqb b 61) (Compare Equal)
    (cond (eqb b 71) (Compare AtLeast)
    (cond (eqb b 62) (Compare Greater)
    (cond (eqb b 80) Probability
    (cond (eqb b 43) Sum
    (cond (eqb b 45) Difference
    (cond (eqb b 42) Product
    Next)))))))))))

-- the two numbers at the front of a text, each with a byte after it, and the text after them
abbrev pub two_numbers : (ℕ → ℕ → Node) → List ℕ → Node × List ℕ
two_numbers make t = (make (scan 0 t).0 (scan 0 (tail (scan 0 t).1)).0, tail (scan 0 (tail (scan 0 t).1)).1)

-- the node at the front of a text, by its first byte, and the text after it
unfoldable pub decode : List ℕ → Node × List ℕ
decode [] = (True, [])
decode (b ∷ t) =
    cond (leb 97 b) (Label (b - 97) (first_byte t - 48), tail t)
    (cond (eqb b 35) (two_numbers Constant t)
    (cond (eqb b 85) (two_numbers Until t)
    (operator_node b, t)))

-- two numbers are read back
two_numbers_read : (make : ℕ → ℕ → Node) (a b c d : ℕ) (s : List ℕ) → a < 100000 → b < 100000 → NoDigit c → NoDigit d
    → two_numbers make ((number_text a ++ c ∷ (number_text b ++ d ∷ [])) ++ s) ≡ (make a b, s)
two_numbers_read make a b c d s la lb nc nd =
    rw (append_assoc (number_text a) (c ∷ (number_text b ++ d ∷ [])) s, one, append_assoc (number_text b) (d ∷ []) s, two) refl
  where
    one : scan 0 (number_text a ++ c ∷ ((number_text b ++ d ∷ []) ++ s)) ≡ (a, c ∷ ((number_text b ++ d ∷ []) ++ s))
    one = scan_number a (c ∷ ((number_text b ++ d ∷ []) ++ s)) la ∙ scan_other a c ((number_text b ++ d ∷ []) ++ s) nc

    two : scan 0 (number_text b ++ d ∷ s) ≡ (b, d ∷ s)
    two = scan_number b (d ∷ s) lb ∙ scan_other b d s nd

-- a node's text is read back as the node
pub decoded : (n : Node) (s : List ℕ) → Writable n → decode (node_text n ++ s) ≡ (n, s)
unfolding decode
decoded True s w = refl
decoded (Label l v) s w =
    let e : 97 + l - 97 ≡ l = omega arith in
    let f : 48 + v - 48 ≡ v = omega arith in
    rw (le-leb 97 (97 + l) (omega arith), e, f) refl
decoded Not s w = refl
decoded And s w = refl
decoded (Compare Less) s w = refl
decoded (Compare AtMost) s w = refl
decoded (Compare Equal) s w = refl
decoded (Compare AtLeast) s w = refl
decoded (Compare Greater) s w = refl
decoded Probability s w = refl
decoded (Constant a b) s w =
    two_numbers_read Constant a b 47 59 s (numbers_written a b w).0 (numbers_written a b w).1 (inl (omega arith)) (inr (omega arith))
decoded Sum s w = refl
decoded Difference s w = refl
decoded Product s w = refl
decoded Next s w = refl
decoded (Until a b) s w =
    two_numbers_read Until a b 44 58 s (numbers_written a b w).0 (numbers_written a b w).1 (inl (omega arith)) (inr (omega arith))

-- a text has one node at its front
pub one_node : {n m : Node} (r s : List ℕ) → Writable n → Writable m → node_text n ++ r ≡ node_text m ++ s → (n ≡ m) × (r ≡ s)
one_node {n} {m} r s wn wm same =
    let e : ◌≡◌ {A = Node × List ℕ} (n, r) (m, s) = sym (decoded n r wn) ∙ ap decode same ∙ decoded m s wm in
    (ap (λ (x : Node × List ℕ). x.0) e, ap (λ (x : Node × List ℕ). x.1) e)

-- the text of two lists
pub body_append : (ms ns : List Node) → body_text (ms ++ ns) ≡ body_text ms ++ body_text ns
body_append [] ns = refl
body_append (m ∷ ms) ns = rw (body_append ms ns) (sym (append_assoc (node_text m) (body_text ms) (body_text ns)))

-- two lists one after the other
pub join : {js : List Kind} {ms : List Node} (ks : List Kind) {ns : List Node} → Nests js ms → Nests ks ns → Nests (js ++ ks) (ms ++ ns)
join ks end b = b
join ks (node w e a) b = node w e (rw append_assoc at (join ks a b))

-- a nesting list has a text for each node
pub all_writable : {ks : List Kind} {ns : List Node} → Nests ks ns → AllWritable ns
all_writable end = tt
all_writable (node w e n) = (w, all_writable n)

-- what is left of a list of the kinds js and ks, after a list of the kinds js at the same text's front
pub record Peeled (ks : List Kind) (ms ns : List Node) (r s : List ℕ) : Type 0 where
  pub rest : List Node
  pub split : ns ≡ ms ++ rest
  pub nests : Nests ks rest
  pub text : r ≡ body_text rest ++ s

-- one node of it
peel_node : (n : Node) (k : Kind) (js : List Kind) (ms : List Node) (ks : List Kind) (ns : List Node) (r s : List ℕ) → Writable n
    → ((ns' : List Node) → Nests ((wants n ++ js) ++ ks) ns' → body_text ms ++ r ≡ body_text ns' ++ s → Peeled ks ms ns' r s)
    → Nests (k ∷ (js ++ ks)) ns → body_text (n ∷ ms) ++ r ≡ body_text ns ++ s → Peeled ks (n ∷ ms) ns r s
peel_node n k js ms ks ns r s w ih (node {n = m} {ns = ns'} wm e a) same =
    let one : (n ≡ m) × (body_text ms ++ r ≡ body_text ns' ++ s) =
    one_node (body_text ms ++ r) (body_text ns' ++ s) w wm
    (sym (append_assoc (node_text n) (body_text ms) r) ∙ same ∙ append_assoc (node_text m) (body_text ns') s) in
    let p : Peeled ks ms ns' r s =
    ih ns' (rw append_assoc (subst (λ (x : Node). Nests (wants x ++ (js ++ ks)) ns') (sym one.0) a)) one.1 in
    record { rest = p.rest; split = cc (one.0, p.split); nests = p.nests; text = p.text }

pub peel : {js : List Kind} {ms : List Node} (ks : List Kind) (ns : List Node) (r s : List ℕ) → Nests js ms → Nests (js ++ ks) ns
    → body_text ms ++ r ≡ body_text ns ++ s → Peeled ks ms ns r s
peel ks ns r s end b same = record { rest = ns; split = refl; nests = b; text = same }
peel ks ns r s (node {n = n} {k = k} {ks = js} {ns = ms} w e a) b same =
    peel_node n k js ms ks ns r s w (λ ns' b' same'. peel ks ns' r s a b' same') b same
