-- The codes stand for what they were made of: 64 places (`places_back`), four letters (`letters_back`), and so a sentence that was read
-- (`record_back`).
use Prim.Native.Nat.{ℕ, zero, suc, ◌-◌, ◌≤◌, ◌<◌}
use mathlib.Core.Bool.{Bool, true, false, not, cond}
use mathlib.Core.List.{List, [], ◌∷◌, ◌++◌}
use mathlib.Core.Path.{◌≡◌, refl, sym, ap, subst, ◌∙◌}
use native.Mathlib.Omega.{arith}
use lib.Dec.{eqb}
use lib.ListN.{length, get_or, replicate, length-append, length-replicate}
use borrow.Author.Tests.{le-leb}
use Rattle.counting.proofs.Laws.{and_true, table_at, table_is}
use Rattle.sentence.proofs.Suiting.{label_written}
use Rattle.sentence.specs.Grammar.{Writable, Spells}
use Rattle.sentence.specs.Working.{AllWritable}
use Rattle.sentence.specs.Record.{record_of}
use Rattle.sentence.specs.declared.Relation.TheVariants.{Less, AtMost, Equal, AtLeast, Greater}
use Rattle.sentence.specs.declared.Node.{Node}
use Rattle.sentence.specs.declared.Node.TheVariants.{True, Label, Not, And, Compare, Probability}
use Rattle.sentence.specs.declared.Node.TheVariants.{Constant, Sum, Difference, Product, Next, Until}
use Rattle.sentence.proofs.Unique.{all_writable}
use Rattle.codes.specs.Codes.{letter_code, letter_codes, codes_of, code_of_node, no_node}
use Rattle.codes.specs.Codes.{node_of, node_of_code, places_of_codes, letters_of, sentence_of}

-- a label and a variable are bytes
abbrev pub ByteSized : Node → Type 0
ByteSized True = Unit
ByteSized (Label label variable) = (label ≤ 255) × (variable ≤ 255)
ByteSized Not = Unit
ByteSized And = Unit
ByteSized (Compare relation) = Unit
ByteSized Probability = Unit
ByteSized (Constant top bottom) = Unit
ByteSized Sum = Unit
ByteSized Difference = Unit
ByteSized Product = Unit
ByteSized Next = Unit
ByteSized (Until from to) = Unit

-- the code of a node stands for that node
pub node_back : (n : Node) → ByteSized n → node_of_code (code_of_node n) ≡ n
unfolding node_of
node_back True b = refl
node_back (Label label variable) b =
    ap (λ (t : Bool). cond t (Label label variable) no_node) (and_true (le-leb label 255 b.0) (le-leb variable 255 b.1))
node_back Not b = refl
node_back And b = refl
node_back (Compare Less) b = refl
node_back (Compare AtMost) b = refl
node_back (Compare Equal) b = refl
node_back (Compare AtLeast) b = refl
node_back (Compare Greater) b = refl
node_back Probability b = refl
node_back (Constant top bottom) b = refl
node_back Sum b = refl
node_back Difference b = refl
node_back Product b = refl
node_back Next b = refl
node_back (Until from to) b = refl

-- the codes of 64 places stand for those places
pub places_back : (nodes : List Node) → length nodes ≡ 64 → ((k : ℕ) → k < 64 → ByteSized (get_or nodes k True)) →
    places_of_codes (codes_of nodes) ≡ nodes
places_back nodes long bytes =
    sym (table_is 64 (λ i. node_of_code (get_or (codes_of nodes) i [])) True nodes long (λ k less.
    sym (node_back (get_or nodes k True) (bytes k less)) ∙
    ap node_of_code (sym (table_at 64 (λ i. code_of_node (get_or nodes i True)) [] k less))))

letter_back : (b : Bool) → not (eqb (letter_code b) 0) ≡ b
letter_back true = refl
letter_back false = refl

-- the codes of four letters stand for those letters
pub letters_back : (exists : List Bool) → length exists ≡ 4 → letters_of (letter_codes exists) ≡ exists
letters_back exists long =
    sym (table_is 4 (λ i. not (eqb (get_or (letter_codes exists) i 0) 0)) false exists long (λ k less.
    sym (letter_back (get_or exists k false)) ∙
    ap (λ (n : ℕ). not (eqb n 0)) (sym (table_at 4 (λ i. letter_code (get_or exists i false)) 0 k less))))

-- ---- a sentence that was read

-- a node that a text spells has a label and a variable of one byte
writable_bytes : (n : Node) → Writable n → ByteSized n
writable_bytes True w = tt
writable_bytes (Label label variable) w =
    let written = label_written label variable w in
    (omega (arith, written.0), omega (arith, written.2))
writable_bytes Not w = tt
writable_bytes And w = tt
writable_bytes (Compare relation) w = tt
writable_bytes Probability w = tt
writable_bytes (Constant top bottom) w = tt
writable_bytes Sum w = tt
writable_bytes Difference w = tt
writable_bytes Product w = tt
writable_bytes Next w = tt
writable_bytes (Until from to) w = tt

-- an empty place is empty wherever it stands
empty_at : (m k : ℕ) → get_or (replicate m True) k True ≡ True
empty_at zero k = refl
empty_at (suc m) zero = refl
empty_at (suc m) (suc k) = empty_at m k

-- every place of the record of such nodes
place_bytes : (ns : List Node) (m : ℕ) → AllWritable ns → (k : ℕ) → ByteSized (get_or (ns ++ replicate m True) k True)
place_bytes [] m all k = subst ByteSized (sym (empty_at m k)) tt
place_bytes (n ∷ ns) m all zero = writable_bytes n all.0
place_bytes (n ∷ ns) m all (suc k) = place_bytes ns m all.1 k

-- the codes of a sentence that was read stand for that sentence
pub record_back : {ps : List Bool} {ns : List Node} {t : List ℕ} → Spells ps ns t → length ns ≤ 64 →
    sentence_of (length ps) (length ns) (letter_codes (record_of ps ns).exists) (codes_of (record_of ps ns).nodes) ≡ record_of ps ns
unfolding record_of
record_back {ps} {ns} spells few =
    let letters : length (ps ++ replicate (4 - length ps) false) ≡ 4 =
    simp (length-append, length-replicate) (omega (arith, spells.few)) in
    let places : length (ns ++ replicate (64 - length ns) True) ≡ 64 = simp (length-append, length-replicate) (omega arith) in
    let exists = letters_back (ps ++ replicate (4 - length ps) false) letters in
    let nodes =
    places_back (ns ++ replicate (64 - length ns) True) places (λ k less. place_bytes ns (64 - length ns) (all_writable spells.nests) k) in
    λ i. record { letters = length ps; exists = exists i; count = length ns; nodes = nodes i }
