-- How the results of reading join: one thing after another, a node and what it wants. Assumes nothing.
use Prim.Native.Nat.{ℕ, ◌+◌, ◌≤◌}
use mathlib.Core.List.{List, [], ◌∷◌, ◌++◌, append_assoc, append-nil}
use mathlib.Core.Path.{◌≡◌, refl, sym, ap, ◌∙◌, subst}
use native.Mathlib.Omega.{arith}
use lib.ListN.{length, length-append}
use Rattle.std.proofs.Common.{Option, Some, None, MatchOption, Bor}
use Rattle.sentence.specs.Grammar.{node_text, kind_of, wants_of, wanted, wants, Nests, body_text}
use Rattle.sentence.specs.declared.Wants.{Wants}
use Rattle.sentence.specs.declared.Wants.TheVariants.{Nothing}
use Rattle.sentence.specs.Grammar.Nests.{end, node}
use Rattle.sentence_scan.specs.Working.{keep, keep_all, IsNode, Stuck, Reads}
use Rattle.sentence.specs.declared.Kind.{Kind}
use Rattle.sentence.specs.declared.Node.{Node}
use Rattle.sentence.specs.declared.Node.TheVariants.{True, Label, Not, And, Compare, Probability, Constant, Sum, Difference, Product, Next}
use Rattle.sentence.specs.declared.Node.TheVariants.{Until}
use Rattle.sentence_scan.specs.declared.Body.{Body}
use Rattle.sentence.proofs.Unique.{one_node, body_append, join, Peeled, peel}

keep_append : (letters : ℕ) (b : Body) (ms ns : List Node) → keep_all letters b (ms ++ ns) ≡ keep_all letters (keep_all letters b ms) ns
keep_append letters b [] ns = refl
keep_append letters b (m ∷ ms) ns = keep_append letters (keep letters b m) ms ns

-- what stops what a node wants stops the node; so does another kind than its own
pub stuck_node : {t r : List ℕ} {n : Node} (k : Kind) → IsNode t n r → (kind_of n ≡ k → Stuck (wants n) r) → Stuck (k ∷ []) t
stuck_node {t} {r} {n} k is none-fits ls all rest nests same = by nests same
  where
    by : {xs : List Node} → Nests (k ∷ ls) xs → t ≡ body_text xs ++ rest → ⊥
    by (node {n = m} {ns = ns} wm e a) eq =
        let one : (n ≡ m) × (r ≡ body_text ns ++ rest) =
        one_node r (body_text ns ++ rest) is.writable wm (sym is.text ∙ eq ∙ append_assoc (node_text m) (body_text ns) rest) in
        none-fits (ap kind_of one.0 ∙ e) ls ns rest (subst (λ (x : Node). Nests (wants x ++ ls) ns) (sym one.0) a) one.1

-- what stops the first of two things stops both
stuck_first : (js ks : List Kind) (t : List ℕ) → Stuck js t → Stuck (js ++ ks) t
stuck_first js ks t none-fits ls ns rest nests same = none-fits (ks ++ ls) ns rest (rw append_assoc at nests) same

-- what stops the second of two things, after the first was read, stops both
stuck_second : {js : List Kind} {ms : List Node} (ks : List Kind) (t r : List ℕ) → Nests js ms → t ≡ body_text ms ++ r → Stuck ks r
    → Stuck (js ++ ks) t
stuck_second {js} {ms} ks t r first text none-fits ls ns rest nests same =
    let p : Peeled (ks ++ ls) ms ns r rest = peel (ks ++ ls) ns r rest first (rw append_assoc at nests) (sym text ∙ same) in
    none-fits ls p.rest rest p.nests p.text

-- one thing after another
reads_then : {js ks : List Kind} {t r s : List ℕ} {letters : ℕ} {b m a : Body} → Reads js t letters b m r → Reads ks r letters m a s
    → Reads (js ++ ks) t letters b a s
reads_then {js} {ks} {t} {r} {s} {letters} {b} {m} {a} x y =
    record {
      nodes = x.nodes ++ y.nodes;
      nests = join ks x.nests y.nests;
      text =
          x.text ∙ ap (λ (l : List ℕ). body_text x.nodes ++ l) y.text ∙ sym (append_assoc (body_text x.nodes) (body_text y.nodes) s)
          ∙ ap (λ (l : List ℕ). l ++ s) (sym (body_append x.nodes y.nodes));
      kept = y.kept ∙ ap (λ (k : Body). keep_all letters k y.nodes) x.kept ∙ sym (keep_append letters b x.nodes y.nodes);
    }

-- a node and what it wants
reads_node : {k : Kind} {n : Node} {t r s : List ℕ} {letters : ℕ} {b a : Body} → IsNode t n r → kind_of n ≡ k
    → Reads (wants n) r letters (keep letters b n) a s → Reads (k ∷ []) t letters b a s
reads_node {k} {n} {t} {r} {s} is kind x =
    record {
      nodes = n ∷ x.nodes;
      nests = node is.writable kind (subst (λ (js : List Kind). Nests js x.nodes) (sym (append-nil (wants n))) x.nests);
      text =
          is.text ∙ ap (λ (l : List ℕ). node_text n ++ l) x.text ∙ sym (append_assoc (node_text n) (body_text x.nodes) s);
      kept = x.kept;
    }

-- a node that wants nothing
pub reads_leaf : {k : Kind} {n : Node} {t r : List ℕ} {letters : ℕ} {b m : Body} → IsNode t n r → kind_of n ≡ k → Nothing ≡ wants_of n
    → m ≡ keep letters b n → Reads (k ∷ []) t letters b m r
reads_leaf {k} {n} {t} {r} {letters} {b} {m} is kind none kept =
    reads_node is kind (
    subst (λ (js : List Kind). Reads js r letters (keep letters b n) m r) (ap wanted none)
    (record { nodes = []; nests = end; text = refl; kept = kept })
    )

-- a node and what it wants, whether it was read or not
pub with_wants : {k : Kind} {n : Node} {t s : List ℕ} {m : Body} (letters : ℕ) (b : Body) (w : Wants) (a : Body) (r : Option (Bor (List ℕ)))
    → IsNode t n s → kind_of n ≡ k → w ≡ wants_of n → m ≡ keep letters b n
    → MatchOption r (Stuck (wanted w) s) (λ rest. Reads (wanted w) s letters m a rest.now)
    → MatchOption r (Stuck (k ∷ []) t) (λ rest. Reads (k ∷ []) t letters b a rest.now)
with_wants {k} {n} {t} {s} {m} letters b w a None is kind same kept stuck =
    stuck_node k is (λ e. subst (λ (v : Wants). Stuck (wanted v) s) same stuck)
with_wants {k} {n} {t} {s} {m} letters b w a (Some rest) is kind same kept read =
    reads_node is kind (
    subst (λ (c : Body). Reads (wants n) s letters c a rest.now) kept
    (subst (λ (v : Wants). Reads (wanted v) s letters m a rest.now) same read)
    )

-- a second thing after one that was read
pub second : {k : Kind} {t s : List ℕ} {letters : ℕ} {b m : Body} (a : Body) (r : Option (Bor (List ℕ))) → Reads (k ∷ []) t letters b m s
    → MatchOption r (Stuck (k ∷ []) s) (λ rest. Reads (k ∷ []) s letters m a rest.now)
    → MatchOption r (Stuck (k ∷ k ∷ []) t) (λ rest. Reads (k ∷ k ∷ []) t letters b a rest.now)
second {k} {t} {s} a None first stuck = stuck_second (k ∷ []) t s first.nests first.text stuck
second a (Some rest) first read = reads_then first read

-- the first of two things does not stand
pub first_stuck : {k : Kind} {t : List ℕ} (P : Bor (List ℕ) → Type 0) (r : Option (Bor (List ℕ))) → r ≡ None → Stuck (k ∷ []) t
    → MatchOption r (Stuck (k ∷ k ∷ []) t) P
first_stuck {k} {t} P r e stuck =
    subst (λ (o : Option (Bor (List ℕ))). MatchOption o (Stuck (k ∷ k ∷ []) t) P) (sym e) (stuck_first (k ∷ []) (k ∷ []) t stuck)

-- a node has a byte or more
node_long : (n : Node) → 1 ≤ length (node_text n)
node_long True = omega arith
node_long (Label l v) = omega arith
node_long Not = omega arith
node_long And = omega arith
node_long (Compare r) = omega arith
node_long Probability = omega arith
node_long (Constant a b) = omega arith
node_long Sum = omega arith
node_long Difference = omega arith
node_long Product = omega arith
node_long Next = omega arith
node_long (Until a b) = omega arith

-- past a node less of the text is left
pub shorter : {t r : List ℕ} {n : Node} → IsNode t n r → length r + 1 ≤ length t
shorter {t} {r} {n} is = omega (arith, ap length is.text, length-append (node_text n) r, node_long n)

-- a thing has as many nodes as are counted, and no fewer bytes
counts : (letters : ℕ) (b : Body) (ns : List Node) → (keep_all letters b ns).count ≡ b.count + length ns
counts letters b [] = omega arith
counts letters b (n ∷ ns) = omega (arith, counts letters (keep letters b n) ns)

long : (ns : List Node) → length ns ≤ length (body_text ns)
long [] = omega arith
long (n ∷ ns) = omega (arith, long ns, node_long n, length-append (node_text n) (body_text ns))

-- past things that were read there is room for the nodes of what is left
pub room_after : {js : List Kind} {t s : List ℕ} {letters : ℕ} {b a : Body} → Reads js t letters b a s
    → (length s ≤ length t) × (a.count + length s ≤ b.count + length t)
room_after {js} {t} {s} {letters} {b} {a} read =
    let size : length t ≡ length (body_text read.nodes) + length s = ap length read.text ∙ length-append (body_text read.nodes) s in
    let count : a.count ≡ b.count + length read.nodes = ap (λ (x : Body). x.count) read.kept ∙ counts letters b read.nodes in
    (omega arith, omega (arith, long read.nodes))
