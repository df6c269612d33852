-- How a node list is found to nest: one thing after another, a node and what it wants. Assumes nothing.
use mathlib.Core.List.{List, [], ◌∷◌, ◌++◌, append_assoc, append-nil}
use mathlib.Core.Path.{◌≡◌, refl, sym, ap, ◌∙◌, subst}
use Rattle.std.proofs.Common.{Option, Some, None, MatchOption, Bor}
use Rattle.sentence.specs.Grammar.{Writable, kind_of, wants_of, wanted, wants, Nests, body_text}
use Rattle.sentence.specs.Grammar.Nests.{end, node}
use Rattle.sentence.specs.declared.Kind.{Kind}
use Rattle.sentence.specs.declared.Node.{Node}
use Rattle.sentence.specs.declared.Wants.{Wants}
use Rattle.sentence.specs.declared.Wants.TheVariants.{Nothing}
use Rattle.sentence.proofs.Unique.{body_append, join, Peeled, peel}
use Rattle.sentence_survey.specs.Surveys.{Unfit, Fits}

-- what is unfit for what a node wants is unfit for the node; so is another kind than its own, or a node without a text
pub unfit_node : {l r : List Node} {n : Node} (k : Kind) → l ≡ n ∷ r → (Writable n → kind_of n ≡ k → Unfit (wants n) r) → Unfit (k ∷ []) l
unfit_node {l} {r} {n} k here none-fits ls all rest nests same = by nests same
  where
    by : {xs : List Node} → Nests (k ∷ ls) xs → l ≡ xs ++ rest → ⊥
    by (node {n = m} {ns = ns} wm e a) eq =
        let head : m ≡ n = cc (here, eq) in
        none-fits (subst Writable head wm) (ap kind_of (sym head) ∙ e) ls ns rest (subst (λ (x : Node). Nests (wants x ++ ls) ns) head a)
        (cc (here, eq))

-- what follows equal fronts is equal
after_front : (ms r s : List Node) → ms ++ r ≡ ms ++ s → r ≡ s
after_front [] r s e = e
after_front (m ∷ ms) r s e = after_front ms r s (cc e)

unfit_second : {js : List Kind} {ms : List Node} (ks : List Kind) (l r : List Node) → Nests js ms → l ≡ ms ++ r → Unfit ks r
    → Unfit (js ++ ks) l
unfit_second {js} {ms} ks l r first split none-fits ls ns rest nests same =
    let texts : body_text ms ++ body_text r ≡ body_text ns ++ body_text rest =
    sym (body_append ms r) ∙ ap body_text (sym split ∙ same) ∙ body_append ns rest in
    let p : Peeled (ks ++ ls) ms ns (body_text r) (body_text rest) =
    peel (ks ++ ls) ns (body_text r) (body_text rest) first (rw append_assoc at nests) texts in
    none-fits ls p.rest rest p.nests
    (after_front ms r (p.rest ++ rest) (sym split ∙ same ∙ ap (λ (x : List Node). x ++ rest) p.split ∙ append_assoc ms p.rest rest))

-- one thing after another
fits_then : {js ks : List Kind} {l r s : List Node} → Fits js l r → Fits ks r s → Fits (js ++ ks) l s
fits_then {js} {ks} {l} {r} {s} x y =
    record {
      nodes = x.nodes ++ y.nodes;
      nests = join ks x.nests y.nests;
      split = x.split ∙ ap (λ (m : List Node). x.nodes ++ m) y.split ∙ sym (append_assoc x.nodes y.nodes s);
    }

-- a node and what it wants
fits_node : {k : Kind} {n : Node} {l r s : List Node} → l ≡ n ∷ r → Writable n → kind_of n ≡ k → Fits (wants n) r s → Fits (k ∷ []) l s
fits_node {k} {n} here w kind x =
    record {
      nodes = n ∷ x.nodes;
      nests = node w kind (subst (λ (js : List Kind). Nests js x.nodes) (sym (append-nil (wants n))) x.nests);
      split = here ∙ ap (λ (m : List Node). n ∷ m) x.split;
    }

-- a node that wants nothing
pub fits_leaf : {k : Kind} {n : Node} {l r : List Node} → l ≡ n ∷ r → Writable n → kind_of n ≡ k → Nothing ≡ wants_of n → Fits (k ∷ []) l r
fits_leaf {k} {n} {l} {r} here w kind none =
    fits_node here w kind (
    subst (λ (js : List Kind). Fits js r r) (ap wanted none) (record { nodes = []; nests = end; split = refl })
    )

-- a node and what it wants, whether it is there or not
pub with_wants : {k : Kind} {n : Node} {l s : List Node} (w : Wants) (r : Option (Bor (List Node))) → l ≡ n ∷ s → Writable n
    → kind_of n ≡ k → w ≡ wants_of n → MatchOption r (Unfit (wanted w) s) (λ rest. Fits (wanted w) s rest.now)
    → MatchOption r (Unfit (k ∷ []) l) (λ rest. Fits (k ∷ []) l rest.now)
with_wants {k} {n} {l} {s} w None here written kind same unfit =
    unfit_node k here (λ x e. subst (λ (v : Wants). Unfit (wanted v) s) same unfit)
with_wants {k} {n} {l} {s} w (Some rest) here written kind same fits =
    fits_node here written kind (subst (λ (v : Wants). Fits (wanted v) s rest.now) same fits)

-- a second thing after one that is there
pub second : {k : Kind} {l s : List Node} (r : Option (Bor (List Node))) → Fits (k ∷ []) l s
    → MatchOption r (Unfit (k ∷ []) s) (λ rest. Fits (k ∷ []) s rest.now)
    → MatchOption r (Unfit (k ∷ k ∷ []) l) (λ rest. Fits (k ∷ k ∷ []) l rest.now)
second {k} {l} {s} None first unfit = unfit_second (k ∷ []) l s first.nests first.split unfit
second (Some rest) first fits = fits_then first fits
