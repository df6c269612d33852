-- The nodes that start paths are those of the path formulas, in written order. Assumes nothing.
use Prim.Native.Nat.{ℕ, zero, suc, ◌+◌, ◌-◌, ◌≤◌, ◌<◌}
use mathlib.Core.Bool.{Bool, true, false, cond, true≢false}
use mathlib.Core.List.{List, [], ◌∷◌, ◌++◌}
use mathlib.Core.Path.{◌≡◌, refl, sym, ap, subst, ◌∙◌}
use native.Mathlib.Decide.{dec_lt, ℕ_discrete}
use native.Mathlib.Numerals.{add-one}
use native.Mathlib.Omega.{arith}
use lib.ListN.{length, get_or}
use Rattle.sentence.specs.Record.{record_of}
use Rattle.sentence.specs.declared.Node.{Node}
use Rattle.meaning.specs.Tree.{Formula, always, labelled, negation, both, compare, paths_of, PathFormula, next, until, paths_from}
use Rattle.meaning.specs.Tree.{Expression, probability, constant, sum, difference, product, paths_in}
use Rattle.trees.specs.Listed.{formula_nodes, expression_nodes, path_nodes, starts_path}
use Rattle.trees.specs.Standing.{node_at}
use Rattle.trees.specs.Numbered.{paths_below}
use Rattle.trees.proofs.Stretch.{Stretch, split, record_stretch}

module _ (nodes : List Node) where
  -- no path starts at the places from p up to q
  abbrev Quiet : ℕ → ℕ → Type 0
  Quiet p q = (p ≤ q) × ((i : ℕ) → p ≤ i → i < q → starts_path (node_at nodes i) ≡ false)

  -- the paths ws start at places from p up to q, in this order, and no other does
  abbrev pub PathsAt : ℕ → List PathFormula → ℕ → Type 0
  PathsAt p [] q = Quiet p q
  PathsAt p (w ∷ ws) q = (m : ℕ) × Quiet p m × (starts_path (node_at nodes m) ≡ true) × ((e : ℕ) × Stretch nodes m (path_nodes w) e) ×
      PathsAt (m + 1) ws q

  quiet_more : (p m q : ℕ) → Quiet p m → Quiet m q → Quiet p q
  quiet_more p m q a b = (omega (arith, a.0, b.0), λ i l h. by i l h (dec_lt i m))
    where
      by : (i : ℕ) → p ≤ i → i < q → Dec (i < m) → starts_path (node_at nodes i) ≡ false
      by i l h (yes y) = a.1 i l y
      by i l h (no n) = b.1 i (omega arith) h

  -- a node that starts no path
  quiet_one : (p : ℕ) (n : Node) → node_at nodes p ≡ n → starts_path n ≡ false → Quiet p (p + 1)
  quiet_one p n e s = (
    omega arith,
    λ i l h. let same : i ≡ p = omega arith in
        subst (λ (x : ℕ). starts_path (node_at nodes x) ≡ false) (sym same) (ap starts_path e ∙ s),
  )

  after_quiet : (p m : ℕ) (ws : List PathFormula) (q : ℕ) → Quiet p m → PathsAt m ws q → PathsAt p ws q
  after_quiet p m [] q a b = quiet_more p m q a b
  after_quiet p m (w ∷ ws) q a b = (b.0, quiet_more p m b.0 a b.1, b.2, b.3, b.4)

  then : (p m : ℕ) (ws vs : List PathFormula) (q : ℕ) → PathsAt p ws m → PathsAt m vs q → PathsAt p (ws ++ vs) q
  then p m [] vs q a b = after_quiet p m vs q a b
  then p m (w ∷ ws) vs q a b = (a.0, a.1, a.2, a.3, then (a.0 + 1) m ws vs q a.4 b)

  -- a node that starts no path, and two trees behind it
  behind : (p : ℕ) (n : Node) (ms ns : List Node) (ws vs : List PathFormula) (q : ℕ) → node_at nodes p ≡ n → starts_path n ≡ false →
      ((m : ℕ) → Stretch nodes (p + 1) ms m → PathsAt (p + 1) ws m) → ((m : ℕ) → Stretch nodes m ns q → PathsAt m vs q) →
      Stretch nodes (p + 1) (ms ++ ns) q → PathsAt p (ws ++ vs) q
  behind p n ms ns ws vs q e s first second h =
      let parts = split nodes ms ns (p + 1) q h in
      after_quiet p (p + 1) (ws ++ vs) q (quiet_one p n e s)
      (then (p + 1) parts.0 ws vs q (first parts.0 parts.1) (second parts.0 parts.2))

  -- one node, which starts no path, and nothing more
  leaf : (p q : ℕ) (n : Node) → node_at nodes p ≡ n → starts_path n ≡ false → p + 1 ≡ q → PathsAt p [] q
  leaf p q n e s h = subst (Quiet p) h (quiet_one p n e s)

  mutual
    unfolding formula_nodes expression_nodes path_nodes paths_of paths_in paths_from

    -- the path formulas of a state formula stand where its nodes do, in written order
    pub formula_paths : (f : Formula) (p q : ℕ) → Stretch nodes p (formula_nodes f) q → PathsAt p (paths_of f) q
    formula_paths always p q h = leaf p q _ h.1 refl h.2
    formula_paths (labelled l i) p q h = leaf p q _ h.1 refl h.2
    formula_paths (negation f) p q h = after_quiet p (p + 1) (paths_of f) q (quiet_one p _ h.1 refl) (formula_paths f (p + 1) q h.2)
    formula_paths (both f g) p q h =
        behind p _ (formula_nodes f) (formula_nodes g) (paths_of f) (paths_of g) q h.1 refl
        (λ m h. formula_paths f (p + 1) m h) (λ m h. formula_paths g m q h) h.2
    formula_paths (compare r a b) p q h =
        behind p _ (expression_nodes a) (expression_nodes b) (paths_in a) (paths_in b) q h.1 refl
        (λ m h. expression_paths a (p + 1) m h) (λ m h. expression_paths b m q h) h.2

    -- those of an expression
    pub expression_paths : (a : Expression) (p q : ℕ) → Stretch nodes p (expression_nodes a) q → PathsAt p (paths_in a) q
    expression_paths (probability w) p q h =
        after_quiet p (p + 1) (paths_from w) q (quiet_one p _ h.1 refl) (path_paths w (p + 1) q h.2)
    expression_paths (constant a b) p q h = leaf p q _ h.1 refl h.2
    expression_paths (sum a b) p q h =
        behind p _ (expression_nodes a) (expression_nodes b) (paths_in a) (paths_in b) q h.1 refl
        (λ m h. expression_paths a (p + 1) m h) (λ m h. expression_paths b m q h) h.2
    expression_paths (difference a b) p q h =
        behind p _ (expression_nodes a) (expression_nodes b) (paths_in a) (paths_in b) q h.1 refl
        (λ m h. expression_paths a (p + 1) m h) (λ m h. expression_paths b m q h) h.2
    expression_paths (product a b) p q h =
        behind p _ (expression_nodes a) (expression_nodes b) (paths_in a) (paths_in b) q h.1 refl
        (λ m h. expression_paths a (p + 1) m h) (λ m h. expression_paths b m q h) h.2

    -- a path and those of its formulas
    pub path_paths : (w : PathFormula) (p q : ℕ) → Stretch nodes p (path_nodes w) q → PathsAt p (paths_from w) q
    path_paths (next f) p q h = (
      p,
      (omega arith, λ i l u. absurd (omega arith)),
      ap starts_path h.1,
      (q, h),
      formula_paths f (p + 1) q h.2,
    )
    path_paths (until k1 k2 f g) p q h =
        let s = split nodes (formula_nodes f) (formula_nodes g) (p + 1) q h.2 in (
          p,
          (omega arith, λ i l u. absurd (omega arith)),
          ap starts_path h.1,
          (q, h),
          then (p + 1) s.0 (paths_of f) (paths_of g) q (formula_paths f (p + 1) s.0 s.1) (formula_paths g s.0 q s.2),
        )

  -- one place more
  pub below_more : (p : ℕ) (t : Bool) → starts_path (node_at nodes p) ≡ t → paths_below nodes (p + 1) ≡ paths_below nodes p + cond t 1 0
  unfolding paths_below
  below_more p t e = rw add-one (ap (λ (b : Bool). paths_below nodes p + cond b 1 0) e)

  quiet_below : (d p : ℕ) → Quiet p (p + d) → paths_below nodes (p + d) ≡ paths_below nodes p
  quiet_below zero p h = let e : p + zero ≡ p = omega arith in ap (paths_below nodes) e
  quiet_below (suc d) p h =
      let e : p + suc d ≡ (p + d) + 1 = omega arith in
      let here : starts_path (node_at nodes (p + d)) ≡ false = h.1 (p + d) (omega arith) (omega arith) in
      let rest : paths_below nodes (p + d) ≡ paths_below nodes p = quiet_below d p (omega arith, λ i l u. h.1 i l (omega arith)) in
      ap (paths_below nodes) e
      ∙ (below_more (p + d) false here ∙ let z : paths_below nodes (p + d) + 0 ≡ paths_below nodes (p + d) = omega arith in z ∙ rest)

  below_quiet : (p m : ℕ) → Quiet p m → paths_below nodes m ≡ paths_below nodes p
  below_quiet p m h =
      let e : p + (m - p) ≡ m = omega (arith, h.0) in
      subst (λ (x : ℕ). paths_below nodes x ≡ paths_below nodes p) e (quiet_below (m - p) p (subst (Quiet p) (sym e) h))

  -- as many paths start as there are path formulas
  pub paths_counted : (p : ℕ) (ws : List PathFormula) (q : ℕ) → PathsAt p ws q → paths_below nodes q ≡ paths_below nodes p + length ws
  paths_counted p [] q h = let e : paths_below nodes q ≡ paths_below nodes p = below_quiet p q h in omega arith
  paths_counted p (w ∷ ws) q h =
      let a : paths_below nodes h.0 ≡ paths_below nodes p = below_quiet p h.0 h.1 in
      let b : paths_below nodes (h.0 + 1) ≡ paths_below nodes h.0 + 1 = below_more h.0 true h.2 in
      let c : paths_below nodes q ≡ paths_below nodes (h.0 + 1) + length ws = paths_counted (h.0 + 1) ws q h.4 in
      omega (arith, a, b, c)

  -- at the place m stand the nodes of the path formula with the number of paths that start from p on before m
  abbrev pub NumberedAt : PathFormula → ℕ → List PathFormula → ℕ → Type 0
  NumberedAt d p ws m =
      (k : ℕ) × (paths_below nodes m ≡ paths_below nodes p + k) × (k < length ws) ×
      ((e : ℕ) × Stretch nodes m (path_nodes (get_or ws k d)) e)

  -- every place where a path starts is the place of the path formula with the number of those before it
  pub path_numbered : (d : PathFormula) (p : ℕ) (ws : List PathFormula) (q : ℕ) → PathsAt p ws q → (m : ℕ) → p ≤ m → m < q
      → starts_path (node_at nodes m) ≡ true → NumberedAt d p ws m
  path_numbered d p [] q h m l u s = absurd (true≢false (sym s ∙ h.1 m l u))
  path_numbered d p (w ∷ ws) q h m l u s = by (λ v. path_numbered d (h.0 + 1) ws q h.4 m v u s) (dec_lt m h.0) (ℕ_discrete m h.0)
    where
      by : (h.0 + 1 ≤ m → NumberedAt d (h.0 + 1) ws m) → Dec (m < h.0) → Dec (m ≡ h.0) → NumberedAt d p (w ∷ ws) m
      by rest (yes y) t = absurd (true≢false (sym s ∙ h.1.1 m l y))
      by rest (no n) (yes e) =
          let a : paths_below nodes h.0 ≡ paths_below nodes p = below_quiet p h.0 h.1 in
          let b : paths_below nodes m ≡ paths_below nodes h.0 = ap (paths_below nodes) e in
          (0, omega (arith, a, b), omega arith, (h.3.0, subst (λ (x : ℕ). Stretch nodes x (path_nodes w) h.3.0) (sym e) h.3.1))
      by rest (no n) (no o) =
          let r = rest (omega arith) in
          let a : paths_below nodes h.0 ≡ paths_below nodes p = below_quiet p h.0 h.1 in
          let b : paths_below nodes (h.0 + 1) ≡ paths_below nodes h.0 + 1 = below_more h.0 true h.2 in
          (suc r.0, omega (arith, a, b, r.1), omega (arith, r.2), r.3)

-- none starts before place 0
pub below_zero : (nodes : List Node) → paths_below nodes 0 ≡ 0
unfolding paths_below
below_zero nodes = refl

-- the record of a formula's nodes: its path formulas, each at its place
pub record_paths : (ps : List Bool) (ns : List Node) (f : Formula) → length ns ≤ 64 → ns ≡ formula_nodes f
    → PathsAt (record_of ps ns).nodes 0 (paths_of f) (length ns)
record_paths ps ns f h e =
    formula_paths (record_of ps ns).nodes f 0 (length ns)
    (subst (λ (l : List Node). Stretch (record_of ps ns).nodes 0 l (length ns)) e (record_stretch ps ns h))
