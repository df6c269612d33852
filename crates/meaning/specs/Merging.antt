-- Groupings and merged chains: document 00, demand 3, and document 01, 'Calls and refusal numbers'.
use Rattle.std.specs.Prelude.{ℕ, ◌<◌, cond, List, [], ◌∷◌, ◌≡◌, eqb}
use Rattle.meaning.specs.Lists.{below, total}
use Rattle.meaning.specs.Chain.{Chain}

-- the total weight from the state s into the group h
unfoldable pub weight_into : Chain → (ℕ → ℕ) → ℕ → ℕ → ℕ
weight_into c group s h = total (λ t. cond (eqb (group t) h) (c.weight s t) 0) (below c.N)

-- each state has one of the groups 0..M−1, and every group number is used
pub record Grouping (c : Chain) (group : ℕ → ℕ) (M : ℕ) : Type 0 where
  pub inside : (s : ℕ) → s < c.N → group s < M
  pub used : (g : ℕ) → g < M → (s : ℕ) × (s < c.N) × (group s ≡ g)

-- no two states of one group differ in labels or in their weight into some group
pub record Stable (c : Chain) (group : ℕ → ℕ) (M : ℕ) : Type 0 where
  pub labels : (s t : ℕ) → s < c.N → t < c.N → group s ≡ group t → (l : ℕ) → c.label l s ≡ c.label l t
  pub weights : (s t : ℕ) → s < c.N → t < c.N → group s ≡ group t → (h : ℕ) → h < M →
      weight_into c group s h ≡ weight_into c group t h

-- m is a merged chain of c: its states are the groups and D is as before; group g has its members' labels and, into h,
-- a member's total weight into h
pub record Merged (c : Chain) (group : ℕ → ℕ) (m : Chain) : Type 0 where
  pub grouping : Grouping c group m.N
  pub same_d : m.D ≡ c.D
  pub labels : (s : ℕ) → s < c.N → (l : ℕ) → m.label l (group s) ≡ c.label l s
  pub weights : (s : ℕ) → s < c.N → (h : ℕ) → h < m.N → m.weight (group s) h ≡ weight_into c group s h

-- a member of the group g: the first state of the list that has it, 0 where none has
unfoldable pub member : (ℕ → ℕ) → ℕ → List ℕ → ℕ
member group g [] = 0
member group g (s ∷ ss) = cond (eqb (group s) g) s (member group g ss)

-- the chain that has, for each group, the labels and the weights of its first member
unfoldable pub merged : Chain → (ℕ → ℕ) → ℕ → Chain
merged c group M =
    record {
      N = M;
      D = c.D;
      weight = λ g h. weight_into c group (member group g (below c.N)) h;
      label = λ l g. c.label l (member group g (below c.N));
    }
