-- Groupings, and the model that is merged by one: document 01, 'Calls and refusal numbers', and document 00, demand 3.
-- What a merged chain is stands in the crate meaning (`weight_into`, `member`, `merged`): here it is said of the record.
use Rattle.std.specs.Prelude.{ℕ, zero, suc, max, Bool, cond, not, ◌&&◌, ◌||◌, List, ltb, eqb, length, get_or}
use Rattle.counting.specs.Below.{every_below, table}
use Rattle.model.specs.declared.Model.{Model}
use Rattle.model.specs.Layout.{mask_of}
use Rattle.meaning.specs.Lists.{below, there_is}
use Rattle.meaning.specs.Merging.{weight_into, member}
use Rattle.chain.specs.Of.{chain_of}

-- a grouping is one byte a state, in order of states: the group of state s
abbrev pub group_of : List ℕ → ℕ → ℕ
group_of grouping s = get_or grouping s 0

-- the grouping 0, 1, 2 and on of n states: each state by itself
abbrev pub each_alone : ℕ → List ℕ
each_alone n = table n (λ s. s)

-- one more than the largest of f 0, f 1, .., f (n − 1), and 0 where n is 0
unfoldable pub over_all : ℕ → (ℕ → ℕ) → ℕ
over_all zero f = 0
over_all (suc n) f = max (over_all n f) (suc (f n))

-- M: one more than the largest number of the grouping
abbrev pub group_count : List ℕ → ℕ
group_count grouping = over_all (length grouping) (group_of grouping)

-- some state has the group g
abbrev pub is_used : List ℕ → ℕ → Bool
is_used grouping g = there_is (λ s. eqb (group_of grouping s) g) (below (length grouping))

-- the grouping's length is N, and its numbers are exactly 0..M−1, each used
unfoldable pub grouping_right : ℕ → List ℕ → Bool
grouping_right n grouping = eqb (length grouping) n && every_below (group_count grouping) (is_used grouping)

-- two states do not differ in mask, nor in weight into some group
abbrev pub alike : Model → List ℕ → ℕ → ℕ → Bool
alike m grouping s t =
    eqb (mask_of m s) (mask_of m t) &&
    every_below (group_count grouping)
    (λ h. eqb (weight_into (chain_of m) (group_of grouping) s h) (weight_into (chain_of m) (group_of grouping) t h))

-- no two states of a group differ in mask or in weight into some group
unfoldable pub groups_alike : Model → List ℕ → Bool
groups_alike m grouping =
    every_below m.n (λ s. every_below m.n (λ t. not (eqb (group_of grouping s) (group_of grouping t)) || alike m grouping s t))

-- the first member of the group g
abbrev pub member_of : ℕ → List ℕ → ℕ → ℕ
member_of n grouping g = member (group_of grouping) g (below n)

-- the merged model has M states, A, D and the version as before; group g has its members' mask and, into h, a member's total weight
-- into h. From M on masks, columns and rows are zero.
unfoldable pub merged_model : Model → List ℕ → Model
merged_model m grouping =
    record {
      n = group_count grouping;
      a = m.a;
      d = m.d;
      version = m.version;
      masks = table 32 (λ g. cond (ltb g (group_count grouping)) (mask_of m (member_of m.n grouping g)) 0);
      weights =
          table 32
          (λ g.
          table 32
          (λ h.
          cond (ltb g (group_count grouping) && ltb h (group_count grouping))
          (weight_into (chain_of m) (group_of grouping) (member_of m.n grouping g) h) 0));
    }
