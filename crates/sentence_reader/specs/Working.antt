-- Working: what the functions of this crate promise one another. Nothing here has to be believed.
-- The parts of the reader, said over the grammar.
use Rattle.std.specs.Prelude.{ℕ, ◌+◌, ◌≤◌, Bool, false, List, ◌∷◌, ◌++◌, map, ◌≡◌, length, replicate, set}
use Rattle.std.proofs.lemmas.List.Edits.{sets}
use Rattle.sentence.specs.Grammar.{letter_byte, Spells}
use Rattle.sentence.specs.declared.Node.{Node}
use Rattle.sentence_scan.specs.Working.{no_nodes, keep_all}
use Rattle.sentence_scan.specs.declared.Body.{Body}
use Rattle.sentence_reader.specs.declared.Prefix.{Prefix}

-- no letter is read yet
abbrev pub no_letters : Prefix
no_letters = record { letters = 0; exists = replicate 4 false }

-- one letter more
abbrev pub one_letter : Prefix → Bool → Prefix
one_letter p x = record { letters = p.letters + 1; exists = set p.exists p.letters x }

-- and the letters qs more
abbrev pub with_letters : Prefix → List Bool → Prefix
with_letters p qs = record { letters = p.letters + length qs; exists = sets p.exists p.letters qs }

-- at the front of the text t stand the letters qs, which make a whole prefix with those of p, and the dot, and then the rest
pub record Follows (p : Prefix) (t : List ℕ) (qs : List Bool) (rest : List ℕ) : Type 0 where
  pub some : 1 ≤ p.letters + length qs
  pub few : p.letters + length qs ≤ 4
  pub text : t ≡ map letter_byte qs ++ 46 ∷ rest

-- the prefix q is p and such letters
pub record IsPrefix (p : Prefix) (t : List ℕ) (q : Prefix) (rest : List ℕ) : Type 0 where
  pub letters : List Bool
  pub follows : Follows p t letters rest
  pub same : q ≡ with_letters p letters

-- no such letters stand at the front of the text t
abbrev pub NoPrefix : Prefix → List ℕ → Type 0
NoPrefix p t = (qs : List Bool) (rest : List ℕ) → Follows p t qs rest → ⊥

-- the text t is the sentence of a prefix and a list of nodes, and this is what was read of it
pub record IsSentence (t : List ℕ) (p : Prefix) (b : Body) : Type 0 where
  pub prefix : List Bool
  pub nodes : List Node
  pub spells : Spells prefix nodes t
  pub letters : p ≡ with_letters no_letters prefix
  pub body : b ≡ keep_all (length prefix) no_nodes nodes

-- the text t is no sentence
abbrev pub NoSentence : List ℕ → Type 0
NoSentence t = (ps : List Bool) (ns : List Node) → Spells ps ns t → ⊥
