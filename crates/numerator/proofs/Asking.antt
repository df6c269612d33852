-- Whether the tuple and the number are right, of a sentence that was read.
use Prim.Native.Nat.{ℕ, ◌<◌}
use mathlib.Core.Bool.{Bool, true, false}
use mathlib.Core.List.{List}
use mathlib.Core.Path.{◌≡◌, sym, ap, ◌∙◌}
use borrow.Author.Tests.{ltb-true, eqb-true}
use lib.Dec.{ltb, eqb}
use lib.ListN.{length, take}
use Rattle.std.specs.Prelude.{Option, is_some}
use Rattle.counting.proofs.Laws.{left_of, right_of}
use Rattle.model.specs.declared.Model.{Model}
use Rattle.sentence.specs.declared.Sentence.{Sentence}
use Rattle.sentence.specs.Record.{record_of}
use Rattle.meaning.specs.Tree.{Formula, paths_of}
use Rattle.trees.specs.Listed.{formula_nodes}
use Rattle.paths.specs.Tuples.{members_below, tuple_right}
use Rattle.paths.specs.Places.{PathPlace}
use Rattle.paths.proofs.Joining.{place_test}
use Rattle.question.specs.Working.{TextOfSentence}
use Rattle.question.proofs.Pair.{nodes_few}
use Rattle.numerator.specs.Working.{asks_right, Right}

module _ {text : List ℕ} {s : Sentence} (b : TextOfSentence text s) where
  pub held : s.nodes ≡ (record_of b.prefix (formula_nodes b.body)).nodes
  held = ap (λ (x : Sentence). x.nodes) b.fields

  pub counted : s.count ≡ length (formula_nodes b.body)
  unfolding record_of
  counted = ap (λ (x : Sentence). x.count) b.fields

  -- a place is found exactly if there is a path formula with the number
  pub place_there : {number : ℕ} {r : Option ℕ} → PathPlace (take s.count s.nodes) number r →
      is_some r ≡ ltb number (length (paths_of b.body))
  place_there = place_test b.prefix b.body (nodes_few b) held counted _

-- what it is for the tuple and the number to be right
pub record RightParts (m : Model) (s : Sentence) (f : Formula) (tuple : List ℕ) (number : ℕ) : Type 0 where
  pub tuple_is_right : tuple_right s.letters m.n tuple ≡ true
  pub long : length tuple ≡ s.letters
  pub members : members_below m.n tuple ≡ true
  pub there : number < length (paths_of f)

pub right_parts : (m : Model) (s : Sentence) (f : Formula) (tuple : List ℕ) (number : ℕ) → asks_right m s f tuple number ≡ true →
    RightParts m s f tuple number
right_parts m s f tuple number e =
    let right = left_of (tuple_right s.letters m.n tuple) (ltb number (length (paths_of f))) e in
    record {
      tuple_is_right = right;
      long = eqb-true (length tuple) s.letters (left_of (eqb (length tuple) s.letters) (members_below m.n tuple) right);
      members = right_of (eqb (length tuple) s.letters) (members_below m.n tuple) right;
      there = ltb-true number (length (paths_of f)) (right_of (tuple_right s.letters m.n tuple) (ltb number (length (paths_of f))) e);
    }

-- what the test of the two says, of the text that the sentence is read from
module _ {m : Model} {s : Sentence} {tuple : List ℕ} {number : ℕ} {r : Bool} (asked : Right m s tuple number r) {text : List ℕ}
    (b : TextOfSentence text s) where
  pub asks_wrong : r ≡ false → asks_right m s b.body tuple number ≡ false
  asks_wrong e = sym (asked.each text b) ∙ e

  pub asks_so : r ≡ true → asks_right m s b.body tuple number ≡ true
  asks_so e = sym (asked.each text b) ∙ e
