-- The path formula's numerators, of a model, a sentence, a tuple and a number to which no row but 1 applies.
use Prim.Native.Nat.{ℕ, ◌^◌, ◌<◌}
use mathlib.Core.List.{List}
use mathlib.Core.Path.{◌≡◌, sym, ap, ap₂, subst, ◌∙◌}
use native.Mathlib.Omega.{arith}
use borrow.Author.Tests.{lt-ltb}
use lib.ListN.{length, get_or, take}
use Rattle.std.specs.Prelude.{Option, Some, IsSome}
use Rattle.model.specs.declared.Model.{Model}
use Rattle.sentence.specs.declared.Kind.TheVariants.{Path}
use Rattle.sentence.specs.declared.Sentence.{Sentence}
use Rattle.meaning.specs.Tree.{Formula, always, PathFormula, next, paths_of}
use Rattle.meaning.specs.Meaning.{numerator, denominator}
use Rattle.meaning.specs.Size.{exceeds}
use Rattle.layers.specs.declared.Setting.{Setting}
use Rattle.evaluate.specs.Evaluation.{TreeReady, TreeDone}
use Rattle.trees.specs.Ranged.{Ranged}
use Rattle.chain.specs.Of.{chain_of, filled_rows}
use Rattle.paths.specs.Places.{PathPlace, TupleReady, TuplePlace}
use Rattle.paths.proofs.Joining.{Found, path_found}
use Rattle.paths.proofs.Members.{right_ready, layer_there}
use Rattle.question.specs.Working.{TextOfSentence, SettingOf}
use Rattle.question.proofs.Pair.{nodes_few, one_sentence, letters_few, states_few}
use Rattle.question.proofs.Settled.{body_ranged, sizes, fixed, variables_few, layers_fit}
use Rattle.question.specs.Contract.{area_needed}
use Rattle.numerator.specs.Contract.{numbered}
use Rattle.numerator.specs.Working.{Asked}
use Rattle.numerator.proofs.Asking.{held, counted, place_there, RightParts, right_parts}

module _ {m : Model} {s : Sentence} {g : Setting} {tuple : List ℕ} {number : ℕ} (a : Asked m s tuple number) (so : SettingOf m s g) where
  abbrev body : Formula
  body = a.ready.read.sentence.body

  parts : RightParts m s body tuple number
  parts = right_parts m s body tuple number a.right

  -- the tuple's number can be computed, and lies in the first layer
  pub tuple_ready : TupleReady g.states tuple
  tuple_ready =
      let read = a.ready.read in
      subst (λ (k : ℕ). TupleReady k tuple) (sym so.states)
      (right_ready s.letters m.n tuple parts.tuple_is_right (letters_few read.sentence) (states_few read.model))

  tuple_long : length tuple ≡ g.variables
  tuple_long = parts.long ∙ sym so.variables

  tuple_inside : {k : ℕ} → TuplePlace g.states tuple k → k < g.tuples
  tuple_inside {k} place =
      let whole = (sizes a.ready so).whole in
      let power : g.states ^ length tuple ≡ g.states ^ g.variables = ap (λ (n : ℕ). g.states ^ n) tuple_long in
      let inside = place.inside in
      omega (arith, whole, power, inside)

  pub tuple_low : {k : ℕ} → TuplePlace g.states tuple k → k < 1024
  tuple_low place = let few = (sizes a.ready so).few in let low = tuple_inside place in omega (arith, few, low)

  pub tuple_there : {k room : ℕ} → TuplePlace g.states tuple k → room ≡ area_needed (chain_of m) s.letters → k < room
  tuple_there place long =
      let layer = layers_fit a.ready so {k = 1} (omega arith) long in
      let low = tuple_inside place in
      omega (arith, layer, low)

  -- there is a path formula with the number
  pub place_some : {r : Option ℕ} → PathPlace (take s.count s.nodes) number r → IsSome r
  place_some place = place_there a.ready.read.sentence place ∙ lt-ltb number (length (paths_of body)) parts.there

  module _ {rows : List (List ℕ)} (e : rows ≡ filled_rows m) {at : ℕ} (place : PathPlace (take s.count s.nodes) number (Some at)) where
    -- it stands at the place that was found
    found : Found s.nodes g.variables m.d body number at (next always)
    found =
        let b = a.ready.read.sentence in
        path_found b.prefix b.body (nodes_few b) (held b) (counted b) place
        (subst (λ (k : ℕ). Ranged k b.body) (sym so.variables) (body_ranged b))
        (ap (exceeds b.body m.d) so.variables ∙ a.ready.small) (next always)

    pub path_ready : {w : List ℕ} → length w ≡ area_needed (chain_of m) s.letters → TreeReady Path s.nodes g m.masks rows at w
    path_ready long =
        let f = found in
        record {
          chain = chain_of m;
          fixed = fixed a.ready so e;
          few = variables_few a.ready so;
          tree = get_or (paths_of body) number (next always);
          end = f.end;
          stands = f.stands;
          ranged = f.ranged;
          fits = f.fits;
          room = layers_fit a.ready so f.room long;
          small = f.small;
        }

    -- the numerator at the tuple, and the denominator
    pub counted_so : {after : List ℕ} {end bottom k : ℕ} → TreeDone Path s.nodes g m.masks rows at after end bottom →
        TuplePlace g.states tuple k → {text : List ℕ} (b : TextOfSentence text s) →
        (get_or after k 0 ≡ numerator (numbered b.body number) (chain_of m) s.letters tuple) ×
        (bottom ≡ denominator (numbered b.body number) m.d s.letters)
    unfolding numbered
    counted_so {k = k} done index b =
        let c = chain_of m in
        let f = found in
        let all = done.each c (get_or (paths_of body) number (next always)) f.end (fixed a.ready so e) f.stands f.fits in
        let same = (one_sentence b a.ready.read.sentence).1 in
        let path = ap (λ (x : Formula). numbered x number) same in (
          layer_there all.2 tuple_long (subst (λ (n : ℕ). TuplePlace n tuple k) so.states index) ∙
              ap₂ (λ (w : PathFormula) (n : ℕ). numerator w c n tuple) (sym path) so.variables,
          all.1 ∙ ap₂ (λ (w : PathFormula) (n : ℕ). denominator w m.d n) (sym path) so.variables,
        )
