-- Two operands, the one that needs more layers first: what each is evaluated with, and what the two layers hold after
-- both.
use Prim.Native.Nat.{ℕ, ◌+◌, ◌-◌, ◌*◌, ◌^◌, ◌≤◌, ◌<◌}
use mathlib.Core.Bool.{true, false, true≢false}
use mathlib.Core.List.{List, ◌++◌}
use mathlib.Core.Path.{◌≡◌, sym, ap, subst, subst₂, ◌∙◌}
use native.Mathlib.Omega.{arith}
use lib.ListN.{length, take, drop, length-drop}
use Rattle.sentence.specs.declared.Kind.{Kind}
use Rattle.sentence.specs.declared.Node.{Node}
use Rattle.meaning.specs.Chain.{Chain, Tuple}
use Rattle.layers.specs.Layers.{Layer, Swapped}
use Rattle.layers.proofs.Tails.{Back, lent_tail, put_back}
use Rattle.layers.proofs.Swapping.{front_swapped, next_swapped}
use Rattle.trees.specs.Standing.{Tree}
use Rattle.trees.specs.Need.{paired}
use Rattle.surveys.specs.declared.Extent.{Extent}
use Rattle.surveys.specs.declared.Order.{Order}
use Rattle.surveys.specs.Surveys.{TreeSurveyed, Chosen, standing, crossing, Ordered}
use Rattle.layers.specs.declared.Setting.{Setting}
use Rattle.evaluate.specs.Evaluation.{Fixed, TreeAt, tree_need, EvaluatedTwo, TreeReady, TreesReady, TreeDone, TreesDone}
use Rattle.evaluate.proofs.Needing.{paired_first, paired_second, paired_smaller, paired_smaller_first, paired_two}
use Rattle.evaluate.proofs.Needing.{room_of, room_past}
use Rattle.evaluate.proofs.Places.{to_each, room_kept, front_kept}
use Rattle.evaluate.proofs.Fixing.{tuple_count_power}
use Rattle.evaluate.proofs.Trees.{tree_need_some, tree_place, tree_surveyed, tree_ready}

-- ---- the layers

-- what is lent past the front layer is as long as what lies there
past_room : (T : ℕ) (mid : List ℕ) {long k : ℕ} → length mid ≡ long → k ≤ long - T →
    k ≤ length (take (length mid - T) (drop T mid))
past_room T mid same h =
    let e : length (take (length mid - T) (drop T mid)) ≡ length mid - T = ap length (lent_tail T mid) ∙
    length-drop T mid in
    omega arith

-- two trees need two layers
two_room : {a b : ℕ} (T : ℕ) {long : ℕ} → 1 ≤ a → 1 ≤ b → paired a b * T ≤ long → T + T ≤ long
two_room {a} {b} T p q room =
    let r = room_of T (paired_two a b p q) room in
    omega arith

module _ {N n T : ℕ} (whole : T ≡ N ^ n) {mid lent after : List ℕ} (back : Back T mid lent after) {f h : Tuple → ℕ}
    (one : Layer N n f mid) (two : Layer N n h lent) where
  -- one is in the front layer, and the other was lent the tail: the front layer stays, and the second holds the other
  layers_stay : Layer N n f after × Layer N n h (drop T after)
  layers_stay = (
    record { at = λ k l. back.low k (omega arith) ∙ one.at k l },
    subst (λ (w : List ℕ). Layer N n h w) (sym back.tail) two,
  )

  -- and then they are exchanged
  layers_cross : {last : List ℕ} → Swapped T after last → Layer N n h last × Layer N n f (drop T last)
  layers_cross s =
      (front_swapped (λ k l. omega arith) s h layers_stay.1, next_swapped (λ k l. omega arith) s f layers_stay.0)

-- ---- by the order of the two

-- what holds at both places holds where the one that is evaluated first begins,
at_first : (A : ℕ → Type 0) {at : ℕ} {one two : Extent} {r : Order} → Chosen at one two r → A at → A one.next → A r.first
at_first A (standing e f c h) a b = subst A (sym e) a
at_first A (crossing e f c h) a b = subst A (sym e) b

-- and where the other does, by which of them needs no more layers
at_then : (A : ℕ → Type 0) {at : ℕ} {one two : Extent} {r : Order} → Chosen at one two r → (two.layers ≤ one.layers → A one.next) →
    (one.layers < two.layers → A at) → A r.then
at_then A (standing e f c h) b a = subst A (sym f) (b h)
at_then A (crossing e f c h) b a = subst A (sym f) (a h)

-- what follows from the one at its place and the other at its own, where they were evaluated as they stand,
by_standing : (A B : ℕ → Type 0) {C : Type 0} {at : ℕ} {one two : Extent} {r : Order} → Chosen at one two r → r.crossed ≡ false →
    (A at → B one.next → C) → A r.first → B r.then → C
by_standing A B (standing e f c h) as_is go a b = go (subst A e a) (subst B f b)
by_standing A B (crossing e f c h) as_is go a b = absurd (true≢false (sym c ∙ as_is))

-- and where they were crossed
by_crossing : (A B : ℕ → Type 0) {C : Type 0} {at : ℕ} {one two : Extent} {r : Order} → Chosen at one two r → r.crossed ≡ true →
    (A one.next → B at → C) → A r.first → B r.then → C
by_crossing A B (standing e f c h) turned go a b = absurd (true≢false (sym turned ∙ c))
by_crossing A B (crossing e f c h) turned go a b = go (subst A e a) (subst B f b)

-- both begin at the place or past it
forward_first : {nodes : List Node} {at : ℕ} {r : Order} → Ordered nodes at r → at ≤ r.first
forward_first {at = at} o = at_first (λ k. at ≤ k) o.chosen (omega arith) o.surveyed.forward

forward_then : {nodes : List Node} {at : ℕ} {r : Order} → Ordered nodes at r → at ≤ r.then
forward_then {at = at} o = at_then (λ k. at ≤ k) o.chosen (λ h. o.surveyed.forward) (λ h. omega arith)

-- ---- two trees of a kind

-- the second stands where the survey of the first ends
follows_survey : (k : Kind) {nodes : List Node} {at : ℕ} {one : Extent} → TreeSurveyed nodes at one → (t u : Tree k) (m q : ℕ) →
    TreeAt k nodes at t m → TreeAt k nodes m u q → TreeAt k nodes one.next u q
follows_survey k {nodes} s t u m q stands follows =
    subst (λ (p : ℕ). TreeAt k nodes p u q) (sym (tree_surveyed k s t m stands).0) follows

-- what is left of both, by what is left of each and where their layers come to lie
both_left : {k : Kind} {nodes : List Node} {g : Setting} {masks : List ℕ} {rows : List (List ℕ)} {at : ℕ} {one : Extent} →
    TreeSurveyed nodes at one → {v v' after : List ℕ} {next bottom next' bottom' : ℕ} →
    ((c : Chain) → Fixed c masks rows g → (f h : Tuple → ℕ) → Layer c.N g.variables f v → Layer c.N g.variables h v' →
    Layer c.N g.variables f after × Layer c.N g.variables h (drop g.tuples after)) →
    TreeDone k nodes g masks rows at v next bottom → TreeDone k nodes g masks rows one.next v' next' bottom' →
    TreesDone k nodes g masks rows at after next' bottom bottom'
both_left {k} s lie first second = record {
  each = λ c t u m q fixed stands follows small small'.
      let x = first.each c t m fixed stands small in
      let y = second.each c u q fixed (follows_survey k s t u m q stands follows) small' in
      let both = lie c fixed _ _ x.2 y.2 in
      (y.0, x.1, y.1, both.0, both.1);
}

module _ {k : Kind} {nodes : List Node} {g : Setting} {masks : List ℕ} {rows : List (List ℕ)} {at : ℕ} {w : List ℕ}
    (ready : TreesReady k nodes g masks rows at w) where
  -- there is a place for the first node
  pub trees_inside : at ≤ 64
  trees_inside =
      let h = tree_place k nodes at ready.first ready.middle ready.stands in
      omega arith

  -- room for both layers
  pub trees_room : g.tuples + g.tuples ≤ length w
  trees_room = two_room g.tuples (tree_need_some k ready.first) (tree_need_some k ready.second) ready.room

  -- and for the front one, after a call
  pub front_room : {long : ℕ} → long ≡ length w → g.tuples ≤ long
  front_room = front_kept g.tuples trees_room

  -- what is left of both
  pub trees_left : {after : List ℕ} {next first second : ℕ} → TreesDone k nodes g masks rows at after next first second →
      EvaluatedTwo k g ready.chain ready.first ready.second ready.end after next first second
  trees_left done =
      done.each ready.chain ready.first ready.second ready.middle ready.end ready.fixed ready.stands ready.follows
      ready.fits ready.fits'

  module _ {r : Order} (o : Ordered nodes at r) where
    after_first : TreeAt k nodes o.one.next ready.second ready.end
    after_first =
        follows_survey k o.surveyed ready.first ready.second ready.middle ready.end ready.stands ready.follows

    -- each may be evaluated where there is room for the layers that it needs
    first_ready : (v : List ℕ) → tree_need k ready.first * g.tuples ≤ length v → TreeReady k nodes g masks rows at v
    first_ready v =
        tree_ready ready.fixed ready.few k ready.first ready.middle ready.stands ready.ranged.0 ready.fits ready.small

    second_ready : (v : List ℕ) → tree_need k ready.second * g.tuples ≤ length v → TreeReady k nodes g masks rows o.one.next v
    second_ready v = tree_ready ready.fixed ready.few k ready.second ready.end after_first ready.ranged.1 ready.fits' ready.small'

    -- so the one that comes first in all of the work area,
    pub comes_first : {t : ℕ} → 4 * (64 - at) + 2 ≡ t → (4 * (64 - r.first) + 1 < t) × TreeReady k nodes g masks rows r.first w
    comes_first {t} measure =
        let a = tree_need k ready.first in
        let b = tree_need k ready.second in (
          to_each at r.first t measure (forward_first o),
          at_first (λ p. TreeReady k nodes g masks rows p w) o.chosen
              (first_ready w (room_of g.tuples (paired_first a b) ready.room))
              (second_ready w (room_of g.tuples (paired_second a b) ready.room)),
        )

    -- and then the other past the front layer, since it needs no more layers
    then_ready : {t : ℕ} → 4 * (64 - at) + 2 ≡ t → (mid : List ℕ) → length mid ≡ length w →
        (4 * (64 - r.then) + 1 < t) × TreeReady k nodes g masks rows r.then (take (length mid - g.tuples) (drop g.tuples mid))
    then_ready {t} measure mid same =
        let T = g.tuples in
        let a = tree_need k ready.first in
        let b = tree_need k ready.second in
        let of-a = (tree_surveyed k o.surveyed ready.first ready.middle ready.stands).1 in
        let of-b = (tree_surveyed k o.follows ready.second ready.end after_first).1 in (
          to_each at r.then t measure (forward_then o),
          at_then (λ p. TreeReady k nodes g masks rows p (take (length mid - T) (drop T mid))) o.chosen
              (λ h. second_ready _ (past_room T mid same (room_past b T (paired_smaller a b (omega (arith, of-a, of-b, h))) ready.room)))
              (λ h. first_ready _ (past_room T mid same
              (room_past a T (paired_smaller_first a b (omega (arith, of-a, of-b, h))) ready.room))),
        )

    -- whatever its place and the front layer's length are called
    pub comes_then : {t p s : ℕ} → 4 * (64 - at) + 2 ≡ t → (mid : List ℕ) → length mid ≡ length w → p ≡ r.then → s ≡ g.tuples →
        (4 * (64 - p) + 1 < t) × TreeReady k nodes g masks rows p (take (length mid - s) (drop s mid))
    comes_then {t} {p} {s} measure mid same place front =
        subst₂ (λ (x y : ℕ). (4 * (64 - x) + 1 < t) × TreeReady k nodes g masks rows x (take (length mid - y) (drop y mid)))
        (sym place) (sym front) (then_ready measure mid same)

-- ---- after both calls

-- the work area where the tail past the front layer comes back as `lent`
abbrev returned : (T : ℕ) (mid lent : List ℕ) → List ℕ
returned T mid lent = take T mid ++ (lent ++ drop (length mid - T) (drop T mid))

-- the one left `mid`, and the other `lent` in the tail: each as many numbers as it was lent
pub record BothRun {k : Kind} {nodes : List Node} {g : Setting} {masks : List ℕ} {rows : List (List ℕ)} {at : ℕ} {w : List ℕ}
    (ready : TreesReady k nodes g masks rows at w) {r : Order} (o : Ordered nodes at r) {mid lent : List ℕ} {next bottom next' bottom' : ℕ}
    (one : TreeDone k nodes g masks rows r.first mid next bottom) (other : TreeDone k nodes g masks rows r.then lent next' bottom') :
    Type 0 where
  pub same : length mid ≡ length w
  pub long : length lent ≡ length (take (length mid - g.tuples) (drop g.tuples mid))

-- what a tree left at the place by whatever name is what it left there
abbrev left_at : {k : Kind} {nodes : List Node} {g : Setting} {masks : List ℕ} {rows : List (List ℕ)} {p q : ℕ} {after : List ℕ}
    {next bottom : ℕ} → p ≡ q → TreeDone k nodes g masks rows p after next bottom → TreeDone k nodes g masks rows q after next bottom
left_at {k} {nodes} {g} {masks} {rows} {after = after} {next = next} {bottom = bottom} e done =
    subst (λ (x : ℕ). TreeDone k nodes g masks rows x after next bottom) e done

-- so it is known by what the two calls left, and how long
pub both_run : {k : Kind} {nodes : List Node} {g : Setting} {masks : List ℕ} {rows : List (List ℕ)} {at : ℕ} {w : List ℕ}
    (ready : TreesReady k nodes g masks rows at w) {r : Order} (o : Ordered nodes at r) {mid lent : List ℕ}
    {next bottom next' bottom' p s : ℕ} (one : TreeDone k nodes g masks rows r.first mid next bottom)
    (other : TreeDone k nodes g masks rows p lent next' bottom') → length mid ≡ length w →
    length lent ≡ length (take (length mid - s) (drop s mid)) → (place : p ≡ r.then) → s ≡ g.tuples →
    BothRun ready o one (left_at place other)
both_run ready o {mid = mid} one other same long place front =
    record { same = same; long = long ∙ ap (λ (x : ℕ). length (take (length mid - x) (drop x mid))) front }

module _ {k : Kind} {nodes : List Node} {g : Setting} {masks : List ℕ} {rows : List (List ℕ)} {at : ℕ} {w : List ℕ}
    {ready : TreesReady k nodes g masks rows at w} {r : Order} {o : Ordered nodes at r} {mid lent : List ℕ} {next bottom next' bottom' : ℕ}
    {one : TreeDone k nodes g masks rows r.first mid next bottom} {other : TreeDone k nodes g masks rows r.then lent next' bottom'}
    (run : BothRun ready o one other) where
  back : Back g.tuples mid lent (returned g.tuples mid lent)
  back = put_back g.tuples mid lent (front_room ready run.same) run.long

  -- there is room for both layers still
  pub both_room : g.tuples + g.tuples ≤ length (returned g.tuples mid lent)
  both_room = room_kept (room_kept (trees_room ready) run.same) back.long

  -- what is left where they were evaluated as they stand
  pub trees_standing : r.crossed ≡ false → TreesDone k nodes g masks rows at (returned g.tuples mid lent) next' bottom bottom'
  trees_standing as_is =
      by_standing (λ p. TreeDone k nodes g masks rows p mid next bottom) (λ p. TreeDone k nodes g masks rows p lent next' bottom')
      o.chosen as_is (both_left o.surveyed (λ c fixed f h x y. layers_stay (tuple_count_power fixed) back x y)) one other

  -- and where they were crossed and the layers then exchanged
  pub trees_exchanged : {last : List ℕ} → r.crossed ≡ true → Swapped g.tuples (returned g.tuples mid lent) last →
      TreesDone k nodes g masks rows at last next bottom' bottom
  trees_exchanged turned swapped =
      by_crossing (λ p. TreeDone k nodes g masks rows p mid next bottom) (λ p. TreeDone k nodes g masks rows p lent next' bottom')
      o.chosen turned
      (λ second first. both_left o.surveyed (λ c fixed f h x y. layers_cross (tuple_count_power fixed) back y x swapped) first second)
      one other
