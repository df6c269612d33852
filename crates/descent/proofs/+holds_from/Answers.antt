-- `holds_from` meets its contract. The invariant of its loop: no state passed decides the letter. The measure is the number of
-- letters left.
use borrow.Author.Count.{below_more}
use native.Mathlib.Omega.{arith}
use Rattle.descent.proofs.Laws.{descended_none, one_more, one_decides, one_passed, none_decides, room_more, place_more}
use Rattle.descent.proofs.+holds_from.Goals as goal

pub overflow_mul-base : goal.overflow_mul-base
overflow_mul-base t c =
    let a = c.args in
    let one = one_more a.states a.base a.letters.now a.layer.now c.in-len1-up.len_at_least in
    let place = place_more a.states _ a.base c.loop-s.s _ one c.loop-s-test.true c.requires.room in
    omega (arith, c.requires.small)

pub overflow_add-base : goal.overflow_add-base
overflow_add-base t c =
    let a = c.args in
    let one = one_more a.states a.base a.letters.now a.layer.now c.in-len1-up.len_at_least in
    let place = place_more a.states _ a.base c.loop-s.s _ one c.loop-s-test.true c.requires.room in
    omega (arith, c.requires.small)

pub holds_from-requires : goal.holds_from-requires
holds_from-requires t c =
    let a = c.args in
    let one = one_more a.states a.base a.letters.now a.layer.now c.in-len1-up.len_at_least in
    let p = c.requires in (
      omega (arith, one),
      record {
        few = omega (arith, one, p.few);
        states = p.states;
        room = room_more a.states _ a.base c.loop-s.s _ one c.loop-s-test.true p.room;
        small = p.small;
      },
    )

pub returns-in-empty : goal.returns-in-empty
returns-in-empty t c = descended_none c.args.states c.args.base c.args.letters.now c.args.layer.now c.in-empty.len_below

pub returns-then-holds_from-exists : goal.returns-then-holds_from-exists
returns-then-holds_from-exists t c =
    let a = c.args in
    one_decides a.states a.base a.letters.now a.layer.now c.in-len1-up.len_at_least c.loop-s-test.true c.holds_from.ensures
    c.if-holds_from-exists.true

pub loop-s-preserved : goal.loop-s-preserved
loop-s-preserved t c =
    let a = c.args in
    below_more _ c.loop-s.s c.loop-s.invariant
    (one_passed a.states a.base a.letters.now a.layer.now c.in-len1-up.len_at_least c.loop-s.s c.holds_from.ensures
    c.if-holds_from-exists.false)

pub returns-after-loop-s : goal.returns-after-loop-s
returns-after-loop-s t c =
    let a = c.args in
    none_decides a.states a.base a.letters.now a.layer.now c.in-len1-up.len_at_least
    (λ k less. c.loop-s.invariant k (omega (arith, c.loop-s-test.false)))
