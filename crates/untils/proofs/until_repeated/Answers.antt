-- `untils::until_repeated` meets its contract: an until of the last variables, and its repetition.
use mathlib.Core.Path.{◌∙◌, refl}
use native.Mathlib.Omega.{arith}
use Rattle.layers.proofs.Tails.{lent_tail}
use Rattle.untils.proofs.Repeating.{few_tuples, few_some, last_fits, repeated_taken}
use Rattle.untils.proofs.until_repeated.Goals as goal

pub pow-few-requires : goal.pow-few-requires
pow-few-requires c =
    let tail = lent_tail c.before_first-first.result c.args.moving.now in
    omega (arith, few_tuples c.requires c.before_first-first.ensures tail c.states.ensures refl, c.requires.sizes.few)

pub copy-requires : goal.copy-requires
copy-requires c =
    let tail = lent_tail c.before_first-first.result c.args.moving.now in
    let few = few_tuples c.requires c.before_first-first.ensures tail c.states.ensures c.pow-few.ensures in
    (omega (arith, c.requires.room), omega (arith, c.requires.room))

pub until-requires : goal.until-requires
until-requires c =
    let tail = lent_tail c.before_first-first.result c.args.moving.now in
    last_fits c.requires c.before_first-first.ensures tail c.states.ensures c.pow-few.ensures c.copy.ensures

pub repeat-requires : goal.repeat-requires
repeat-requires c =
    let tail = lent_tail c.before_first-first.result c.args.moving.now in
    let long = c.until.ensures.kept.long ∙ c.copy.ensures.long in (
      few_some c.requires c.before_first-first.ensures tail c.states.ensures c.pow-few.ensures,
      few_tuples c.requires c.before_first-first.ensures tail c.states.ensures c.pow-few.ensures,
      omega (arith, c.requires.room),
    )

pub returns : goal.returns
returns c =
    let tail = lent_tail c.before_first-first.result c.args.moving.now in
    repeated_taken c.requires c.before_first-first.ensures tail c.states.ensures c.pow-few.ensures c.copy.ensures c.until.ensures
    c.repeat.ensures
