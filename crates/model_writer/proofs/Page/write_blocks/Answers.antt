-- `Page::write_blocks` meets its contract: the blocks are written one after another.
use borrow.Author.Rules.{rules}
use mathlib.Core.Path.{◌≡◌, refl}
use native.Mathlib.Omega.{arith}
use Rattle.model.proofs.Written.{blocks_none, blocks_more}
use Rattle.model.specs.declared.Model.{Model}
use Rattle.model_writer.proofs.Page.write_blocks.Goals.{Start}
use Rattle.model_writer.proofs.Page.write_blocks.Goals as goal

-- the model of the fields at hand
abbrev fields : Start → Model
fields c = c.args.self.model.now

pub loop-i-init : goal.loop-i-init
loop-i-init c = (search rules, refl, blocks_none (fields (goal.at.loop-i-init c).Start) c.args.out.now)

pub loop-i-preserved : goal.loop-i-preserved
loop-i-preserved c =
    let l = c.loop-i in (
      search rules,
      search rules,
      blocks_more (fields (goal.at.loop-i-preserved c).Start) c.args.out.now l.i l.out _ l.invariant.2 c.write_block.ensures,
    )

pub shape_of-out : goal.shape_of-out
shape_of-out c = c.loop-i.invariant.1

pub returns : goal.returns
returns c =
    let e : c.loop-i.i ≡ c.args.count = omega arith in
    rw e at c.loop-i.invariant.2
