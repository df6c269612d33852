-- `read` meets its contract: a node that does not stand, is of another kind, or wants what does not stand stops it. Assumes nothing.
use Rattle.std.proofs.Common.{rules, arith, ap, ◌≡◌}
use Rattle.sentence.specs.Grammar.{kind_of}
use Rattle.sentence.specs.declared.Wants.TheVariants.{One, Two}
use Rattle.sentence_scan.proofs.Results.{stuck_node, reads_leaf, with_wants, second, first_stuck, shorter, room_after}
use Rattle.sentence_scan.proofs.Body.+read.Goals as goal

pub returns-then-ne : goal.returns-then-ne
returns-then-ne t c =
    let other : kind_of c.in_ok-node.node ≡ c.args.kind → ⊥ = search rules in
    stuck_node c.args.kind c.in_ok-node.ensures (λ e. absurd (other e))

pub returns-in-Nothing : goal.returns-in-Nothing
returns-in-Nothing t c =
    let kind : kind_of c.in_ok-node.node ≡ c.args.kind = search rules in
    reads_leaf c.in_ok-node.ensures kind c.in-Nothing.ensures c.push.ensures

pub returns-in-One : goal.returns-in-One
returns-in-One t c =
    let kind : kind_of c.in_ok-node.node ≡ c.args.kind = search rules in
    with_wants c.args.letters c.args.self.now (One c.in-One.wanted) c.read.new.self c.read.result c.in_ok-node.ensures kind
    c.in-One.ensures c.push.ensures c.read.ensures

pub read-requires-in-Two-2 : goal.read-requires-in-Two-2
read-requires-in-Two-2 t c =
    let room = room_after c.in_ok-rest-in-Two.ensures in
    let less = shorter c.in_ok-node.ensures in
    (omega arith, omega (arith, c.requires, ap (λ b. b.count) c.push.ensures))

pub returns-in_err-rest-in-Two : goal.returns-in_err-rest-in-Two
returns-in_err-rest-in-Two t c =
    let kind : kind_of c.in_ok-node.node ≡ c.args.kind = search rules in
    with_wants c.args.letters c.args.self.now (Two c.in-Two.wanted) c.read-in-Two.new.self
    c.from_residual-in_err-rest-in-Two.result c.in_ok-node.ensures kind c.in-Two.ensures c.push.ensures
    (first_stuck _ c.from_residual-in_err-rest-in-Two.result c.from_residual-in_err-rest-in-Two.ensures c.in_err-rest-in-Two.ensures)

pub returns-in_ok-rest-in-Two : goal.returns-in_ok-rest-in-Two
returns-in_ok-rest-in-Two t c =
    let kind : kind_of c.in_ok-node.node ≡ c.args.kind = search rules in
    with_wants c.args.letters c.args.self.now (Two c.in-Two.wanted) c.read-in-Two-2.new.self c.read-in-Two-2.result
    c.in_ok-node.ensures kind c.in-Two.ensures c.push.ensures
    (second c.read-in-Two-2.new.self c.read-in-Two-2.result c.in_ok-rest-in-Two.ensures c.read-in-Two-2.ensures)
