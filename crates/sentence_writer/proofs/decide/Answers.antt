-- `decide` meets its contract: each way out is a case of WriteAll. Assumes nothing.
use Rattle.std.proofs.Common.{rules, arith, ◌≡◌, ◌+◌, length, true, false, Err, ◌∷◌, []}
use Rattle.refusal.specs.declared.Refusal.TheVariants.{Grammar}
use Rattle.sentence.specs.Grammar.{some_out_of_range}
use Rattle.sentence.specs.Record.{nodes_of}
use Rattle.sentence.specs.declared.Kind.TheVariants.{State}
use Rattle.sentence_survey.specs.Surveys.{Fits, Unfit}
use Rattle.sentence_writer.specs.Contract.WriteRow.{counted, lettered}
use Rattle.sentence_writer.proofs.WriteAll.{Fine, fine, refuse, refuse_none, refuse_unfit, refuse_more, refuse_long}
use Rattle.sentence_writer.proofs.WriteAll.{refuse_range, refuse_short, clear}
use Rattle.sentence_writer.proofs.decide.Goals.{After-text_size}
use Rattle.sentence_writer.proofs.decide.Goals as goal

-- what is known once the list is known to nest
surveyed : (c : After-text_size) → Fine c.args.s.now (c.args.s.now.letters + 1 + c.text_size.result)
surveyed c =
    let s = c.args.s.now in
    let four : length s.exists ≡ 4 = search rules in
    let fits : Fits (State ∷ []) (nodes_of s) c.in_ok-rest.rest.now = search rules in
    let none : length c.in_ok-rest.rest.now ≡ 0 = search rules in
    fine s c.in_ok-rest.rest.now c.text_size.result four (omega arith) (omega arith) (omega arith) fits none c.text_size.ensures.size

pub returns-then-count-gt-NODES : goal.returns-then-count-gt-NODES
returns-then-count-gt-NODES c = refuse (counted c.if-count-gt-NODES.true)

pub returns-then-letters-gt-LETTERS : goal.returns-then-letters-gt-LETTERS
returns-then-letters-gt-LETTERS c = refuse (lettered (omega arith))

pub returns-then-letters-eq0 : goal.returns-then-letters-eq0
returns-then-letters-eq0 c = refuse_none c.args.s.now c.args.room c.if-letters-eq0.true

pub returns-in_err-rest : goal.returns-in_err-rest
returns-in_err-rest c =
    let none-fits : Unfit (State ∷ []) (nodes_of c.args.s.now) = search rules in
    let refused : c.from_residual.result ≡ Err Grammar = search rules in
    rw refused (refuse_unfit c.args.s.now c.args.room none-fits)

pub returns-then-not-is_empty : goal.returns-then-not-is_empty
returns-then-not-is_empty c =
    let fits : Fits (State ∷ []) (nodes_of c.args.s.now) c.in_ok-rest.rest.now = search rules in
    let more : length c.in_ok-rest.rest.now ≡ 0 → ⊥ = search rules in
    refuse_more c.args.s.now c.args.room c.in_ok-rest.rest.now fits more

pub returns-then-size-gt-TEXT_BYTES : goal.returns-then-size-gt-TEXT_BYTES
returns-then-size-gt-TEXT_BYTES c =
    refuse_long c.args.room (surveyed (goal.at.returns-then-size-gt-TEXT_BYTES c).After-text_size) (omega arith)

pub returns-then-has_fault : goal.returns-then-has_fault
returns-then-has_fault c =
    let fault : some_out_of_range c.args.s.now.letters (nodes_of c.args.s.now) ≡ true = search rules in
    refuse_range c.args.room (surveyed (goal.at.returns-then-has_fault c).After-text_size) (omega arith) fault

pub returns-then-room-size : goal.returns-then-room-size
returns-then-room-size c =
    let fault : some_out_of_range c.args.s.now.letters (nodes_of c.args.s.now) ≡ false = search rules in
    refuse_short c.args.room (surveyed (goal.at.returns-then-room-size c).After-text_size) (omega arith) fault (omega arith)

pub returns : goal.returns
returns c =
    let fault : some_out_of_range c.args.s.now.letters (nodes_of c.args.s.now) ≡ false = search rules in
    clear c.args.room (surveyed (goal.at.returns c).After-text_size) (omega arith) fault (omega arith)
