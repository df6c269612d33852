-- `numbers` meets its contract: what is put at the end of the text goes on with it. Assumes nothing.
use Rattle.std.proofs.Common.{List, ℕ, ◌≡◌, ◌++◌, arith, sym, ap, ◌∙◌, length}
use Rattle.std.proofs.lemmas.List.{length-take-le}
use Rattle.numerals.specs.Working.{numbers_text}
use Rattle.numerals.proofs.Puts.{put_taken}
use Rattle.numerals.proofs.Text.numbers.Goals as goal

pub returns : goal.returns
returns c =
    let a = c.args in
    let text = c.self.inside in
    let s : List ℕ = numbers_text a.lead a.a a.middle a.b a.close in
    let size : length a.self.now ≡ text.size =
    sym (ap length c.self.view_is) ∙ length-take-le text.size text.bytes (omega (arith, c.self.invariant, c.self.told)) in
    put_taken s c.put_numbers-self-inside.ensures (omega (arith, c.requires.1, size, c.self.told))
    ∙ ap (λ (before : List ℕ). before ++ s) c.self.view_is
