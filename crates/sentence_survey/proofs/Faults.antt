-- That some node of a list is out of its range, in the words of the library's `any`. Assumes nothing.
use Rattle.std.proofs.Common.{ℕ, List, [], ◌∷◌, ◌||◌, ◌≡◌, refl, ap}
use Rattle.std.specs.List.{list_any}
use Rattle.sentence.specs.Grammar.{out_of_range, some_out_of_range}
use Rattle.sentence.specs.declared.Node.{Node}

pub any_fault : (letters : ℕ) (ns : List Node) → list_any (out_of_range letters) ns ≡ some_out_of_range letters ns
any_fault letters [] = refl
any_fault letters (n ∷ ns) = ap (λ b. out_of_range letters n || b) (any_fault letters ns)
