-- The code of a writer's answer tells the answer (`code_told`), where what is written has fewer than 2^32 bytes.
use Prim.Native.Nat.{ℕ, ◌<◌}
use mathlib.Core.List.{List}
use mathlib.Core.Path.{◌≡◌, sym, ap, subst}
use native.Mathlib.Omega.{arith}
use Rattle.std.specs.Prelude.{Result, Ok, Err, MatchResult}
use Rattle.refusal.specs.declared.Refusal.{Refusal}
use Rattle.refusal.specs.Answers.{number_of}
use Rattle.refusal.proofs.Ensuring.{number_told}
use Rattle.codes.specs.Codes.{Coded, code_of}
use Rattle.codes.specs.Working.{code_by_number}

-- what is written has fewer than 2^32 bytes
abbrev pub Short : Result ℕ Refusal → Type 0
Short (Ok size) = size < 4294967296
Short (Err refusal) = Unit

-- an answer has one code, whether its refusal is given or the refusal's number
pub code_numbered : (a : Result ℕ Refusal) (b : Result ℕ ℕ) → MatchResult a (λ size. b ≡ Ok size) (λ refusal. b ≡ Err (number_of refusal))
    → code_by_number b ≡ code_of a
unfolding code_of
code_numbered (Ok size) b e = ap code_by_number e
code_numbered (Err refusal) b e = ap code_by_number e

code_told : (a b : Result ℕ Refusal) → Short a → Short b → code_of a ≡ code_of b → a ≡ b
unfolding code_of
code_told (Ok x) (Ok y) s t e = ap Ok e
code_told (Ok x) (Err r) s t e = absurd (omega arith)
code_told (Err r) (Ok y) s t e = absurd (omega arith)
code_told (Err r) (Err q) s t e = ap Err (number_told r q (omega arith))

-- who is given an answer's code is given that answer
pub answer_told : (Ensures : Result ℕ Refusal → List ℕ → Type 0) → ((w : Result ℕ Refusal) (l : List ℕ) → Ensures w l → Short w) →
    {after : List ℕ} (a : Result ℕ Refusal) → Short a → Coded code_of Ensures after (code_of a) → Ensures a after
answer_told Ensures short {after} a s given =
    subst (λ (w : Result ℕ Refusal). Ensures w after)
    (code_told given.answer a (short given.answer after given.ensures) s (sym given.coded))
    given.ensures
