-- Both round trips, as demand 2 asks: writing what was read gives the same text, and reading what was written gives the same
-- sentence, with the places that are no part of it empty. Assumes nothing.
use Prim.Native.Nat.{ℕ, ◌≤◌, ◌<◌}
use mathlib.Core.Bool.{Bool}
use mathlib.Core.List.{List}
use mathlib.Core.Path.{◌≡◌, refl, sym, ap, ap₂, ◌∙◌, subst}
use native.Mathlib.Omega.{arith}
use lib.ListN.{length, take, drop, length-take}
use lib.Seq.{take-append_seam, length-take-le}
use Rattle.sentence.specs.Grammar.{Spells, some_out_of_range}
use Rattle.std.specs.Prelude.{Result, Ok}
use Rattle.refusal.specs.declared.Refusal.{Refusal}
use Rattle.refusal.specs.Answers.{gives, Ensured, refused, answered, at_front, TextAtFront}
use Rattle.sentence.specs.Record.{record_of, prefix_of, nodes_of}
use Rattle.sentence_reader.specs.Contract.{ReadRow, Spelled, ReadSentenceEnsures}
use Rattle.sentence_writer.specs.Contract.{WriteRow, WriteSentenceEnsures}
use Rattle.sentence_reader.specs.Contract.ReadRow.{outside, long, range, many}
use Rattle.sentence_writer.specs.Contract.WriteRow.{counted, lettered, unspelled, short}
use Rattle.sentence.specs.declared.Node.{Node}
use Rattle.sentence.specs.declared.Sentence.{Sentence}
use Rattle.sentence.proofs.Once.{spelled_once}
use Rattle.sentence.proofs.Records.{record_prefix, record_nodes}
use Rattle.sentence_reader.proofs.ReadAll.{one_answer}
use Rattle.sentence_writer.proofs.WriteAll.{one_writing}

by_not : (a b : ℕ) → (a < b → ⊥) → b ≤ a
by_not a b f = omega arith

-- a record that was read can be written, where the output has room for the text
write_back : {t : List ℕ} (out : List ℕ) {ps : List Bool} {ns : List Node} → Spells ps ns t → ((m : ℕ) → ReadRow t m → ⊥)
    → length t ≤ length out →
    WriteSentenceEnsures (record_of ps ns) out (Ok (length t)) (at_front t out)
unfolding record_of
write_back {t} out {ps} {ns} p none h =
    record { ensured = answered refl (record { text = t; asked = spells; sized = refl; left = refl }) no_row }
  where
    spells : Spells (prefix_of (record_of ps ns)) (nodes_of (record_of ps ns)) t
    spells = subst (λ (x : List Bool). Spells x (nodes_of (record_of ps ns)) t) (sym (record_prefix ps ns))
        (subst (λ (x : List Node). Spells ps x t) (sym (record_nodes ps ns)) p)

    no_row : (m : ℕ) → WriteRow (record_of ps ns) (length out) m → ⊥
    no_row m (counted g) = none 8 (many p g)
    no_row m (lettered g) = omega (arith, p.few)
    no_row m (unspelled f) = f t spells (by_not 400 (length t) (λ g. none 6 (long g)))
    no_row m (WriteRow.range f) = none 7 (range p (ap (some_out_of_range (length ps)) (sym (record_nodes ps ns)) ∙ f))
    no_row m (short q g) = omega (arith, ap length (q.text ∙ sym spells.text))

-- writing what was read gives the text that was read, where the output has room for it
pub read_then_write : {t out after : List ℕ} {s : Sentence} {w : Result ℕ Refusal} → ReadSentenceEnsures t (Ok s)
    → length t ≤ length out → WriteSentenceEnsures s out w after → (w ≡ Ok (length t)) × (after ≡ at_front t out)
read_then_write {t} {out} {after} {s} {w} a h b = by a.ensured
  where
    by : Ensured (ReadRow t) (λ read nothing. Spelled t read) (tt {0}) (gives s) (tt {0}) → (w ≡ Ok (length t)) × (after ≡ at_front t out)
    by (refused {n = n} f k row least) =
        let z : ◌≡◌ {A = ℕ} 0 1 = cc in
        absurd (omega arith)
    by (answered {v = v} f right none) =
        let fields : s ≡ record_of right.prefix right.nodes = cc (right.fields) in
        one_writing (subst (λ (x : Sentence). WriteSentenceEnsures x out w after) fields b) (write_back out right.spells none h)

-- a text that was written can be read. (Every record has four places for letters.)
read_back : (s : Sentence) (room : ℕ) {t : List ℕ} → length s.exists ≡ 4 → Spells (prefix_of s) (nodes_of s) t
    → ((m : ℕ) → WriteRow s room m → ⊥) →
    ReadSentenceEnsures t (Ok (record_of (prefix_of s) (nodes_of s)))
read_back s room {t} len p none =
    record { ensured = answered refl (record { prefix = prefix_of s; nodes = nodes_of s; spells = p; fields = refl }) no_row }
  where
    letters : length (prefix_of s) ≡ s.letters
    letters =
        let few : s.letters ≤ 4 = by_not 4 s.letters (λ h. none 6 (lettered h)) in
        length-take-le s.letters s.exists (omega arith)

    count : length (nodes_of s) ≤ 64
    count =
        let room : s.count ≤ 64 = by_not 64 s.count (λ h. none 6 (counted h)) in
        omega (arith, length-take s.count s.nodes)

    no_row : (m : ℕ) → ReadRow t m → ⊥
    no_row m (outside f) = f (prefix_of s) (nodes_of s) p
    no_row m (long g) = none 6 (unspelled (λ u q h. omega (arith, ap length (p.text ∙ sym q.text))))
    no_row m (range q e) =
        let one = spelled_once p q in
        none 7 (WriteRow.range
        (ap (λ (i : ℕ). some_out_of_range i (nodes_of s)) (sym letters)
        ∙ ap₂ (λ (x : List Bool) (y : List Node). some_out_of_range (length x) y) one.0 one.1 ∙ e))
    no_row m (many q g) = omega (arith, count, ap length (spelled_once p q).1)

-- reading what was written gives the prefix and the nodes of the record
pub write_then_read : {s : Sentence} {out after : List ℕ} {n : ℕ} {r : Result Sentence Refusal} → length s.exists ≡ 4
    → WriteSentenceEnsures s out (Ok n) after → ReadSentenceEnsures (take n after) r
    → r ≡ Ok (record_of (prefix_of s) (nodes_of s))
write_then_read {s} {out} {after} {n} {r} len b a = by b.ensured
  where
    by : Ensured (WriteRow s (length out)) (TextAtFront (Spells (prefix_of s) (nodes_of s)) out) out (gives n) after
        → r ≡ Ok (record_of (prefix_of s) (nodes_of s))
    by (refused {n = m} e k row least) =
        let z : ◌≡◌ {A = ℕ} 0 1 = cc in
        absurd (omega arith)
    by (answered {v = size} e right none) =
        let t = right.text in
        let same : n ≡ size = cc in
        let front : take n after ≡ t =
        ap₂ (λ (k : ℕ) (l : List ℕ). take k l) (same ∙ right.sized) right.left ∙ take-append_seam t (drop (length t) out) in
        one_answer (subst (λ (x : List ℕ). ReadSentenceEnsures x r) front a) (read_back s (length out) len right.asked none)
