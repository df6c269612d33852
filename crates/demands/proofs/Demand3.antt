-- Demand 3, of merge, verdict and numerator.
use Prim.Native.Nat.{ℕ, ◌≤◌, ◌<◌}
use mathlib.Core.Bool.{Bool, true, false, not, true≢false}
use mathlib.Core.List.{List, map}
use mathlib.Core.Logic.{◌↔◌, ◌⊎◌, ⊎_elim}
use mathlib.Core.Path.{◌≡◌, refl, sym, ap, ap₂, subst, ◌∙◌}
use native.Mathlib.Decide.{dec_lt}
use native.Mathlib.Omega.{arith}
use borrow.Author.Tests.{le-ltb}
use lib.ListN.{length, take, length-map}
use lib.Seq.{take_at}
use Rattle.std.specs.Prelude.{Result, Ok}
use Rattle.refusal.specs.declared.Refusal.{Refusal}
use Rattle.refusal.specs.Rows.{Applies, by_row as smallest-of, Given}
use Rattle.refusal.specs.Answers.{gives, refuses, number_in, reply_of}
use Rattle.refusal.proofs.Ensuring.{right_of, others_free, none_at_all, answer_told}
use Rattle.refusal.proofs.Laws.{first_later, first_none}
use Rattle.refusal.proofs.Listed.{none_applies}
use Rattle.model.specs.Layout.{fields_of}
use Rattle.model.specs.Contract.{file_number}
use Rattle.meaning.specs.Lists.{every}
use Rattle.meaning.specs.Chain.{tuple_count}
use Rattle.meaning.specs.Tree.{Formula, letter_of}
use Rattle.meaning.specs.Meaning.{numerator, denominator, verdict}
use Rattle.meaning.specs.Size.{exceeds}
use Rattle.meaning.specs.Merging.{Stable}
use Rattle.trees.specs.Listed.{formula_nodes}
use Rattle.chain.proofs.Accepted.{fields_are_right}
use Rattle.question.specs.Contract.{label_right, QuestionRow, model, sentence, labels, size, tuples, area_needed, AreaShort}
use Rattle.question.proofs.Stages.{none_of_file}
use Rattle.verdict.specs.Contract.{VerdictRow, VerdictEnsures}
use Rattle.numerator.specs.declared.Ratio.{Ratio}
use Rattle.numerator.specs.Contract.{AskedRow, NumeratorRow, question, long, member, missing, NumeratorEnsures, numbered}
use Rattle.paths.proofs.Members.{members_inside}
use Rattle.groups.specs.Groups.{group_of}
use Rattle.merge.specs.Contract.{merge_rows, merge_number, merged_file, MergeEnsures}
use Rattle.merge.specs.Keeping.{MergingKeeps}
use Rattle.merge.proofs.Exact.{refused_13, stable_alike}
use Rattle.groups.proofs.Grouped.{grouping_is_right, count_is}
use Rattle.merge.proofs.Numbers.{merge_rows_ascend, file_accepted}
use Rattle.merge.proofs.Theorems.{merge_smallest, mergeable, merged_read, kept_written}
use Rattle.demands.specs.Demands.{chain_in, MergeAsked, Differ, Keeps, MergedWritten, Demand3}
use Rattle.demands.proofs.Free.{one_sentence, inside_members, members, tuple_inside}
use Rattle.demands.proofs.Demand1.{demand_1}
use Rattle.demands.proofs.Differing.{stable_differ, settled}

-- ---- what merging keeps

module _ (file grouping merged : List ℕ) (accepted : file_number merged ≡ 0)
    (kept : MergingKeeps (fields_of file) (group_of grouping) (fields_of merged)) where
  -- a question to which no row applies on the full model is one on the merged model
  question_free : {text : List ℕ} → ((n : ℕ) → QuestionRow file text n → ⊥) → (n : ℕ) → QuestionRow merged text n → ⊥
  question_free none n (model a) = none_of_file merged accepted a
  question_free none n (sentence r) = none n (sentence r)
  question_free none n (labels s e) =
      none 9 (labels s (ap (λ (a : ℕ). every (label_right a) (formula_nodes s.body)) (sym kept.labels) ∙ e))
  question_free none n (size s e) = by (exceeds s.body (fields_of file).d (length s.prefix)) refl
    where
      by : (t : Bool) → exceeds s.body (fields_of file).d (length s.prefix) ≡ t → ⊥
      by true p = none 10 (size s p)
      by false p = true≢false (sym e ∙ kept.sizes s.body (length s.prefix) p)
  question_free none n (tuples s e) = by (dec_lt 1024 (tuple_count (chain_in file) (length s.prefix)))
    where
      by : Dec (1024 < tuple_count (chain_in file) (length s.prefix)) → ⊥
      by (yes h) = none 11 (tuples s h)
      by (no h) = let few = kept.tuples (length s.prefix) in omega (arith, few, e)

  -- and a work area that is long enough stays so
  room_kept : {text : List ℕ} {room : ℕ} → (AreaShort file text room → ⊥) → AreaShort merged text room → ⊥
  unfolding area_needed
  room_kept enough a =
      let fewer = kept.tuples (length a.sentence.prefix) in
      let short = a.short in
      enough (record { sentence = a.sentence; short = omega (arith, fewer, short) })

  verdicts : {text before before' after after' : List ℕ} {a b : Result Bool Refusal} → (AreaShort merged text (length before') → ⊥) →
      VerdictEnsures file text before a after →
      ((n : ℕ) → VerdictRow file text (length before) n → ⊥) → VerdictEnsures merged text before' b after' → a ≡ b
  verdicts {a = a} {b} enough x none y =
      let full = right_of none x.ensured in
      let less = right_of (none_at_all (question_free (others_free none)) enough) y.ensured in
      let one = one_sentence full.2.sentence less.2.sentence in
      let same =
      full.2.meant ∙
      kept.verdicts (map letter_of full.2.sentence.prefix) full.2.sentence.body ∙
      ap₂ (λ (ps : List Bool) (f : Formula). verdict (chain_in merged) (map letter_of ps) f) one.0 one.1 ∙
      sym less.2.meant in
      answer_told a b (full.1 ∙ ap gives same ∙ sym less.1)

  -- so is a question about a path formula at a tuple, at the tuple of the groups
  asked_free : {text tuple : List ℕ} {path : ℕ} → ((n : ℕ) → AskedRow file text tuple path n → ⊥) →
      (n : ℕ) → AskedRow merged text (map (group_of grouping) tuple) path n → ⊥
  asked_free none n (question r) = question_free (λ n r. none n (question r)) n r
  asked_free {tuple = tuple} none n (long s e) = none 15 (long s (λ x. e (length-map tuple (group_of grouping) ∙ x)))
  asked_free {tuple = tuple} none n (member e) =
      let inside = members_inside (fields_of file).n tuple (members none) in
      true≢false (sym (inside_members (kept.inside (length tuple) tuple inside)) ∙ e)
  asked_free none n (missing s e) = none 15 (missing s e)

  numerators : {text tuple before before' after after' : List ℕ} {path : ℕ} {a b : Result Ratio Refusal} →
      (AreaShort merged text (length before') → ⊥) →
      NumeratorEnsures file text tuple path before a after → ((n : ℕ) → NumeratorRow file text tuple path (length before) n → ⊥) →
      NumeratorEnsures merged text (map (group_of grouping) tuple) path before' b after' → a ≡ b
  numerators {tuple = tuple} {path = path} {a} {b} enough x none y =
      let full = right_of none x.ensured in
      let less = right_of (none_at_all (asked_free (others_free none)) enough) y.ensured in
      let s = full.2.sentence in
      let one = one_sentence s less.2.sentence in
      let p = numbered s.body path in
      let n = length s.prefix in
      let top =
      full.2.top ∙
      kept.numerators p n tuple (tuple_inside (others_free none) s) ∙
      ap₂ (λ (ps : List Bool) (f : Formula). numerator (numbered f path) (chain_in merged) (length ps) (map (group_of grouping) tuple))
      one.0 one.1 ∙
      sym less.2.top in
      let bottom =
      full.2.bottom ∙
      kept.denominators p n ∙
      ap₂ (λ (ps : List Bool) (f : Formula). denominator (numbered f path) (fields_of merged).d (length ps)) one.0 one.1 ∙
      sym less.2.bottom in
      answer_told a b (full.1 ∙ ap gives (λ i. record { numerator = top i; denominator = bottom i }) ∙ sym less.1)

  keeps : Keeps file grouping merged
  keeps = record {
    room = λ enough a. room_kept enough a;
    verdicts = λ enough x none y. verdicts enough x none y;
    numerators = λ enough x none y. numerators enough x none y;
  }

-- ---- when merge refuses

module _ {file grouping : List ℕ} {M room : ℕ} (asked : MergeAsked file grouping M room) where
  -- a stable grouping is not refused
  stable_free : Stable (chain_in file) (group_of grouping) M → merge_number file grouping room ≡ 0
  stable_free st =
      let m = fields_of file in
      let count = count_is (chain_in file) grouping M asked.long asked.grouped in
      let stable = subst (λ (k : ℕ). Stable (chain_in file) (group_of grouping) k) (sym count) st in
      file_accepted file grouping room asked.accepted ∙
      first_later 12 _ (ap not (grouping_is_right (chain_in file) grouping M asked.long asked.grouped)) ∙
      first_later 13 _ (ap not (stable_alike m grouping (fields_are_right file asked.accepted) stable)) ∙
      first_later 14 _ (le-ltb room (length (merged_file file grouping)) asked.fits) ∙
      first_none

module _ (file grouping : List ℕ) (M : ℕ) {before after : List ℕ} {w : Result ℕ Refusal}
    (asked : MergeAsked file grouping M (length before)) (writes : MergeEnsures file grouping before after w) where
  -- a stable grouping is not refused
  stable_unrefused : Stable (chain_in file) (group_of grouping) M → (n : ℕ) → reply_of w ≡ refuses n → ⊥
  unfolding merge_number
  stable_unrefused st n e =
      none_applies (merge_rows_ascend file grouping (length before)) (stable_free asked st) n
      (((demand_1.merge_call file grouping writes).refusal n).0 e).0

  -- one in which two states of a group differ is refused, with the number 13
  differ_refused : Differ (chain_in file) (group_of grouping) M → reply_of w ≡ refuses 13
  unfolding merge_number
  differ_refused differ =
      let here = (refused_13 file grouping (length before) asked.accepted M asked.long asked.grouped).1
      (λ st. stable_differ st differ) in
      ((demand_1.merge_call file grouping writes).refusal 13).1 (given_13 here)
    where
      given_13 : merge_number file grouping (length before) ≡ 13 →
          Applies 13 (merge_rows file grouping (length before)) × ((m : ℕ) → Applies m (merge_rows file grouping (length before)) → 13 ≤ m)
      given_13 e = by (subst (Given (merge_rows file grouping (length before))) e (merge_smallest file grouping (length before)))
        where
          by : Given (merge_rows file grouping (length before)) 13 →
              Applies 13 (merge_rows file grouping (length before)) × ((m : ℕ) → Applies m (merge_rows file grouping (length before)) →
              13 ≤ m)
          by (smallest-of row least) = (row, least)

  -- there is no third
  either : Stable (chain_in file) (group_of grouping) M ⊎ Differ (chain_in file) (group_of grouping) M
  either =
      settled (fields_of file) grouping (fields_are_right file asked.accepted) M
      (count_is (chain_in file) grouping M asked.long asked.grouped)

  refused_so : (reply_of w ≡ refuses 13) ↔ Differ (chain_in file) (group_of grouping) M
  refused_so = (λ e. ⊎_elim (λ st. absurd (stable_unrefused st 13 e)) (λ differ. differ) either, differ_refused)

  number_so : (n : ℕ) → reply_of w ≡ refuses n → n ≡ 13
  number_so n e = ⊎_elim (λ st. absurd (stable_unrefused st n e)) (λ differ. ap number_in (sym e ∙ differ_refused differ)) either

  -- otherwise the merged model is written
  written_so : Stable (chain_in file) (group_of grouping) M → MergedWritten file grouping w after
  unfolding merge_number
  written_so st =
      let free = none_applies (merge_rows_ascend file grouping (length before)) (stable_free asked st) in
      let right = right_of free writes.ensured in
      let size = right.0 in
      let wrote : MergeEnsures file grouping before after (Ok size) =
      subst (λ (x : Result ℕ Refusal). MergeEnsures file grouping before after x)
      (answer_told w (Ok size) right.1) writes in
      let kept = kept_written file grouping before after size wrote in
      let m = mergeable file grouping (length before) (stable_free asked st) in
      let front : take size after ≡ merged_file file grouping =
      ap (take size) right.2.left ∙ take_at right.2.text _ size (sym right.2.sized) ∙ right.2.asked in
      record {
        size = size;
        answered = right.1;
        front = front;
        accepted = kept.0;
        model = ap fields_of front ∙ merged_read file grouping m.accepted m.grouped m.alike;
        keeps = keeps file grouping (take size after) kept.0 kept.1;
      }

pub demand_3 : Demand3
demand_3 = record {
  refused = λ file grouping M asked writes. refused_so file grouping M asked writes;
  number = λ file grouping M asked writes. number_so file grouping M asked writes;
  written = λ file grouping M asked writes none.
      ⊎_elim (λ st. written_so file grouping M asked writes st) (λ differ. absurd (none differ)) (either file grouping M asked writes);
}
