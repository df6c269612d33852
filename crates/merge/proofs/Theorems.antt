-- What is promised of merge beside its contract, said of its definitions: the number given is the smallest that applies,
-- the merged file is always accepted, and what it says is what the full file says (document 00, demand 3).
use Prim.Native.Nat.{ℕ, zero, suc, ◌≤◌}
use mathlib.Core.Bool.{true, not}
use mathlib.Core.List.{List, []}
use mathlib.Core.Path.{◌≡◌, refl, sym, ap, subst, ◌∙◌}
use native.Mathlib.Nat.{pow-le-pow_left}
use native.Mathlib.Omega.{arith}
use borrow.Author.Tests.{not-false, ltb-false}
use lib.Dec.{ltb}
use lib.ListN.{length, take}
use lib.Seq.{take_at}
use Rattle.counting.proofs.Laws.{length_table, table_at}
use Rattle.refusal.specs.Rows.{Applies, Given}
use Rattle.refusal.specs.Answers.{gives, Ensured, refused, answered, TextAtFront}
use Rattle.std.specs.Prelude.{Ok}
use Rattle.refusal.proofs.Listed.{list_number}
use Rattle.refusal.proofs.Laws.{smallest, none_here}
use Rattle.model.specs.declared.Model.{Model}
use Rattle.model.specs.Layout.{Shaped, fields_of}
use Rattle.model.specs.Rules.{fields_right, rows_right}
use Rattle.model.specs.Contract.{file_number}
use Rattle.model.proofs.Roundtrip.{fields_written, file_written}
use Rattle.meaning.specs.Chain.{tuple_count}
use Rattle.meaning.proofs.Merging as merging
use Rattle.chain.specs.Of.{chain_of}
use Rattle.chain.proofs.Accepted.{fields_are_right, rows_are_right}
use Rattle.chain.proofs.Right.{sound_right}
use Rattle.groups.specs.Groups.{group_of, grouping_right, groups_alike, merged_model}
use Rattle.merge.specs.Contract.{merge_rows, merge_number, merged_file, MergeEnsures}
use Rattle.merge.specs.Keeping.{MergingKeeps}
use Rattle.groups.proofs.Grouped.{count_few}
use Rattle.merge.proofs.Merging.{merged_chain, fields_merged, rows_merged}
use Rattle.merge.proofs.Numbers.{merge_rows_ascend, file_refused, file_accepted}
use Rattle.merge.proofs.Shape.{shaped}

-- ---- the smallest number that applies

pub merge_smallest : (file grouping : List ℕ) (room : ℕ) → Given (merge_rows file grouping room) (merge_number file grouping room)
unfolding merge_number
merge_smallest file grouping room = smallest (merge_rows_ascend file grouping room)

-- ---- what is not refused

pub record Mergeable (file grouping : List ℕ) (room : ℕ) : Type 0 where
  pub accepted : file_number file ≡ 0
  pub grouped : grouping_right (fields_of file).n grouping ≡ true
  pub alike : groups_alike (fields_of file) grouping ≡ true
  pub fits : length (merged_file file grouping) ≤ room

pub mergeable : (file grouping : List ℕ) (room : ℕ) → merge_number file grouping room ≡ 0 → Mergeable file grouping room
mergeable file grouping room e = look (file_number file) refl
  where
    look : (n : ℕ) → file_number file ≡ n → Mergeable file grouping room
    look (suc k) p =
        let q = file_refused file grouping room (suc k) (omega arith) p in
        absurd (omega arith)
    look zero p =
        let m = fields_of file in
        let own = sym (file_accepted file grouping room p) ∙ e in
        let twelve = none_here 11 (not (grouping_right m.n grouping)) _ own in
        let thirteen = none_here 12 (not (groups_alike m grouping)) _ twelve.1 in
        let last = none_here 13 (ltb room (length (merged_file file grouping))) [] thirteen.1 in
        record {
          accepted = p;
          grouped = not-false _ twelve.0;
          alike = not-false _ thirteen.0;
          fits = ltb-false room (length (merged_file file grouping)) last.0;
        }

-- ---- the merged file

-- the merged model of a right model can stand in a file
shaped_merged : (m : Model) (grouping : List ℕ) → fields_right (merged_model m grouping) ≡ true →
    rows_right (merged_model m grouping) ≡ true → Shaped (merged_model m grouping)
unfolding merged_model
shaped_merged m grouping fields adds =
    shaped (merged_model m grouping) fields adds (length_table 32 _) (length_table 32 _)
    (λ s l. ap length (table_at 32 _ [] s l) ∙ length_table 32 _)

module _ (file grouping : List ℕ) (accepted : file_number file ≡ 0) (grouped : grouping_right (fields_of file).n grouping ≡ true)
    (alike : groups_alike (fields_of file) grouping ≡ true) where
  right : (fields_right (merged_model (fields_of file) grouping) ≡ true) × (rows_right (merged_model (fields_of file) grouping) ≡ true)
  right =
      let fields = fields_are_right file accepted in (
        fields_merged (fields_of file) grouping fields grouped,
        rows_merged (fields_of file) grouping fields grouped alike (rows_are_right file accepted),
      )

  -- the merged file is always accepted by the reader
  pub merged_accepted : file_number (merged_file file grouping) ≡ 0
  merged_accepted =
      let r = right in
      file_written (merged_model (fields_of file) grouping) r.0 r.1
      (shaped_merged (fields_of file) grouping r.0 r.1)

  -- and what is read from it is the merged model
  pub merged_read : fields_of (merged_file file grouping) ≡ merged_model (fields_of file) grouping
  merged_read =
      let r = right in
      fields_written (merged_model (fields_of file) grouping) r.0 r.1
      (shaped_merged (fields_of file) grouping r.0 r.1)

-- ---- demand 3

-- a model with right fields and rows and its merged model
pub kept : (m : Model) (grouping : List ℕ) → fields_right m ≡ true → rows_right m ≡ true →
    grouping_right m.n grouping ≡ true → groups_alike m grouping ≡ true → MergingKeeps m (group_of grouping) (merged_model m grouping)
unfolding merged_model tuple_count
kept m grouping fields adds grouped alike =
    let full = chain_of m in
    let group = group_of grouping in
    let merged = chain_of (merged_model m grouping) in
    let is = merged_chain m grouping fields grouped alike adds in
    let sound = sound_right m fields adds in
    record {
      labels = refl;
      sizes = λ body n e. e;
      tuples = λ n. pow-le-pow_left (count_few full grouping grouped) n;
      numerators = λ p n s i. merging.numerator_merged full group merged is sound p n i;
      denominators = λ p n. refl;
      inside = λ n s i. merging.groups_inside full group merged is i;
      verdicts = λ letters body. merging.verdict_merged full group merged is sound letters body;
    }

-- of a file that merge does not refuse and the file that it is merged to
pub kept_file : (file grouping : List ℕ) → file_number file ≡ 0 → grouping_right (fields_of file).n grouping ≡ true →
    groups_alike (fields_of file) grouping ≡ true →
    MergingKeeps (fields_of file) (group_of grouping) (fields_of (merged_file file grouping))
kept_file file grouping accepted grouped alike =
    subst (λ (m : Model). MergingKeeps (fields_of file) (group_of grouping) m) (sym (merged_read file grouping accepted grouped alike))
    (kept (fields_of file) grouping (fields_are_right file accepted) (rows_are_right file accepted) grouped alike)

-- of the bytes that merge leaves: where it answers that it wrote so many, those at the front of the output are a file that
-- the reader accepts and that keeps what the full file says
pub kept_written : (file grouping before after : List ℕ) (size : ℕ) →
    MergeEnsures file grouping before after (Ok size) →
    (file_number (take size after) ≡ 0) × MergingKeeps (fields_of file) (group_of grouping) (fields_of (take size after))
unfolding merge_number
kept_written file grouping before after size w = by w.ensured
  where
    Result : List ℕ → Type 0
    Result written = (file_number written ≡ 0) × MergingKeeps (fields_of file) (group_of grouping) (fields_of written)

    free : merge_number file grouping (length before) ≡ 0
    free = sym (list_number (merge_rows_ascend file grouping (length before)) w.ensured)

    by : Ensured (λ n. Applies n (merge_rows file grouping (length before)))
        (TextAtFront (λ t. t ≡ merged_file file grouping) before) before (gives size) after →
        Result (take size after)
    by (refused {n} e l row least) =
        let z : ◌≡◌ {A = ℕ} 0 1 = cc in
        absurd (omega arith)
    by (answered {v} e right none) =
        let text = right.text in
        let long : length text ≡ size = sym right.sized ∙ sym (cc e) in
        let m = mergeable file grouping (length before) free in
        let same : take size after ≡ merged_file file grouping = ap (take size) right.left ∙ take_at text _ size long ∙ right.asked in
        subst Result (sym same) (
          merged_accepted file grouping m.accepted m.grouped m.alike,
          kept_file file grouping m.accepted m.grouped m.alike,
        )
