-- Document 01, 'Examples on both sides': what the starred line on merging claims of files. The table of the lines is specs/Examples of
-- the crate `meaning`; `demands` has the one statement over all of it.
use Rattle.std.specs.Prelude.{◌≡◌, get_or, length}
use Rattle.counting.specs.Below.{table}
use Rattle.counting.specs.Entries.{cell}
use Rattle.model.specs.declared.Model.{Model}
use Rattle.model.specs.Layout.{model_of, file_of}
use Rattle.meaning.specs.Examples.{Sketch, Line, fraction, worth, answer, merges, refused_with}
use Rattle.merge.specs.Contract.{merge_number, merged_file}

-- the model that the document sketches: A = 1, version 0; masks, columns and rows from N on are zero
unfoldable pub model_of_sketch : Sketch → Model
model_of_sketch m =
    model_of (length m.rows) 1 m.D 0 (table 32 (λ s. get_or m.masks s 0))
    (table 32 (λ s. table 32 (cell m.rows s)))

-- what a line claims of merging a model's file, for an output of 3,072 bytes; a line on something else claims nothing of it
unfoldable pub MergeMet : Line → Type 0
MergeMet (fraction m text p s top bottom) = Unit
MergeMet (worth m text e s x) = Unit
MergeMet (answer m text letters body said) = Unit
MergeMet (merges m grouping result) =
    (merge_number (file_of (model_of_sketch m)) grouping 3072 ≡ 0) ×
    (merged_file (file_of (model_of_sketch m)) grouping ≡ file_of (model_of_sketch result))
MergeMet (refused_with m grouping number) = merge_number (file_of (model_of_sketch m)) grouping 3072 ≡ number
