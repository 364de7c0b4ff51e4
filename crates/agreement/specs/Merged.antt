-- Document 02, Slip 4, over files: "Started at its old or raised number, a function ends as before with the same steps, on the bench and, if
-- the merged translation fits, on the controller." MergedLaws.antt proves it.
use Rattle.std.specs.Prelude.{ℕ, ◌+◌, ◌≤◌, ◌<◌, ◌≡◌, ◌↔◌, List, ℤ, length}
use Rattle.semantics.specs.Program.{FunctionNumber, function_of}
use Rattle.semantics.specs.Run.{Forever, summary}
use Rattle.semantics.specs.Merge.{RunsAlike}
use Rattle.parsing.specs.Parser.{accepted}
use Rattle.parsing.specs.Bytes.{Bytes}
use Rattle.target_tags.specs.Tag.{file_limit}
use Rattle.procedure_file.specs.Check.{program_of}
use Rattle.translator.specs.Translated.{translation_of}
use Rattle.bench.specs.Published.{bench_tells}
use Rattle.controller.specs.Published.{controller_tells}
use Rattle.merge.specs.Merged.{merged_of, merge_verdict}
use Rattle.agreement.specs.Statement.{entry_of, translation_run}

-- Function g of the file r is as function f of the file s was.
pub record AsBefore (s : List ℕ) (f : FunctionNumber) (r : List ℕ) (g : FunctionNumber) : Type 0 where
  -- By the rules, at every depth limit and budget: the bench stops alike, with the same steps and extras ..
  pub bench_runs : (args : List ℤ) → length args ≡ (function_of (program_of s) f).params → RunsAlike (program_of s) f (program_of r) g args
  -- .. and so does the controller, each on its file's translation, at that function's entry: it ends alike in as many steps, stops deep
  -- alike, is spent alike, and runs on for ever alike.
  pub controller_runs : length (translation_of r) ≤ file_limit → (args : List ℤ) → length args ≡ (function_of (program_of s) f).params → (depth : ℕ)
      → ((budget : ℕ) → summary (translation_run r g args depth budget) ≡ summary (translation_run s f args depth budget))
      × (Forever (translation_run r g args depth) ↔ Forever (translation_run s f args depth))
  -- The machines answer alike, whatever the call: the same end, steps and extras, or the same refusal.
  pub bench_answers : (args : List ℤ) (depth budget words : ℕ) → bench_tells r g args depth budget words ≡ bench_tells s f args depth budget words
  pub controller_answers : length (translation_of r) ≤ file_limit → (args : List ℤ) (depth budget words : ℕ)
      → controller_tells (translation_of r) (entry_of r g) args depth budget words ≡ controller_tells (translation_of s) (entry_of s f) args depth budget words

-- "the first's functions keep their numbers, the second's are raised by the first's count".
pub record MergedAsBefore (s t : List ℕ) : Type 0 where
  pub first : (f : FunctionNumber) → f < length (program_of s) → AsBefore s f (merged_of s t) f
  pub second : (f : FunctionNumber) → f < length (program_of t) → AsBefore t f (merged_of s t) (length (program_of s) + f)

-- Of every two files that can be merged.
abbrev pub FilesMerge : Type 0
FilesMerge = (s t : List ℕ) → Bytes s → Bytes t → (room : ℕ) → merge_verdict s t room ≡ accepted → MergedAsBefore s t
