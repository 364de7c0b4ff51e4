-- Document 02, Slip 4: "Merge two accepted files". The answer and the output for every input.
use Rattle.std.specs.Prelude.{ℕ, ◌≡◌, List, leb, eqb, length}
use Rattle.semantics.specs.Merge.{merged}
use Rattle.parsing.specs.declared.reason.Reason.TheVariants.{WrongVersion, NoRoom, MergedTooLarge}
use Rattle.parsing.specs.Parser.{Verdict, accepted, or_else, refused_unless}
use Rattle.parsing.specs.Fields.{version_of}
use Rattle.parsing.specs.Bytes.{Bytes}
use Rattle.runs.specs.Tells.{Tells, by_verdict, leaves}
use Rattle.procedure_layout.specs.Layout.{file_limit, max_functions}
use Rattle.procedure_names.specs.Writing.{writing}
use Rattle.procedure_file.specs.Check.{check_of, program_of}

-- The merged file: the writing of the two files' programs, merged.
unfoldable pub merged_of : List ℕ → List ℕ → List ℕ
merged_of s t = writing (merged (program_of s) (program_of t))

-- "Merging two versions is refused 2 at place 3 of the second, just before 22" (document 02, Slip 7).
unfoldable pub version_verdict : List ℕ → List ℕ → Verdict
version_verdict s t = refused_unless (eqb (version_of s) (version_of t)) WrongVersion 3

-- "22 when the merged file would have over 32 functions or 32,768 bytes, at 0 ..; then 16 when the lent output is too short."
unfoldable pub size_verdict : (functions bytes room : ℕ) → Verdict
size_verdict functions bytes room =
    or_else (refused_unless (leb functions max_functions) MergedTooLarge 0)
    (or_else (refused_unless (leb bytes file_limit) MergedTooLarge 0) (refused_unless (leb bytes room) NoRoom 0))

-- Of two accepted files.
unfoldable pub files_verdict : List ℕ → List ℕ → ℕ → Verdict
files_verdict s t room = or_else (version_verdict s t) (size_verdict (length (merged (program_of s) (program_of t))) (length (merged_of s t)) room)

-- ".. after both files' checks, the first file's before the second's".
unfoldable pub merge_verdict : List ℕ → List ℕ → ℕ → Verdict
merge_verdict s t room = or_else (check_of s) (or_else (check_of t) (files_verdict s t room))

-- The answer for two files and an output of some length.
unfoldable pub answer_of : List ℕ → List ℕ → ℕ → Tells ℕ
answer_of s t room = by_verdict (merge_verdict s t room) (length (merged_of s t))

-- What the output holds afterwards: "Output past the merged file keeps what it held."
unfoldable pub output_of : List ℕ → List ℕ → List ℕ → List ℕ
output_of s t out = leaves (merge_verdict s t (length out)) (merged_of s t) out

-- What is claimed of the file that is written, which AcceptedLaws proves: it is accepted, and its program is the merged one.
pub record MergedFile (s t : List ℕ) : Type 0 where
  pub bytes : Bytes (merged_of s t)
  pub is_accepted : check_of (merged_of s t) ≡ accepted
  pub program : program_of (merged_of s t) ≡ merged (program_of s) (program_of t)

abbrev pub MergesAccepted : Type 0
MergesAccepted = (s t : List ℕ) → Bytes s → Bytes t → (room : ℕ) → merge_verdict s t room ≡ accepted → MergedFile s t
