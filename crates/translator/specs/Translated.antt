-- The translator's answer and output for every input (document 01, 'What is turned down'): the file's own checks, 1 to 10 and 15; then
-- 17; then 16.
use Rattle.std.specs.Prelude.{ℕ, List, leb, length}
use Rattle.semantics.specs.Translation.{translate}
use Rattle.parsing.specs.declared.reason.Reason.TheVariants.{NoRoom, TranslationTooLong}
use Rattle.parsing.specs.Parser.{Verdict, or_else, refused_unless}
use Rattle.target_tags.specs.Tag.{file_limit}
use Rattle.runs.specs.Tells.{Tells, by_verdict, leaves}
use Rattle.procedure_file.specs.Check.{check_of, program_of}
use Rattle.target_file.specs.Writing.{writing}

-- The translated file of a procedure file: the writing of the translation of the program that the file is.
unfoldable pub translation_of : List ℕ → List ℕ
translation_of s = writing (translate (program_of s))

-- "17 translation above 65,535 bytes"; "16 .. a lent buffer too short (.. the whole translation)"; "then 14, 17, 16. Places of 14, 16 and
-- 17 are 0."
unfoldable pub room_verdict : (bytes room : ℕ) → Verdict
room_verdict bytes room = or_else (refused_unless (leb bytes file_limit) TranslationTooLong 0) (refused_unless (leb bytes room) NoRoom 0)

-- The file's own checks, 1 to 10 and 15; then 17; then 16.
unfoldable pub translate_verdict : List ℕ → ℕ → Verdict
translate_verdict s room = or_else (check_of s) (room_verdict (length (translation_of s)) room)

-- The answer for a file and an output of some length.
unfoldable pub answer_of : List ℕ → ℕ → Tells ℕ
answer_of s room = by_verdict (translate_verdict s room) (length (translation_of s))

-- What the output holds afterwards.
unfoldable pub output_of : List ℕ → List ℕ → List ℕ
output_of s out = leaves (translate_verdict s (length out)) (translation_of s) out
