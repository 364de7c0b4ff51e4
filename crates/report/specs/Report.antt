-- What program `both` prints for an input (document 01, 'The test procedure and its neighbours').
use Rattle.parsing.specs.declared.Refusal.{Refusal}
use Rattle.std.specs.Prelude.{ℕ, zero, suc, ◌+◌, ◌*◌, cond, List, [], ◌∷◌, ◌++◌, leb, ℤ, length, get_or, drop, Err, Ok, Result}
use Rattle.parsing.specs.Fields.{version_of, head, value_of}
use Rattle.parsing.specs.Refusals.{number_of}
use Rattle.text.specs.Text.{both_text, refused_text, no_header_text}
use Rattle.parsing.specs.Parser.{Verdict, accepted, refused, or_else, past_of}
use Rattle.memory.specs.Frame.{frame_size}
use Rattle.memory.specs.Call.{max_depth}
use Rattle.procedure_layout.specs.Layout.{spf}
use Rattle.procedure_file.specs.Check.{check_of}
use Rattle.translator.specs.Translated.{translation_of, room_verdict}
use Rattle.runs.specs.Tells.{Tells, refuses, tells}
use Rattle.agreement.specs.Sides.{SidesSummary, sides_tell}

-- A field of 16 bits, and one of 32, the low byte first.
abbrev pub pair_of : ℕ → ℕ → ℕ
pair_of b0 b1 = b0 + 256 * b1

abbrev pub word_of : ℕ → ℕ → ℕ → ℕ → ℕ
word_of b0 b1 b2 b3 = b0 + 256 * b1 + 65536 * b2 + 16777216 * b3

-- "Program `both` reads argument count (1 byte), arguments (4 each), depth (2), budget (4), then a procedure file."
abbrev pub count_of : List ℕ → ℕ
count_of s = get_or s 0 0

unfoldable pub argument_at : List ℕ → ℕ → ℤ
argument_at s i = value_of (get_or s (4 * i + 1) 0) (get_or s (4 * i + 2) 0) (get_or s (4 * i + 3) 0) (get_or s (4 * i + 4) 0)

-- The first n arguments.
abbrev pub arguments_of : List ℕ → ℕ → List ℤ
arguments_of s zero = []
arguments_of s (suc n) = arguments_of s n ++ (argument_at s n ∷ [])

unfoldable pub depth_of : List ℕ → ℕ
depth_of s =
    let at = 4 * count_of s + 1 in
    pair_of (get_or s at 0) (get_or s (at + 1) 0)

unfoldable pub budget_of : List ℕ → ℕ
budget_of s =
    let at = 4 * count_of s + 3 in
    word_of (get_or s at 0) (get_or s (at + 1) 0) (get_or s (at + 2) 0) (get_or s (at + 3) 0)

-- The first four fields have 4 n + 7 bytes for n arguments.
abbrev pub header_of : List ℕ → ℕ
header_of s = 4 * count_of s + 7

-- Both runs on a file of a version, or the refusal.
unfoldable pub sides_text : ℕ → Tells SidesSummary → List ℕ
sides_text version (refuses reason place) = refused_text (number_of reason) place
sides_text version (tells t) = both_text version t.target t.bench.result.stop t.bench.result.steps t.controller.stop t.controller.steps

-- The text by a verdict: the refusal, or that of what was accepted.
abbrev pub text_by : Verdict → List ℕ → List ℕ
text_by accepted text = text
text_by (refused reason place) text = refused_text (number_of reason) place

-- Of an accepted file: "it lends 8,192 bytes for the translation, made before either run, so its 16 comes before a run's 14." Each machine
-- is lent 48 words for each of 256 frames.
unfoldable pub loaded_text : List ℕ → List ℤ → ℕ → ℕ → List ℕ
loaded_text s args depth budget = text_by (room_verdict (length (translation_of s)) 8192) (sides_text (version_of s) (sides_tell s 0 args depth budget (frame_size * max_depth) 8192 (frame_size * max_depth)))

-- Whether a part was read.
abbrev pub read_verdict : Result ℕ Refusal → Verdict
read_verdict (Ok next) = accepted
read_verdict (Err r) = refused r.reason r.place

-- "Its file limit is 2,048 (15 at 2048)": the head of the file is read by that limit first, then come the file's own checks.
unfoldable pub file_verdict : List ℕ → Verdict
file_verdict s = or_else (read_verdict (past_of (head spf 2048 s 0))) (check_of s)

unfoldable pub file_text : List ℕ → List ℤ → ℕ → ℕ → List ℕ
file_text s args depth budget = text_by (file_verdict s) (loaded_text s args depth budget)

-- "Input ending inside the first four fields prints `no header`."
unfoldable pub text_of : List ℕ → List ℕ
text_of s = cond (leb (header_of s) (length s)) (file_text (drop (header_of s) s) (arguments_of s (count_of s)) (depth_of s) (budget_of s)) no_header_text
