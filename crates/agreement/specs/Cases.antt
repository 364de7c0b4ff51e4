-- Document 01's starred cases ('The test procedure and its neighbours'), as one table under one theorem, by computation of the rules
-- from the bytes of the files. Steps are bench, controller. Document 02, Slip 2: "The wrap case becomes: raises." Rows of version 2 (Slip 7) follow.
use Rattle.parsing.specs.declared.reason.Reason.TheVariants.{CalleeArity, EndsEarly, LeftOver, MissingLabel, MissingVariable, Unknown, WrongMark, WrongVersion}
use Rattle.std.specs.Prelude.{ℕ, ◌*◌, ◌≡◌, refl, List, [], ◌∷◌, ◌++◌, ℤ, pos, take, drop, set}
use Rattle.semantics.specs.Value.{least, in_range, at_most}
use Rattle.semantics.specs.Run.{value, uncaught, Stop, ended, spent, deep}
use Rattle.semantics.specs.Bench.{step, bench}
use Rattle.semantics.specs.WellFormed.{All}
use Rattle.semantics.specs.Controller.{control_step, controller}
use Rattle.semantics.specs.Translation.{code, translate}
use Rattle.semantics.specs.Extras.{extras}
use Rattle.parsing.specs.Parser.{Verdict, accepted, refused}
use Rattle.parsing.specs.Refusals.{number_of}
use Rattle.parsing.specs.Fields as Fields
use Rattle.procedure_operations.specs.Operation as Operation
use Rattle.procedure_layout.specs.Layout as Layout
use Rattle.procedure_names.specs.Names as Names
use Rattle.procedure_file.specs.Check.{check_of, program_of}
use Rattle.target_tags.specs.Tag as Tag
use Rattle.target_names.specs.Names as TagNames
use Rattle.target_file.specs.Check as Target
use Rattle.target_parts.specs.Parts as Parts
use Rattle.target_expressions.specs.Expressions as Expressions
use Rattle.target_layout.specs.Layout as TargetLayout
use Rattle.target_file.specs.Writing as Writing
use Rattle.translator.specs.Translated.{translation_of, room_verdict}
use Rattle.memory.specs.Frame.{frame_size}
use Rattle.memory.specs.Call.{max_depth, start_verdict, arguments_verdict, words_verdict}
use Rattle.runs.specs.Tells.{tells}
use Rattle.agreement.specs.Statement.{controller_budget}
use Rattle.agreement.specs.Sides.{call_verdict, sides_verdict, sides_tell}

-- File T.
abbrev pub file_t : List ℕ
file_t =
    0x53 ∷ 0x50 ∷ 0x46 ∷ 1 ∷ 0 ∷ 2 ∷
    1 ∷ 1 ∷ 2 ∷
    5 ∷ 1 ∷
    2 ∷ 4 ∷ 1 ∷ 1 ∷ 1 ∷ 0 ∷ 6 ∷ 1 ∷
    0 ∷ 1 ∷ 1 ∷ 7 ∷ 0 ∷ 0 ∷ 0 ∷ 6 ∷ 1 ∷
    1 ∷ 1 ∷ 2 ∷
    7 ∷ 0 ∷ 1 ∷ 1 ∷ 2 ∷
    0 ∷ 8 ∷
    0 ∷ 6 ∷ 0 ∷ []

-- Main without variables that only raises.
abbrev pub only_raises : List ℕ
only_raises = 0x53 ∷ 0x50 ∷ 0x46 ∷ 1 ∷ 0 ∷ 1 ∷ 0 ∷ 0 ∷ 0 ∷ 8 ∷ []

-- Main, one local: goto 1; label 1, handler 2: call a function that has one local and returns it, then raise; label 2: return the local.
abbrev pub calls_then_raises : List ℕ
calls_then_raises =
    0x53 ∷ 0x50 ∷ 0x46 ∷ 1 ∷ 0 ∷ 2 ∷
    0 ∷ 1 ∷ 2 ∷
    5 ∷ 1 ∷
    2 ∷ 4 ∷ 0 ∷ 1 ∷ 0 ∷ 8 ∷
    0 ∷ 6 ∷ 0 ∷
    0 ∷ 1 ∷ 0 ∷
    6 ∷ 0 ∷ []

-- Main, two arguments: the first less the second into the first, which is returned.
abbrev pub subtracts : List ℕ
subtracts = 0x53 ∷ 0x50 ∷ 0x46 ∷ 1 ∷ 0 ∷ 1 ∷ 2 ∷ 0 ∷ 0 ∷ 3 ∷ 0 ∷ 0 ∷ 1 ∷ 6 ∷ 0 ∷ []

-- The same in a block, label 1, whose handler, label 2, returns the first argument.
abbrev pub subtracts_guarded : List ℕ
subtracts_guarded =
    0x53 ∷ 0x50 ∷ 0x46 ∷ 1 ∷ 0 ∷ 1 ∷
    2 ∷ 0 ∷ 2 ∷
    5 ∷ 1 ∷
    2 ∷ 3 ∷ 0 ∷ 0 ∷ 1 ∷ 6 ∷ 0 ∷
    0 ∷ 6 ∷ 0 ∷ []

-- The same, the difference in a function that the block calls.
abbrev pub subtracts_called : List ℕ
subtracts_called =
    0x53 ∷ 0x50 ∷ 0x46 ∷ 1 ∷ 0 ∷ 2 ∷
    2 ∷ 0 ∷ 2 ∷
    5 ∷ 1 ∷
    2 ∷ 4 ∷ 0 ∷ 1 ∷ 2 ∷ 0 ∷ 1 ∷ 6 ∷ 0 ∷
    0 ∷ 6 ∷ 0 ∷
    2 ∷ 0 ∷ 0 ∷
    3 ∷ 0 ∷ 0 ∷ 1 ∷ 6 ∷ 0 ∷ []

-- Slip 7, files of version 2. Main, one argument: in a block, label 1, whose handler is label 2, it is raised; label 2 receives it in the same
-- variable, which is returned.
abbrev pub receives_itself : List ℕ
receives_itself =
    0x53 ∷ 0x50 ∷ 0x46 ∷ 2 ∷ 0 ∷ 1 ∷
    1 ∷ 0 ∷ 2 ∷
    5 ∷ 1 ∷
    2 ∷ 255 ∷ 9 ∷ 0 ∷
    0 ∷ 0 ∷ 6 ∷ 0 ∷ []

-- Main, one argument, which is raised.
abbrev pub raises_argument : List ℕ
raises_argument = 0x53 ∷ 0x50 ∷ 0x46 ∷ 2 ∷ 0 ∷ 1 ∷ 1 ∷ 0 ∷ 0 ∷ 9 ∷ 0 ∷ []

-- Main without variables that only raises.
abbrev pub only_raises_zero : List ℕ
only_raises_zero = 0x53 ∷ 0x50 ∷ 0x46 ∷ 2 ∷ 0 ∷ 1 ∷ 0 ∷ 0 ∷ 0 ∷ 8 ∷ []

-- Main, one argument: a block, label 1, whose handler is label 2, calls function 1, which makes its argument 7 and calls function 2 with it, which
-- raises it; label 2 receives it two frames up in the argument, which is returned.
abbrev pub raises_two_frames_up : List ℕ
raises_two_frames_up =
    0x53 ∷ 0x50 ∷ 0x46 ∷ 2 ∷ 0 ∷ 3 ∷
    1 ∷ 0 ∷ 2 ∷
    5 ∷ 1 ∷
    2 ∷ 255 ∷ 4 ∷ 0 ∷ 1 ∷ 1 ∷ 0 ∷ 6 ∷ 0 ∷
    0 ∷ 0 ∷ 6 ∷ 0 ∷
    1 ∷ 0 ∷ 0 ∷
    1 ∷ 0 ∷ 7 ∷ 0 ∷ 0 ∷ 0 ∷ 4 ∷ 0 ∷ 2 ∷ 1 ∷ 0 ∷ 6 ∷ 0 ∷
    1 ∷ 0 ∷ 0 ∷
    9 ∷ 0 ∷ []

-- Main, two arguments: in a block, label 1, whose handler is label 2, the first less the second; label 2 receives the number of a difference out of
-- range in the second, which is returned.
abbrev pub receives_misfit : List ℕ
receives_misfit =
    0x53 ∷ 0x50 ∷ 0x46 ∷ 2 ∷ 0 ∷ 1 ∷
    2 ∷ 0 ∷ 2 ∷
    5 ∷ 1 ∷
    2 ∷ 255 ∷ 3 ∷ 0 ∷ 0 ∷ 1 ∷ 6 ∷ 0 ∷
    0 ∷ 1 ∷ 6 ∷ 1 ∷ []

-- Slip 7, the slots behind the variables. Main, one argument: a block, label 1, whose handler, label 2, receives nothing, calls function 1, which raises;
-- label 2 makes the argument the difference of itself and itself, and raises it.
abbrev pub receives_nothing : List ℕ
receives_nothing =
    0x53 ∷ 0x50 ∷ 0x46 ∷ 2 ∷ 0 ∷ 2 ∷
    1 ∷ 0 ∷ 2 ∷
    5 ∷ 1 ∷
    2 ∷ 255 ∷ 4 ∷ 0 ∷ 1 ∷ 1 ∷ 0 ∷ 6 ∷ 0 ∷
    0 ∷ 255 ∷ 3 ∷ 0 ∷ 0 ∷ 0 ∷ 9 ∷ 0 ∷
    1 ∷ 0 ∷ 0 ∷
    8 ∷ []

-- Its translation, a function a line group: V is 1, so the new continuation is in slot 3, the new handler in 4, and V+4 is 5.
abbrev pub receives_nothing_translated : List ℕ
receives_nothing_translated =
    0x53 ∷ 0x50 ∷ 0x43 ∷ 2 ∷ 0 ∷ 4 ∷ 0 ∷
    1 ∷ 7 ∷ 0 ∷ 4 ∷ 1 ∷ 0 ∷ 0 ∷ 1 ∷ 1 ∷ 2 ∷
    1 ∷ 26 ∷ 0 ∷ 9 ∷ 3 ∷ 2 ∷ 4 ∷ 5 ∷
    7 ∷ 0 ∷ 4 ∷ 3 ∷ 0 ∷ 3 ∷ 4 ∷ 1 ∷ 2 ∷
    7 ∷ 0 ∷ 4 ∷ 2 ∷ 0 ∷ 0 ∷ 1 ∷ 1 ∷ 2 ∷
    5 ∷ 0 ∷ 2 ∷
    1 ∷ 18 ∷ 0 ∷ 10 ∷ 2 ∷ 2 ∷ 2 ∷
    9 ∷ 0 ∷ 1 ∷ 5 ∷ 0 ∷ 0 ∷ 0 ∷ 0 ∷ 6 ∷ 1 ∷ 5 ∷
    6 ∷ 1 ∷ 2 ∷
    1 ∷ 9 ∷ 0 ∷ 1 ∷ 5 ∷ 0 ∷ 0 ∷ 0 ∷ 0 ∷ 6 ∷ 1 ∷ 5 ∷ []

-- The translation of T: main's entry and its two blocks, then those of function 1. V is 2, so the new continuation is in slot 4, the new handler in 5.
abbrev pub file_t_translated : List ℕ
file_t_translated =
    0x53 ∷ 0x50 ∷ 0x43 ∷ 1 ∷ 0 ∷ 6 ∷ 0 ∷
    1 ∷ 14 ∷ 0 ∷ 1 ∷ 3 ∷ 0 ∷ 0 ∷ 0 ∷ 0 ∷ 4 ∷ 1 ∷ 0 ∷ 0 ∷ 1 ∷ 2 ∷ 2 ∷ 3 ∷
    2 ∷ 26 ∷ 0 ∷ 9 ∷ 4 ∷ 3 ∷ 5 ∷
    7 ∷ 0 ∷ 4 ∷ 3 ∷ 0 ∷ 4 ∷ 5 ∷ 1 ∷ 2 ∷
    8 ∷ 0 ∷ 4 ∷ 2 ∷ 0 ∷ 0 ∷ 1 ∷ 2 ∷ 2 ∷ 3 ∷
    5 ∷ 0 ∷ 3 ∷
    2 ∷ 9 ∷ 0 ∷ 1 ∷ 3 ∷ 7 ∷ 0 ∷ 0 ∷ 0 ∷ 5 ∷ 0 ∷ 3 ∷
    1 ∷ 27 ∷ 0 ∷ 1 ∷ 3 ∷ 0 ∷ 0 ∷ 0 ∷ 0 ∷ 7 ∷ 2 ∷ 3 ∷
    8 ∷ 0 ∷ 4 ∷ 4 ∷ 0 ∷ 0 ∷ 1 ∷ 2 ∷ 2 ∷ 3 ∷
    4 ∷ 5 ∷ 0 ∷ 0 ∷ 1 ∷ 2 ∷ 2 ∷ 3 ∷
    2 ∷ 2 ∷ 0 ∷ 6 ∷ 1 ∷
    2 ∷ 3 ∷ 0 ∷ 5 ∷ 0 ∷ 2 ∷ []

-- A row of the table.
pub data Row : Type 0 where
  -- A file, the number that document 01 gives its refusal, and the checker's answer.
  checks : List ℕ → ℕ → Verdict → Row
  -- A file and one byte, whatever byte it is, the number of its refusal, and the checker's answer.
  checks_with_one_more : List ℕ → ℕ → Verdict → Row
  -- A file, and the bytes of its translation.
  translates : List ℕ → List ℕ → Row
  -- File, arguments, depth, budget; the bytes of the translation; how both machines stop; bench steps, extras, controller steps.
  runs : List ℕ → List ℤ → ℕ → ℕ → ℕ → Stop (Unit {0}) → ℕ → ℕ → ℕ → Row

-- The number of a refusal; 0 where the file is accepted.
abbrev pub number_in : Verdict → ℕ
number_in accepted = 0
number_in (refused reason place) = number_of reason

abbrev pub Holds : Row → Type 0
Holds (checks s n v) = (check_of s ≡ v) × (number_in v ≡ n)
Holds (checks_with_one_more s n v) = ((b : ℕ) → check_of (s ++ b ∷ []) ≡ v) × (number_in v ≡ n)
Holds (translates s t) = translation_of s ≡ t
Holds (runs s args depth budget target stop n x m) =
    sides_tell s 0 args depth budget (frame_size * max_depth) 8192 (frame_size * max_depth)
    ≡ tells
    (record {
      target = target;
      bench = record { result = record { stop = stop; steps = n }; extras = x };
      controller = record { stop = stop; steps = m };
    })

abbrev pub table : List Row
table =
    runs file_t (pos 5 ∷ []) 256 100 106 (ended (value (pos 5))) 5 4 9
    ∷ runs file_t (pos 0 ∷ []) 256 100 106 (ended (value (pos 7))) 6 5 11
    ∷ runs file_t (pos 5 ∷ []) 0 100 106 (deep tt) 1 1 2
    ∷ runs file_t (pos 5 ∷ []) 256 0 106 (spent tt) 0 1 1
    ∷ runs file_t (pos 5 ∷ []) 256 4 106 (spent tt) 4 4 8
    ∷ runs file_t (pos 5 ∷ []) 256 5 106 (ended (value (pos 5))) 5 4 9
    ∷ runs subtracts (least ∷ pos 1 ∷ []) 256 100 21 (ended (uncaught (pos 0))) 1 1 2
    ∷ runs subtracts (least ∷ pos 0 ∷ []) 256 100 21 (ended (value least)) 2 0 2
    ∷ runs subtracts_guarded (least ∷ pos 1 ∷ []) 256 100 44 (ended (value least)) 3 1 4
    ∷ runs subtracts_called (least ∷ pos 1 ∷ []) 256 100 68 (ended (value least)) 4 3 7
    ∷ checks [] 3 (refused EndsEarly 0)
    ∷ checks (0x53 ∷ 0x50 ∷ 0x47 ∷ []) 1 (refused WrongMark 2)
    ∷ checks (take 40 file_t) 3 (refused EndsEarly 40)
    ∷ checks_with_one_more file_t 4 (refused LeftOver 41)
    ∷ checks (set file_t 11 3) 8 (refused MissingLabel 11)
    ∷ checks (set file_t 28 2) 10 (refused CalleeArity 15)
    ∷ runs only_raises [] 256 100 12 (ended (uncaught (pos 0))) 1 0 1
    ∷ runs calls_then_raises [] 256 100 72 (ended (value (pos 0))) 5 3 8
    ∷ runs receives_itself (pos 5 ∷ []) 256 100 36 (ended (value (pos 5))) 3 1 4
    ∷ runs raises_argument (pos 5 ∷ []) 256 100 13 (ended (uncaught (pos 5))) 1 0 1
    ∷ runs only_raises_zero [] 256 100 19 (ended (uncaught (pos 0))) 1 1 2
    ∷ runs raises_two_frames_up (pos 5 ∷ []) 256 100 82 (ended (value (pos 7))) 6 3 9
    ∷ runs receives_misfit (least ∷ pos 1 ∷ []) 256 100 50 (ended (value (pos 0))) 3 2 5
    ∷ checks (set receives_itself 16 1) 7 (refused MissingVariable 16)
    ∷ checks (set raises_argument 3 1) 6 (refused Unknown 9)
    ∷ checks (set raises_argument 3 3) 2 (refused WrongVersion 3)
    ∷ translates file_t file_t_translated
    ∷ translates receives_nothing receives_nothing_translated
    ∷ []

version_two : All Holds (drop 18 table)
unfolding sides_tell controller_budget sides_verdict call_verdict start_verdict arguments_verdict words_verdict room_verdict translation_of check_of
    program_of Layout.program Layout.functions Layout.function Layout.heading Layout.labelled Layout.bytes_before Layout.block Layout.walk Operation.operation_at
    Operation.constant_at Operation.copy_at Operation.difference_at Operation.call_at Operation.goto_at Operation.return_at
    Operation.branch_at Operation.end_at Operation.raise_value_at Fields.head Fields.version Fields.count Fields.ended Fields.value_of Names.names_of
    Writing.writing Target.code_of TargetLayout.code TargetLayout.targets TargetLayout.functions TargetLayout.function
    Expressions.expression Parts.pair Parts.level_verdict Tag.number_width Tag.number_slot_at Tag.tag_at Tag.constant_at Tag.copy_at Tag.difference_at Tag.jump_at
    Tag.resume_at Tag.handle_at Tag.branch_at Tag.continuation_at Tag.continuation_with_handler_at Tag.difference_or_raise_at TagNames.judged in_range at_most
    step bench code translate control_step controller extras
version_two = (refl, (refl, (refl, (refl, (refl, ((refl, refl), ((refl, refl), ((refl, refl), (refl, (refl, tt))))))))))

pub cases : All Holds table
unfolding sides_tell controller_budget sides_verdict call_verdict start_verdict arguments_verdict words_verdict room_verdict translation_of check_of
    program_of Layout.program Layout.functions Layout.function Layout.heading Layout.labelled Layout.bytes_before Layout.block Layout.walk Operation.operation_at
    Operation.constant_at Operation.copy_at Operation.difference_at Operation.call_at Operation.goto_at Operation.return_at
    Operation.branch_at Operation.end_at Operation.raise_value_at Fields.head Fields.version Fields.count Fields.ended Fields.value_of Names.names_of
    Writing.writing Target.code_of TargetLayout.code TargetLayout.targets TargetLayout.functions TargetLayout.function
    Expressions.expression Parts.pair Parts.level_verdict Tag.number_width Tag.number_slot_at Tag.tag_at Tag.constant_at Tag.copy_at Tag.difference_at Tag.jump_at
    Tag.resume_at Tag.handle_at Tag.branch_at Tag.continuation_at Tag.continuation_with_handler_at Tag.difference_or_raise_at TagNames.judged in_range at_most
    step bench code translate control_step controller extras
cases = (refl, (refl, (refl, (refl, (refl, (refl, (refl, (refl, (refl, (refl, ((refl, refl), ((refl, refl), ((refl, refl), (((λ b. refl), refl), ((refl, refl), ((refl, refl), (refl, (refl, version_two))))))))))))))))))
