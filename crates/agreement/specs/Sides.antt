-- The side-by-side call from function f of a procedure: what it is refused for, what it tells, and what the lent memory then holds.
use Rattle.std.specs.Prelude.{ℕ, ◌+◌, ◌*◌, ◌≤◌, ◌<◌, ◌≡◌, List, ◌++◌, ℤ, length, drop, Err, Ok}
use Rattle.semantics.specs.Program.{FunctionNumber, function_of}
use Rattle.semantics.specs.Run.{Result, summary}
use Rattle.semantics.specs.Controller.{Control}
use Rattle.semantics.specs.Statement.{StopsMatch}
use Rattle.parsing.specs.declared.Refusal.{Refusal}
use Rattle.parsing.specs.Parser.{Verdict, accepted, or_else, verdict_of}
use Rattle.parsing.specs.Bytes.{Bytes}
use Rattle.memory.specs.Frame.{frame_size}
use Rattle.memory.specs.Call.{max_depth, start_verdict, arguments_verdict, words_verdict}
use Rattle.target_tags.specs.Tag.{file_limit}
use Rattle.runs.specs.Tells.{Tells, tells, by_verdict, ChangedBy}
use Rattle.procedure_file.specs.Check.{check_of, program_of}
use Rattle.translator.specs.Translated.{translation_of, room_verdict}
use Rattle.bench.specs.Published as Bench
use Rattle.controller.specs.Published as Controller
use Rattle.agreement.specs.declared.Sides.{Sides}
use Rattle.agreement.specs.Statement.{entry_of, translation_run, controller_budget, Claim}

-- ── Refusals: 9 of the start function (document 02, Slip 4), ".. then 14, 17, 16." (document 01) ─

-- Of a call on an accepted file: the start function, of so many functions; arguments given and wanted, the bytes of the translation and
-- the room lent for them, the depth, the words lent for frames and for records.
unfoldable pub call_verdict : (start functions given wanted bytes room depth frames records : ℕ) → Verdict
call_verdict start functions given wanted bytes room depth frames records =
    or_else (start_verdict start functions)
    (or_else (arguments_verdict given wanted) (or_else (room_verdict bytes room) (or_else (words_verdict frame_size depth frames) (words_verdict frame_size depth records))))

-- The file's own checks, then those of the call.
unfoldable pub sides_verdict : List ℕ → FunctionNumber → (given depth frames room records : ℕ) → Verdict
sides_verdict s f given depth frames room records =
    or_else (check_of s) (call_verdict f (length (program_of s)) given (function_of (program_of s) f).params (length (translation_of s)) room depth frames records)

-- ── What is told ────────────────────────────────────────────────────────────────────────────────

-- What an accepted call tells: the bytes of the translation, and what each machine tells.
pub record SidesSummary : Type 0 where
  pub target : ℕ
  pub bench : Bench.BenchSummary
  pub controller : Result (Unit {0})

-- What an answer says.
abbrev pub summary_of : Sides → SidesSummary
summary_of a = record { target = a.target; bench = Bench.summary_of a.bench; controller = Controller.summary_of a.controller }

abbrev pub meaning : Sides → Tells SidesSummary
meaning a = by_verdict (verdict_of a.verdict) (summary_of a)

-- The controller's run.
abbrev pub controller_run : List ℕ → FunctionNumber → List ℤ → ℕ → ℕ → Result Control
controller_run s f args depth budget = translation_run s f args depth (controller_budget (Bench.run_summary s f args depth budget))

-- What both runs tell.
abbrev pub runs_summary : List ℕ → FunctionNumber → List ℤ → ℕ → ℕ → SidesSummary
runs_summary s f args depth budget =
    record {
      target = length (translation_of s);
      bench = Bench.run_summary s f args depth budget;
      controller = summary (controller_run s f args depth budget);
    }

-- What the call tells of a file, its start function, arguments, a depth limit, a budget, and so much lent memory.
unfoldable pub sides_tell : List ℕ → FunctionNumber → List ℤ → (depth budget frames room records : ℕ) → Tells SidesSummary
sides_tell s f args depth budget frames room records =
    by_verdict (sides_verdict s f (length args) depth frames room records) (runs_summary s f args depth budget)

-- ── What the lent memory holds, and what is claimed of the two answers ──────────────────────────

-- The memory lent: the words of the frames, the room for the translation, the words of the records.
pub record Memory : Type 0 where
  pub frames : List ℤ
  pub room : List ℕ
  pub records : List ℤ

-- Demand 3, of the answer a and the lent words before and after: the words stand for the states in which the runs stopped, the states
-- match, and controller steps = bench steps + extras.
pub record RanTogether (s : List ℕ) (f : FunctionNumber) (args : List ℤ) (depth budget : ℕ) (a : Sides) (frames frames' records records' : List ℤ) : Type 0 where
  pub frame_words : Bench.RunWords s f args depth budget a.bench frames frames'
  pub record_words : Controller.RunWords (translation_of s) (entry_of s f) args depth (controller_budget (Bench.run_summary s f args depth budget)) a.controller records records'
  pub stops : StopsMatch (program_of s) (Bench.run_of s f args depth budget).stop (controller_run s f args depth budget).stop
  pub counted : a.controller.steps ≡ a.bench.steps + a.bench.extras
  -- "That neither run is then refused is part of the claim."
  pub neither_refused : (a.bench.verdict ≡ (Ok tt)) × (a.controller.verdict ≡ (Ok tt))
  -- At every larger budget, and for ever.
  pub claim : Claim s f args depth

-- An accepted call: "output past the translation keeps what it held".
pub record Ran (s : List ℕ) (f : FunctionNumber) (args : List ℤ) (depth budget : ℕ) (a : Sides) (m m' : Memory) : Type 0 where
  pub translation : m'.room ≡ translation_of s ++ drop (length (translation_of s)) m.room
  pub together : RanTogether s f args depth budget a m.frames m'.frames m.records m'.records

abbrev pub SidesMemory : List ℕ → FunctionNumber → List ℤ → ℕ → ℕ → Sides → Memory → Memory → Type 0
SidesMemory s f args depth budget a m m' =
    ChangedBy (sides_verdict s f (length args) depth (length m.frames) (length m.room) (length m.records)) (Ran s f args depth budget a m m') m m'

-- The answer of a refused call: nothing was translated or run.
abbrev pub refused_sides : Refusal → Sides
refused_sides r = record { verdict = Err r; target = 0; bench = Bench.refused_answer r; controller = Controller.refused_answer r }

-- ── What running both machines is asked, and what it gives ──────────────────────────────────────

-- An accepted call on an accepted file.
pub record CallFits (s : List ℕ) (f : FunctionNumber) (args : List ℤ) (depth : ℕ) (frames records : List ℤ) : Type 0 where
  pub bytes : Bytes s
  pub is_accepted : check_of s ≡ accepted
  pub function : f < length (program_of s)
  pub arguments : length args ≡ (function_of (program_of s) f).params
  pub fits : length (translation_of s) ≤ file_limit
  pub depth_bound : depth ≤ max_depth
  pub frames_fit : frame_size * depth ≤ length frames
  pub records_fit : frame_size * depth ≤ length records

-- What both runs come to.
pub record MachinesRan (s : List ℕ) (f : FunctionNumber) (args : List ℤ) (depth budget : ℕ) (a : Sides) (frames frames' records records' : List ℤ) : Type 0 where
  pub answer : meaning a ≡ tells (runs_summary s f args depth budget)
  pub together : RanTogether s f args depth budget a frames frames' records records'
