-- What a call of the bench tells, and what the lent words then hold.
use Rattle.std.specs.Prelude.{ℕ, ◌*◌, ◌≤◌, ◌<◌, ◌≡◌, List, ℤ, pos, length, replicate, Err}
use Rattle.semantics.specs.Program.{FunctionNumber, function_of}
use Rattle.semantics.specs.Run.{Result, summary}
use Rattle.semantics.specs.Bench.{Frame, State, state, bench}
use Rattle.semantics.specs.Extras.{extras}
use Rattle.parsing.specs.declared.Refusal.{Refusal}
use Rattle.parsing.specs.Parser.{Verdict, verdict_of, or_else}
use Rattle.memory.specs.Call.{max_depth, arguments_verdict, call_verdict}
use Rattle.memory.specs.Frame.{frame_size, frame_at}
use Rattle.runs.specs.declared.Stopped.TheVariants.{Spent}
use Rattle.runs.specs.Stopped.{stopped_as}
use Rattle.runs.specs.Tells.{Tells, tells, by_verdict, ChangedBy}
use Rattle.runs.specs.Words.{WordsAfter}
use Rattle.procedure_layout.specs.Layout.{max_variables}
use Rattle.procedure_file.specs.Check.{check_of, program_of}
use Rattle.procedure_file.specs.FileInvariant.{OperationsAt}
use Rattle.bench_frames.specs.Machine.{frames_of, state_of, FrameStands}
use Rattle.bench_frames.specs.declared.registers.Regs.{Regs}
use Rattle.bench.specs.declared.machine.Answer.{Answer}

-- What an accepted call tells: how the run stopped and the steps taken, and the extras.
pub record BenchSummary : Type 0 where
  pub result : Result (Unit {0})
  pub extras : ℕ

-- What an answer says.
abbrev pub summary_of : Answer → BenchSummary
summary_of a = record { result = record { stop = stopped_as a.stopped; steps = a.steps }; extras = a.extras }

abbrev pub meaning : Answer → Tells BenchSummary
meaning a = by_verdict (verdict_of a.verdict) (summary_of a)

-- The rules' run from function f of the program that the file is, and what it tells.
abbrev pub run_of : List ℕ → FunctionNumber → List ℤ → ℕ → ℕ → Result State
run_of s f args depth budget = bench (program_of s) f args depth budget

abbrev pub run_summary : List ℕ → FunctionNumber → List ℤ → ℕ → ℕ → BenchSummary
run_summary s f args depth budget = record { result = summary (run_of s f args depth budget); extras = extras (program_of s) f args depth budget }

-- The file's own checks; then 9, where there is no function f to start at; then 14 by its parameters; then 16.
unfoldable pub bench_verdict : List ℕ → FunctionNumber → ℕ → ℕ → ℕ → Verdict
bench_verdict s f given depth words = or_else (check_of s) (call_verdict f (length (program_of s)) (arguments_verdict given (function_of (program_of s) f).params) frame_size depth words)

-- What the bench tells of a file, the function that it starts at, its arguments, a depth limit, a budget and so many lent words.
unfoldable pub bench_tells : List ℕ → FunctionNumber → List ℤ → ℕ → ℕ → ℕ → Tells BenchSummary
bench_tells s f args depth budget words = by_verdict (bench_verdict s f (length args) depth words) (run_summary s f args depth budget)

-- The frames waiting in a state.
abbrev pub frames_in : State → List Frame
frames_in (state f h b vs fs) = fs

-- A stopped run's current state S: registers, variables and words stand for it. The four numbers of each waiting frame have no sign; at its
-- offset, as at that in the registers, the operations left of a block stand, well-formed in its function. Left open, where the function has
-- V variables: words 4 + V to 47 of a waiting frame, and `vars` from V on.
pub record StateGiven (s : List ℕ) (a : Answer) (words : List ℤ) (S : State) : Type 0 where
  pub is : state_of s a.regs a.vars words ≡ S
  pub here : OperationsAt s a.regs.function a.regs.at
  pub frames : (d : ℕ) → d < a.regs.waiting → FrameStands s (frame_at d words)
  pub extras : a.regs.extras ≡ a.extras

-- Registers that stand for no state: all 0, but the extras.
abbrev pub zero_regs : ℕ → Regs
zero_regs extras = record { function = 0; handler = 0; at = 0; waiting = 0; extras = extras }

-- Registers and variables at an end: all 0, but the extras.
abbrev pub ZeroAtEnd : ℕ → Regs → List ℤ → Type 0
ZeroAtEnd extras r vs = (r ≡ zero_regs extras) × (vs ≡ replicate max_variables (pos 0))

-- The words after the run from function f hold the frames left; a stopped run's state is given, and at an end registers and variables are 0.
abbrev pub RunWords : List ℕ → FunctionNumber → List ℤ → ℕ → ℕ → Answer → List ℤ → List ℤ → Type 0
RunWords s f args depth budget a words words' =
    WordsAfter frames_in (λ fs. frames_of s words' (length fs) ≡ fs) (ZeroAtEnd a.extras a.regs a.vars) (StateGiven s a words') frame_size depth
    (run_of s f args depth budget).stop words words'

abbrev pub BenchWords : List ℕ → FunctionNumber → List ℤ → ℕ → ℕ → Answer → List ℤ → List ℤ → Type 0
BenchWords s f args depth budget a words words' =
    ChangedBy (bench_verdict s f (length args) depth (length words)) (RunWords s f args depth budget a words words') words words'

-- The answer of a refused call: nothing was run.
abbrev pub refused_answer : Refusal → Answer
refused_answer r =
    record {
      verdict = Err r;
      stopped = Spent;
      steps = 0;
      extras = 0;
      regs = zero_regs 0;
      vars = replicate max_variables (pos 0);
    }

-- ── What the run of a loaded file is asked, and what it gives ───────────────────────────────────

-- What an accepted call gives: a function that exists, arguments, depth and words that fit.
pub record CallFits (s : List ℕ) (f : FunctionNumber) (args : List ℤ) (depth : ℕ) (words : List ℤ) : Type 0 where
  pub exists : f < length (program_of s)
  pub arguments : length args ≡ (function_of (program_of s) f).params
  pub depth_bound : depth ≤ max_depth
  pub room : frame_size * depth ≤ length words

-- The answer of a run from function f.
pub record RunAnswered (s : List ℕ) (f : FunctionNumber) (args : List ℤ) (depth budget : ℕ) (a : Answer) (words words' : List ℤ) : Type 0 where
  pub answer : meaning a ≡ tells (run_summary s f args depth budget)
  pub held : RunWords s f args depth budget a words words'
