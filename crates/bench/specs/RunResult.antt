-- The bench as a machine that runs by the rules, and what holds when it has stopped.
use Rattle.std.specs.Prelude.{ℕ, ◌+◌, ◌*◌, ◌≡◌, List, ℤ}
use Rattle.semantics.specs.Run.{Stop}
use Rattle.semantics.specs.Bench.{State, step}
use Rattle.semantics.specs.Extras.{extra}
use Rattle.memory.specs.Frame.{frame_size}
use Rattle.runs.specs.Stopped.{stopped_as}
use Rattle.runs.specs.Words.{GivesState}
use Rattle.runs.specs.Machine.{Held, held, Machine, RunStops}
use Rattle.procedure_file.specs.Check.{program_of}
use Rattle.bench_frames.specs.declared.registers.Regs.{Regs}
use Rattle.bench_frames.specs.Machine.{state_of, Standing}
use Rattle.runs.specs.declared.Ran.{Ran}
use Rattle.bench.specs.Published.{ZeroAtEnd}

-- What the machine holds stands for a state from which it can go on.
abbrev pub StandsFor : List ℕ → ℕ → Held Regs → State → Type 0
StandsFor s limit m S = (state_of s m.regs m.values m.words ≡ S) × Standing s limit m.regs m.values m.words

-- The bench counts the extras: their sum (`total`).
abbrev pub machine : List ℕ → ℕ → Machine State Regs ℕ
machine s limit =
    record {
      step = step (program_of s) limit;
      join = λ a b. a + b;
      weight = extra (program_of s);
      last = λ S. 0;
      Stands = StandsFor s limit;
      count = λ m. m.regs.extras;
      bound = frame_size * limit;
      Beside = λ m. Unit {0};
    }

-- Where the machine stopped: at an end all is 0; else what it holds stands for the current state.
abbrev pub StoppedAt : List ℕ → ℕ → Held Regs → Stop State → Type 0
StoppedAt s limit m stop = GivesState (ZeroAtEnd m.regs.extras m.regs m.values) (StandsFor s limit m) stop

-- Going on from a state with a budget: the rules' run from there, as the machine says.
pub record RunResult (s : List ℕ) (limit budget : ℕ) (r : Regs) (vs words : List ℤ) (x : Ran Regs) (vs' words' : List ℤ) : Type 0 where
  pub ran : RunStops (machine s limit) budget (ZeroAtEnd x.regs.extras x.regs vs') (held r vs words) (record { stop = stopped_as x.stopped; steps = x.steps }) (held x.regs vs' words')
