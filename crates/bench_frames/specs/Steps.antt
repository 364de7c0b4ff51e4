-- What a step of the machine gives, and what is asked to read a call's arguments.
use Rattle.std.specs.Prelude.{ℕ, ◌+◌, ◌*◌, ◌≤◌, ◌<◌, ◌≡◌, List, ℤ, length, get_or, drop}
use Rattle.semantics.specs.Run.{Outcome, next, end, too_deep}
use Rattle.semantics.specs.Bench.{State, step}
use Rattle.semantics.specs.Extras.{extra}
use Rattle.memory.specs.Frame.{frame_size}
use Rattle.runs.specs.Stopped.{end_as}
use Rattle.procedure_file.specs.Check.{program_of}
use Rattle.procedure_operations.specs.Operation.{operation_at}
use Rattle.procedure_operations.specs.Ranges.{NumbersInRange}
use Rattle.procedure_fields.specs.Number.{count_of}
use Rattle.procedure_layout.specs.Layout.{max_variables, arguments_at}
use Rattle.bench_frames.specs.declared.registers.Regs.{Regs}
use Rattle.bench_frames.specs.declared.registers.Step.{Step}
use Rattle.bench_frames.specs.declared.registers.Step.TheVariants.{Next, Ended, Deep}
use Rattle.bench_frames.specs.Machine.{state_of, Standing}

-- The outcome that a step's answer stands for.
abbrev pub outcome_of : List ℕ → Step → List ℤ → List ℤ → Outcome State
outcome_of s (Next r) vs words = next (state_of s r vs words)
outcome_of s (Ended e k) vs words = end (end_as e)
outcome_of s Deep vs words = too_deep

-- What holds after a step.
abbrev pub StandingAfter : List ℕ → ℕ → Regs → List ℤ → List ℤ → Step → List ℤ → List ℤ → Type 0
StandingAfter s limit r vs words (Next q) vs' words' = Standing s limit q vs' words' × (q.extras ≡ r.extras + extra (program_of s) (state_of s r vs words))
StandingAfter s limit r vs words (Ended e k) vs' words' = k ≡ r.extras + extra (program_of s) (state_of s r vs words)
StandingAfter s limit r vs words Deep vs' words' = (vs' ≡ vs) × (words' ≡ words)

-- One step of the machine is one step of the rules: the promise of every function that takes one.
pub record StepResult (s : List ℕ) (limit : ℕ) (r : Regs) (vs words : List ℤ) (x : Step) (vs' words' : List ℤ) : Type 0 where
  pub outcome : outcome_of s x vs' words' ≡ step (program_of s) limit (state_of s r vs words)
  pub held : StandingAfter s limit r vs words x vs' words'
  pub kept : drop (frame_size * limit) words' ≡ drop (frame_size * limit) words
  pub same_length : length words' ≡ length words

-- What is asked to read the values of the k arguments of the call at an offset.
pub record ArgumentsInBounds (s : List ℕ) (at k : ℕ) (words : List ℤ) (base : ℕ) : Type 0 where
  pub count : count_of (operation_at s at) ≡ k
  pub count_bound : k ≤ max_variables
  pub numbers : NumbersInRange s at (operation_at s at)
  pub arguments : length (arguments_at s at k) ≡ k
  pub small : (i : ℕ) → i < k → get_or (arguments_at s at k) i 0 < max_variables
  pub room : base + max_variables ≤ length words
