-- Operation 3 up to a raise (document 02, Slip 2).
use Rattle.std.specs.Prelude.{ℕ, ◌+◌, ◌≡◌, Bool, true, false, List, ℤ, pos}
use Rattle.bench_frames.specs.declared.registers.Regs.{Regs}
use Rattle.bench_frames.specs.declared.registers.Step.TheVariants.{Next}
use Rattle.bench_frames.specs.Steps.{StepResult}
use Rattle.bench_unwind.specs.Raises.{Raises}

-- The registers that go on behind an operation.
abbrev pub behind : Regs → ℕ → Regs
behind r n = record { function = r.function; handler = r.handler; at = n; waiting = r.waiting; extras = r.extras }

-- By whether the difference is in the range: the step is done; or it raises, "in place, and its target keeps its value".
abbrev pub Subtracts : List ℕ → ℕ → Regs → List ℤ → List ℤ → ℕ → Bool → List ℤ → Type 0
Subtracts s limit r vs words n true vs' = StepResult s limit r vs words (Next (behind r n)) vs' words
Subtracts s limit r vs words n false vs' = Raises s limit r vs words (r.extras + 1) (pos 0) true × (vs' ≡ vs)
