-- How the machine's registers, variables and frame words stand for a state of the rules (docs/FRAMES.md).
use Rattle.std.specs.Prelude.{ℕ, zero, suc, ◌*◌, ◌≤◌, ◌<◌, ◌≡◌, List, [], ◌∷◌, ℤ, length, take}
use Rattle.semantics.specs.Program.{FunctionNumber, Label, Function, variables, function_of}
use Rattle.semantics.specs.Bench.{Frame, frame, State, state}
use Rattle.semantics.specs.WellFormed.{WellFormedState}
use Rattle.memory.specs.Frame.{frame_size, frame_at, head_of, HeadFits, values_of}
use Rattle.memory.specs.Call.{max_depth}
use Rattle.procedure_file.specs.Check.{program_of}
use Rattle.procedure_layout.specs.Layout.{max_variables}
use Rattle.procedure_layout.specs.Rest.{rest_at}
use Rattle.bench_frames.specs.declared.registers.Regs.{Regs}
use Rattle.procedure_file.specs.Places.{start_of, handler_of}
use Rattle.procedure_file.specs.FileInvariant.{OperationsAt}

abbrev pub function_at : List ℕ → FunctionNumber → Function
function_at s f = function_of (program_of s) f

abbrev pub vars_of : List ℕ → FunctionNumber → ℕ
vars_of s f = variables (function_at s f)

-- The registers where the block with label l of function f starts; label 0 is the entry block.
abbrev pub start_regs : List ℕ → FunctionNumber → Label → ℕ → ℕ → Regs
start_regs s f l waiting extras =
    record { function = f; handler = handler_of (function_at s f) l; at = start_of (program_of s) f l; waiting = waiting; extras = extras }

-- The frame that its words stand for: function, handler, offset of the next operation, result variable; then the variables.
abbrev pub frame_of : List ℕ → List ℤ → Frame
frame_of s w = frame (head_of w).word0 (head_of w).word1 (rest_at s (head_of w).word2) (take (vars_of s (head_of w).word0) (values_of w)) (head_of w).word3

-- The d oldest frames, newest first.
abbrev pub frames_of : List ℕ → List ℤ → ℕ → List Frame
frames_of s words zero = []
frames_of s words (suc d) = frame_of s (frame_at d words) ∷ frames_of s words d

-- The state that registers, variables and words stand for.
unfoldable pub state_of : List ℕ → Regs → List ℤ → List ℤ → State
state_of s r vs words =
    state r.function r.handler (rest_at s r.at) (take (vars_of s r.function) vs) (frames_of s words r.waiting)

-- What holds of the words of a waiting frame.
pub record FrameStands (s : List ℕ) (w : List ℤ) : Type 0 where
  pub head : HeadFits w
  pub place : OperationsAt s (head_of w).word0 (head_of w).word2

-- What holds between steps.
pub record Standing (s : List ℕ) (limit : ℕ) (r : Regs) (vs words : List ℤ) : Type 0 where
  pub good : WellFormedState (program_of s) (state_of s r vs words)
  pub here : OperationsAt s r.function r.at
  pub frames : (d : ℕ) → d < r.waiting → FrameStands s (frame_at d words)
  pub waiting : r.waiting ≤ limit
  pub depth_bound : limit ≤ max_depth
  pub room : frame_size * limit ≤ length words
  pub variables : length vs ≡ max_variables
