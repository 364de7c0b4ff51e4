-- Document 01, 'How the bench moves', and document 02, Slips 2 and 7: a step that raises, whatever operation stands there.
use Rattle.std.specs.Prelude.{ℕ, ◌+◌, ◌≡◌, Bool, true, false, cond, List, eqb, ℤ, take}
use Rattle.std.proofs.Math.Option.{Option, none, some}
use Rattle.semantics.specs.Program.{Variable}
use Rattle.semantics.specs.Bench.{received, unwound, raised, step}
use Rattle.semantics.specs.Extras.{one, caught, raise_extra, extra}
use Rattle.procedure_file.specs.Check.{program_of}
use Rattle.bench_frames.specs.declared.registers.Regs.{Regs}
use Rattle.bench_frames.specs.Machine.{vars_of, frames_of, state_of}

-- Whether a raise is one of 0, which names no variable: operation 8, or a difference out of range.
abbrev pub is_zero : Option Variable → Bool
is_zero none = true
is_zero (some y) = false

-- "a 0 leaving the function is first bound to V+4", in version 2.
unfoldable pub leaving : ℕ → Bool → ℕ
leaving version zero = cond zero (cond (eqb version 2) 1 0) 0

-- The receiver q, if any, was set to n among the variables vs, which are now vs'; k counts it.
pub record Receives (q : Option Variable) (n : ℤ) (vs vs' : List ℤ) (k : ℕ) : Type 0 where
  pub set : vs' ≡ received q n vs
  pub counted : k ≡ one q

-- The step where the machine stands raises n out of its function, and `extras` are those counted before what catching it adds.
pub record Leaves (s : List ℕ) (limit : ℕ) (r : Regs) (vs words : List ℤ) (extras : ℕ) (n : ℤ) : Type 0 where
  pub outcome : step (program_of s) limit (state_of s r vs words) ≡ unwound (program_of s) n (frames_of s words r.waiting)
  pub counted : r.extras + extra (program_of s) (state_of s r vs words) ≡ extras + caught (frames_of s words r.waiting)

-- The step where the machine stands raises n (operation 8 or 9, or a difference out of range), and `extras` are those counted before the raise's own.
pub record Raises (s : List ℕ) (limit : ℕ) (r : Regs) (vs words : List ℤ) (extras : ℕ) (n : ℤ) (zero : Bool) : Type 0 where
  pub named : Option Variable
  pub zero_is : zero ≡ is_zero named
  pub outcome : step (program_of s) limit (state_of s r vs words) ≡ raised (program_of s) r.function r.handler n (take (vars_of s r.function) vs) (frames_of s words r.waiting)
  pub counted : r.extras + extra (program_of s) (state_of s r vs words) ≡ extras + raise_extra (program_of s) r.function r.handler named (frames_of s words r.waiting)
