-- Demands 1 and 3 over files. Demand 1: each step of every accepted file of either kind has a next step or a named end. Demand 3: for every
-- accepted procedure file whose translation fits, the translation is an accepted translated file, the run of the code that this file is
-- agrees with the bench's run of the program that the procedure file is, and so do the answers of the two machines and what they are
-- charged. Both are said of files of version 1 and 2 alike. Whoever doubts the price list reads this file and `Agree` in the Statement of crate `semantics`; Theorem.antt proves it.
-- f is the start function, 0 for main; on the controller it is that entry's number (document 02, Slip 4: "Started alike now includes the
-- start function").
use Rattle.std.specs.Prelude.{ℕ, ◌+◌, ◌*◌, ◌≤◌, ◌<◌, ◌≡◌, ◌↔◌, List, ℤ, length}
use Rattle.semantics.specs.Program.{FunctionNumber, function_of}
use Rattle.semantics.specs.Run.{End, ended, deep, IsBroken, Result, one_more_if_deep, spent_if_deep}
use Rattle.semantics.specs.Bench.{waiting, bench}
use Rattle.semantics.specs.WellFormed.{WellFormedState}
use Rattle.semantics.specs.Controller.{Control, in_use, controller, target_of, code_version}
use Rattle.semantics.specs.SlotStates.{StateKeeps, LeadsInUse}
use Rattle.semantics.specs.Translation.{number}
use Rattle.semantics.specs.Extras.{extras}
use Rattle.semantics.specs.Matching.{going, holding}
use Rattle.semantics.specs.Statement.{Agree, Sound}
use Rattle.parsing.specs.Parser.{accepted}
use Rattle.parsing.specs.Bytes.{Bytes}
use Rattle.memory.specs.Frame.{frame_size}
use Rattle.memory.specs.Call.{max_depth}
use Rattle.procedure_file.specs.Check as Procedure
use Rattle.target_tags.specs.Tag.{file_limit, slots_in}
use Rattle.target_file.specs.Check as Target
use Rattle.translator.specs.Translated.{translation_of}
use Rattle.runs.specs.Tells.{Tells, refuses, tells}
use Rattle.bench.specs.Published as Bench
use Rattle.controller.specs.Published as Controller
use Rattle.prices.specs.Cents.{cents}
use Rattle.charge.specs.Charge.{charge, with_extras}

-- ── Demand 1 ────────────────────────────────────────────────────────────────────────────────────

-- An answer that is not the rules' `broken`; `result` gives the run of what an accepted call tells.
abbrev pub NeverBroken : {A : Type 0} → (A → Result (Unit {0})) → Tells A → Type 0
NeverBroken result (refuses reason place) = Unit {0}
NeverBroken result (tells a) = ¬ IsBroken (result a).stop

-- A state that the controller reaches on the code of t, at some budget.
abbrev pub ControllerReaches : List ℕ → ℕ → List ℤ → ℕ → Control → Type 0
ControllerReaches t g args depth c = (budget : ℕ) × (holding (controller (Target.code_of t) g args depth budget).stop ≡ going c)

-- "Each of its steps has a next step or a named end, on bench and controller alike", for every accepted procedure file, also one whose
-- translation does not fit, and for every accepted translated file, hand-written too; for every start function, every argument list of the
-- right number, every depth limit and budget. A state of the bench has as many variables as its function, and so has each frame; a state
-- of the controller keeps the slot rules, with the slots of its version.
pub record FilesMove : Type 0 where
  pub bench : (s : List ℕ) → Bytes s → Procedure.check_of s ≡ accepted
      → (f : FunctionNumber) → f < length (Procedure.program_of s) → (args : List ℤ) → length args ≡ (function_of (Procedure.program_of s) f).params → (depth : ℕ)
      → Sound (WellFormedState (Procedure.program_of s)) waiting depth (bench (Procedure.program_of s) f args depth)
      × ((budget words : ℕ) → NeverBroken (λ t. t.result) (Bench.bench_tells s f args depth budget words))
  pub controller : (t : List ℕ) → Bytes t → Target.check_of t ≡ accepted
      → (g : ℕ) → g < length (Target.code_of t) → (args : List ℤ) → length args ≡ (target_of (Target.code_of t) g).params → (depth : ℕ)
      → Sound (StateKeeps (Target.code_of t) (slots_in (code_version (Target.code_of t)))) in_use depth (controller (Target.code_of t) g args depth)
      × ((budget words : ℕ) → NeverBroken (λ r. r) (Controller.controller_tells t g args depth budget words))
  -- A record that was dropped is never applied: in no state that the controller reaches does a slot lead past the records in use, nor a slot of a
  -- record past those before it (`DroppedForgotten` of crate `semantics`).
  pub dropped : (t : List ℕ) → Bytes t → Target.check_of t ≡ accepted → (g : ℕ) (args : List ℤ) (depth : ℕ) (c : Control) → ControllerReaches t g args depth c → LeadsInUse c

-- ── Demand 3 ────────────────────────────────────────────────────────────────────────────────────

-- The number of the entry of function f in the translation of the file s.
abbrev pub entry_of : List ℕ → FunctionNumber → ℕ
entry_of s f = number (Procedure.program_of s) f

-- The runs of the translation of s, started at the entry of f, by budget.
abbrev pub translation_run : List ℕ → FunctionNumber → List ℤ → ℕ → ℕ → Result Control
translation_run s f args depth = controller (Target.code_of (translation_of s)) (entry_of s f) args depth

-- "The controller gets bench steps plus extras, one more where the bench stopped deep."
unfoldable pub controller_budget : Bench.BenchSummary → ℕ
controller_budget t = t.result.steps + t.extras + one_more_if_deep t.result.stop

-- An answer that is deep.
abbrev pub AnswersDeep : {A : Type 0} → (A → Result (Unit {0})) → Tells A → Type 0
AnswersDeep result (refuses reason place) = ⊥
AnswersDeep result (tells a) = (result a).stop ≡ deep tt

-- What the machines answer, bytes in and answers out: the bench on the procedure file with a budget, and the controller on its translation
-- with bench steps + extras, one more where the bench stopped deep. Neither refuses; both stopped alike (the same value, uncaught with the
-- same number, spent or deep); controller steps = bench steps + extras.
pub record AnswersAgree (s : List ℕ) (f : FunctionNumber) (args : List ℤ) (depth budget frames records : ℕ) : Type 0 where
  pub answer : Bench.BenchSummary
  pub bench_answers : Bench.bench_tells s f args depth budget frames ≡ tells answer
  pub controller_answers : Controller.controller_tells (translation_of s) (entry_of s f) args depth (controller_budget answer) records
      ≡ tells (record { stop = answer.result.stop; steps = answer.result.steps + answer.extras })
  -- With exactly bench steps + extras it answers with that count too, spent where the bench stopped deep ..
  pub exactly : Controller.controller_tells (translation_of s) (entry_of s f) args depth (answer.result.steps + answer.extras) records
      ≡ tells (record { stop = spent_if_deep answer.result.stop; steps = answer.result.steps + answer.extras })
  -- .. and with one step more for each, one answers deep exactly when the other does.
  pub same_deep : AnswersDeep (λ t. t.result) (Bench.bench_tells s f args depth (answer.result.steps + 1) frames)
      ↔ AnswersDeep (λ r. r) (Controller.controller_tells (translation_of s) (entry_of s f) args depth (answer.result.steps + answer.extras + 1) records)
  -- Document 02, Slip 1: "Where demand 3 pairs two ended runs, the charge from bench steps and extras must equal the charge from the
  -- controller's own count". (Where they did not end, both are refused.)
  pub same_charge : charge (Controller.controller_tells (translation_of s) (entry_of s f) args depth (controller_budget answer) records)
      ≡ charge (with_extras (Bench.bench_tells s f args depth budget frames))
  -- Where they ended it is in cents, and not refused, for every budget that a call of the bench takes.
  pub in_cents : budget < 4294967296 → (e : End) → answer.result.stop ≡ ended e
      → charge (with_extras (Bench.bench_tells s f args depth budget frames)) ≡ tells (cents (answer.result.steps + answer.extras))

-- What is claimed of an accepted procedure file s, for a start function, arguments of the right number and a depth limit.
pub record Claim (s : List ℕ) (f : FunctionNumber) (args : List ℤ) (depth : ℕ) : Type 0 where
  -- The translation is accepted, and the function's entry is there and takes the arguments that the function takes.
  pub is_accepted : Target.check_of (translation_of s) ≡ accepted
  pub entry : entry_of s f < length (Target.code_of (translation_of s))
  pub arguments : length args ≡ (target_of (Target.code_of (translation_of s)) (entry_of s f)).params
  -- Each step has a next step or a named end, on bench and controller alike.
  pub bench_moves : Sound (WellFormedState (Procedure.program_of s)) waiting depth (bench (Procedure.program_of s) f args depth)
  pub controller_moves : Sound (StateKeeps (Target.code_of (translation_of s)) (slots_in (code_version (Target.code_of (translation_of s))))) in_use depth (translation_run s f args depth)
  -- Ends, steps and states agree at every budget ..
  pub agree : Agree (Procedure.program_of s) (bench (Procedure.program_of s) f args depth) (extras (Procedure.program_of s) f args depth) (translation_run s f args depth)
  -- .. and so do the answers, for every depth limit to 256 and every budget, "each lent 48 words per frame of the limit or more".
  pub answers : depth ≤ max_depth → (budget frames records : ℕ) → frame_size * depth ≤ frames → frame_size * depth ≤ records → AnswersAgree s f args depth budget frames records
  -- Extras are at most 24, and 25 for each step that the bench takes: controller time can be booked before a run.
  pub extras_bound : (budget : ℕ) → extras (Procedure.program_of s) f args depth budget ≤ 24 + 25 * (bench (Procedure.program_of s) f args depth budget).steps

-- "a procedure is accepted when none of 1 to 10 applies and its size limit is kept; its translation fits at 65,535 bytes or fewer."
abbrev pub FilesAgree : Type 0
FilesAgree = (s : List ℕ) → Bytes s → Procedure.check_of s ≡ accepted → length (translation_of s) ≤ file_limit
    → (f : FunctionNumber) → f < length (Procedure.program_of s) → (args : List ℤ) → length args ≡ (function_of (Procedure.program_of s) f).params
    → (depth : ℕ) → Claim s f args depth
