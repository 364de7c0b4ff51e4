-- What is claimed of the rules: demand 3 as one statement, and demand 1's "each of its steps has a next step or a named end".
-- Whoever doubts the price list reads this file first; Theorem.antt proves it.
use Rattle.std.specs.Prelude.{ℕ, ◌+◌, ◌≤◌, ◌<◌, ◌≡◌, ◌↔◌, List, ℤ, length}
use Rattle.std.proofs.Math.Option.{Option}
use Rattle.semantics.specs.Program.{FunctionNumber, IsCall, Program, function_of}
use Rattle.semantics.specs.Run.{End, stuck, Stop, deep, Result, bare_stop, IsDeep, IsSpent, IsBroken, EndsWith, Forever}
use Rattle.semantics.specs.Bench.{State, state, waiting, bench}
use Rattle.semantics.specs.WellFormed.{All, WellFormed, WellFormedState}
use Rattle.semantics.specs.Code.{Slot, resume, handle, MakesRecord, Code}
use Rattle.semantics.specs.Controller.{continuation, handler, Environment, binding_at, Record, Control, control, in_use, control_step, controller, target_of}
use Rattle.semantics.specs.SlotRules.{KeepsSlotRules}
use Rattle.semantics.specs.SlotStates.{StateKeeps, LeadsInUse}
use Rattle.semantics.specs.Translation.{last_slot, number, translate}
use Rattle.semantics.specs.Extras.{extras}
use Rattle.semantics.specs.Matching.{going, holding, HoldingsMatch, Matches}

-- The same call: states match, the bench at a call and the controller at the tag 8 or 9 that it became.
abbrev pub SameCall : Program → State → Control → Type 0
SameCall P (state f h b vs fs) (control e env rs) = Matches P (state f h b vs fs) (control e env rs) × IsCall b × MakesRecord e

-- Two runs stopped alike: with the same value, uncaught with the same number, spent or deep; in matching states, variable for variable and waiting call for
-- waiting call; deep at the same call.
pub record StopsMatch (P : Program) (b : Stop State) (c : Stop Control) : Type 0 where
  pub alike : bare_stop c ≡ bare_stop b
  pub states : HoldingsMatch P (holding b) (holding c)
  pub call : (S : State) (C : Control) → b ≡ deep S → c ≡ deep C → SameCall P S C

-- Bench runs B with extras X, and controller runs C, each by budget. `(B n).steps + X n` is bench steps + extras.
pub record Agree (P : Program) (B : ℕ → Result State) (X : ℕ → ℕ) (C : ℕ → Result Control) : Type 0 where
  -- Run for exactly bench steps + extras, the controller has taken them all ..
  pub counted : (n : ℕ) → (C ((B n).steps + X n)).steps ≡ (B n).steps + X n
  -- .. and holds the matching state or the same end.
  pub matching : (n : ℕ) → HoldingsMatch P (holding (B n).stop) (holding (C ((B n).steps + X n)).stop)
  -- One ends with a value exactly when the other ends with the same value, and one ends uncaught exactly when the other does, with the same number.
  pub same_end : (e : End) → EndsWith B e ↔ EndsWith C e
  -- With one step more for each, one stops deep exactly when the other does ..
  pub same_deep : (n : ℕ) → IsDeep (B ((B n).steps + 1)).stop ↔ IsDeep (C ((B n).steps + X n + 1)).stop
  -- .. at the same call, both reporting the steps they had.
  pub same_call : (n : ℕ) (s : State) (c : Control) → (B ((B n).steps + 1)).stop ≡ deep s → (C ((B n).steps + X n + 1)).stop ≡ deep c
      → SameCall P s c × ((B ((B n).steps + 1)).steps ≡ (B n).steps) × ((C ((B n).steps + X n + 1)).steps ≡ (B n).steps + X n)
  -- One runs on for ever exactly when the other does.
  pub same_forever : Forever B ↔ Forever C
  -- A run that ended or stopped deep is the same at every larger budget.
  pub bench_stays : (n m : ℕ) → ¬ IsSpent (B n).stop → n ≤ m → (B m ≡ B n) × (X m ≡ X n)
  pub controller_stays : (n m : ℕ) → ¬ IsSpent (C n).stop → n ≤ m → C m ≡ C n

-- Demand 3 of the rules. f is the start function, 0 for main.
abbrev pub Demand3 : Type 0
Demand3 = (P : Program) → WellFormed P → (f : FunctionNumber) → f < length P
    → (args : List ℤ) → length args ≡ (function_of P f).params → (d : ℕ)
    → Agree P (bench P f args d) (extras P f args d) (controller (translate P) (number P f) args d)

-- Theorem 1 of source document 003 over a whole run R, for either machine: R is never stuck, and the invariant holds of each state that it reaches,
-- with no more than d frames (records) in use.
pub record Sound {S : Type 0} (Invariant : S → Type 0) (frames : S → ℕ) (d : ℕ) (R : ℕ → Result S) : Type 0 where
  pub moves : (n : ℕ) → ¬ IsBroken (R n).stop
  pub invariant : (n : ℕ) (s : S) → holding (R n).stop ≡ going s → Invariant s
  pub limit : (n : ℕ) (s : S) → holding (R n).stop ≡ going s → frames s ≤ d

-- Each step of the bench has a next step or a named end, for every well-formed program. Each state is well-formed: it has as many variables as its
-- function, and so has each frame.
abbrev pub BenchSound : Type 0
BenchSound = (P : Program) → WellFormed P → (f : FunctionNumber) → f < length P
    → (args : List ℤ) → length args ≡ (function_of P f).params → (d : ℕ) → Sound (WellFormedState P) waiting d (bench P f args d)

-- Each step of the controller has a next step or a named end, for every code that keeps the slot rules, hand-written code too. Each state keeps them.
abbrev pub ControllerSound : Type 0
ControllerSound = (m : ℕ) (Q : Code) → KeepsSlotRules m Q → (g : ℕ) → g < length Q
    → (args : List ℤ) → length args ≡ (target_of Q g).params → (d : ℕ) → Sound (StateKeeps Q m) in_use d (controller Q g args d)

-- "Applying one drops it and all later ones." Where a slot leads past the records in use, tags 5 and 6 are stuck: so ControllerSound says too that
-- what is applied is a record in use ..
abbrev pub DroppedStuck : Type 0
DroppedStuck = (Q : Code) (d n : ℕ) (k y : Slot) (o : Option Slot) (env : Environment) (rs : List Record) → length rs < n
    → (binding_at env k ≡ continuation n → control_step Q d (control (resume k y) env rs) ≡ stuck)
    × (binding_at env k ≡ handler n → control_step Q d (control (handle k o) env rs) ≡ stuck)

-- .. and it is never one that was dropped, though a later record may have taken its count: in each state that a run reaches, so behind tags 5 and 6 too,
-- no slot leads past the records left, and the slots of each record lead to earlier ones alone. This holds of any code.
abbrev pub DroppedForgotten : Type 0
DroppedForgotten = (Q : Code) (g : ℕ) (args : List ℤ) (d n : ℕ) (c : Control) → holding (controller Q g args d n).stop ≡ going c → LeadsInUse c

-- The translation of a well-formed program keeps the slot rules, and names only functions that exist, with their argument counts.
abbrev pub TranslationKeepsRules : Type 0
TranslationKeepsRules = (m : ℕ) (P : Program) → WellFormed P → All (λ F. last_slot F < m) P → KeepsSlotRules m (translate P)
