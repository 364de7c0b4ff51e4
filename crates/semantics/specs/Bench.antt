-- Figure 2: the bench machine, as document 01 states it ('How the bench moves'), and document 02: Slip 2 for a difference out of range, Slip 7 for the
-- number that a raise carries.
-- The figure's two stacks F and E are one list here, newest frame first: a frame keeps its caller's handler, and the frames that have one are E.
use Rattle.std.specs.Prelude.{ℕ, zero, suc, Bool, cond, List, [], ◌∷◌, ◌++◌, leb, ℤ, pos, ◌-ℤ◌, length, set, replicate}
use Rattle.std.proofs.Math.Option.{Option, none, some}
use Rattle.std.proofs.Math.ListN.{get_elem?}
use Rattle.semantics.specs.Value.{in_range, at_most}
use Rattle.semantics.specs.Program.{FunctionNumber, Variable, Label, Handler, Block, constant, copy, difference, call, goto, return, branch, raise, Labelled, Function, Program, function_of}
use Rattle.semantics.specs.Run.{value, uncaught, Outcome, next, end, too_deep, stuck, Result, run}

-- A waiting frame: the caller's function, handler, next operation, variables and result variable.
pub data Frame : Type 0 where
  frame : FunctionNumber → Handler → Block → List ℤ → Variable → Frame

-- The function, the handler in force, the operations left, the variables, the frames waiting (newest first).
pub data State : Type 0 where
  state : FunctionNumber → Handler → Block → List ℤ → List Frame → State

-- How many frames are waiting.
abbrev pub waiting : State → ℕ
waiting (state f h b vs fs) = length fs

-- The rule goes on with what is there, and does not fit where it is missing.
abbrev pub given : {A S : Type 0} → Option A → (A → Outcome S) → Outcome S
given none rule = stuck
given (some a) rule = rule a

-- A value before several, if all are there.
abbrev pub before : Option ℤ → Option (List ℤ) → Option (List ℤ)
before none zs = none
before (some z) none = none
before (some z) (some zs) = some (z ∷ zs)

-- The values of several variables, in order.
abbrev pub values_of : List ℤ → List Variable → Option (List ℤ)
values_of vs [] = some []
values_of vs (y ∷ ys) = before (get_elem? vs y) (values_of vs ys)

-- The block with a label; labels go from 1 upward.
abbrev pub labelled_at : List Labelled → Label → Option Labelled
labelled_at bs zero = none
labelled_at bs (suc l) = get_elem? bs l

-- The variables with the number raised in the receiving variable, if there is one.
abbrev pub received : Option Variable → ℤ → List ℤ → List ℤ
received none n vs = vs
received (some x) n vs = set vs x n

-- Entry to a labelled block: its own handler (or none) takes over.
abbrev pub enter : Program → FunctionNumber → Label → List ℤ → List Frame → Outcome State
enter P f l vs fs = given (labelled_at (function_of P f).blocks l) (λ B. next (state f B.handler B.block vs fs))

-- Return restores the newest frame and writes the result variable; with none waiting it ends with the value.
abbrev pub returned : ℤ → List Frame → Outcome State
returned z [] = end (value z)
returned z (frame f h b vs x ∷ fs) = next (state f h b (set vs x z) fs)

-- Entry to a labelled block by a raise of n: its receiving variable is "set only when the block is entered by a raise".
abbrev pub enter_by_raise : Program → FunctionNumber → Label → ℤ → List ℤ → List Frame → Outcome State
enter_by_raise P f l n vs fs =
    given (labelled_at (function_of P f).blocks l) (λ B. next (state f B.handler B.block (received B.receiver n vs) fs))

-- Raise without a handler drops frames down to and including the newest that had a handler, and goes on at that label with the
-- variables kept at the call. If none had, the run ends uncaught, and reports the number.
abbrev pub unwound : Program → ℤ → List Frame → Outcome State
unwound P n [] = end (uncaught n)
unwound P n (frame f zero b vs x ∷ fs) = unwound P n fs
unwound P n (frame f (suc l) b vs x ∷ fs) = enter_by_raise P f (suc l) n vs fs

-- Raise under a handler goes to that label with the variables of now.
abbrev pub raised : Program → FunctionNumber → Handler → ℤ → List ℤ → List Frame → Outcome State
raised P f zero n vs fs = unwound P n fs
raised P f (suc l) n vs fs = enter_by_raise P f (suc l) n vs fs

-- The number that operation 8 or 9 raises: 0, or the variable's value.
abbrev pub number_raised : List ℤ → Option Variable → Option ℤ
number_raised vs none = some (pos 0)
number_raised vs (some y) = get_elem? vs y

-- A function begins at its entry block without a handler, with its arguments and its locals 0.
abbrev pub begun : FunctionNumber → Function → List ℤ → List Frame → State
begun f F args fs = state f 0 F.entry (args ++ replicate F.locals (pos 0)) fs

-- A step that makes a frame, with n waiting, is not taken while the limit is already waiting.
abbrev pub at_limit : ℕ → ℕ → Bool
at_limit d n = leb d n

abbrev pub within : {S : Type 0} → ℕ → ℕ → Outcome S → Outcome S
within d n o = cond (at_limit d n) too_deep o

-- One step of the bench, under the depth limit d. Each operation is one step. "An out-of-range difference raises, in place, and its target keeps
-- its value." It raises 0, as operation 8 does.
unfoldable pub step : Program → ℕ → State → Outcome State
step P d (state f h (constant x i b) vs fs) = next (state f h b (set vs x i) fs)
step P d (state f h (copy x y b) vs fs) = given (get_elem? vs y) (λ v. next (state f h b (set vs x v) fs))
step P d (state f h (difference x y z b) vs fs) =
    given (get_elem? vs y) (λ v. given (get_elem? vs z) (λ w.
    cond (in_range (v -ℤ w)) (next (state f h b (set vs x (v -ℤ w)) fs)) (raised P f h (pos 0) vs fs)))
step P d (state f h (call x g ys b) vs fs) =
    within d (length fs)
    (given (get_elem? P g) (λ G. given (values_of vs ys) (λ args. next (begun g G args (frame f h b vs x ∷ fs)))))
step P d (state f h (goto l) vs fs) = enter P f l vs fs
step P d (state f h (return x) vs fs) = given (get_elem? vs x) (λ v. returned v fs)
step P d (state f h (branch y z l m) vs fs) =
    given (get_elem? vs y) (λ v. given (get_elem? vs z) (λ w. enter P f (cond (at_most v w) l m) vs fs))
step P d (state f h (raise r) vs fs) = given (number_raised vs r) (λ n. raised P f h n vs fs)

-- The run of the bench from function f (main is 0), under the depth limit d.
unfoldable pub bench : Program → FunctionNumber → List ℤ → ℕ → ℕ → Result State
bench P f args d budget = run (step P d) budget (begun f (function_of P f) args [])
