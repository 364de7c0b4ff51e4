-- Figures 3 and 4: well-formed programs and states. Names are numbers here, so "distinct" holds of itself, and a name is declared when
-- it is below the count. With document 01's addition that a call has as many arguments as its callee has parameters.
use Rattle.std.specs.Prelude.{ℕ, ◌≤◌, ◌<◌, ◌≡◌, List, [], ◌∷◌, ℤ, length}
use Rattle.std.proofs.Math.Option.{Option, none, some}
use Rattle.semantics.specs.Program.{FunctionNumber, Variable, Label, Handler, Block, constant, copy, difference, call, goto, return, branch, raise, Labelled, Function, Program, variables, function_of}
use Rattle.semantics.specs.Bench.{Frame, frame, State, state}

-- Q of every element.
abbrev pub All : {A : Type 0} → (A → Type 0) → List A → Type 0
All Q [] = Unit {0}
All Q (a ∷ as') = Q a × All Q as'

-- One of the labels 1 to n.
abbrev pub IsLabel : ℕ → Label → Type 0
IsLabel n l = (1 ≤ l) × (l ≤ n)

-- No handler, which is 0, or one of the labels 1 to n.
abbrev pub IsHandler : ℕ → Handler → Type 0
IsHandler n h = h ≤ n

-- No variable, or one of the variables 0 to v - 1: of a receiver, and of what a raise names.
abbrev pub MayName : ℕ → Option Variable → Type 0
MayName v none = Unit {0}
MayName v (some x) = x < v

-- wf({f}, {z}, {L}, B), in a function of v variables and n labels.
abbrev pub WellFormedBlock : Program → ℕ → ℕ → Block → Type 0
WellFormedBlock P v n (constant x i b) = (x < v) × WellFormedBlock P v n b
WellFormedBlock P v n (copy x y b) = (x < v) × (y < v) × WellFormedBlock P v n b
WellFormedBlock P v n (difference x y z b) = (x < v) × (y < v) × (z < v) × WellFormedBlock P v n b
WellFormedBlock P v n (call x g ys b) =
    (x < v) × (g < length P) × (length ys ≡ (function_of P g).params) × All (λ y. y < v) ys × WellFormedBlock P v n b
WellFormedBlock P v n (goto l) = IsLabel n l
WellFormedBlock P v n (return x) = x < v
WellFormedBlock P v n (branch y z l m) = (y < v) × (z < v) × IsLabel n l × IsLabel n m
WellFormedBlock P v n (raise r) = MayName v r

-- wf({L}, H) and the block that it stands at.
pub record WellFormedLabelled (P : Program) (v n : ℕ) (B : Labelled) : Type 0 where
  pub handler : IsHandler n B.handler
  pub receiver : MayName v B.receiver
  pub block : WellFormedBlock P v n B.block

-- wf({f}, D)
pub record WellFormedFunction (P : Program) (F : Function) : Type 0 where
  pub entry : WellFormedBlock P (variables F) (length F.blocks) F.entry
  pub blocks : All (WellFormedLabelled P (variables F) (length F.blocks)) F.blocks

-- wf(P)
abbrev pub WellFormed : Program → Type 0
WellFormed P = All (WellFormedFunction P) P

-- What figure 4 asks of the running function and of each waiting caller alike.
pub record WellFormedPlace (P : Program) (f : FunctionNumber) (h : Handler) (b : Block) (vs : List ℤ) : Type 0 where
  pub function : f < length P
  pub handler : IsHandler (length (function_of P f).blocks) h
  pub block : WellFormedBlock P (variables (function_of P f)) (length (function_of P f).blocks) b
  pub variables : length vs ≡ variables (function_of P f)

-- wf(P, r, F)
abbrev pub WellFormedFrame : Program → Frame → Type 0
WellFormedFrame P (frame f h b vs x) = WellFormedPlace P f h b vs × (x < length vs)

-- wf(S), for a well-formed P
abbrev pub WellFormedState : Program → State → Type 0
WellFormedState P (state f h b vs fs) = WellFormedPlace P f h b vs × All (WellFormedFrame P) fs
