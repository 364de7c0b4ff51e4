-- Figure 1: the source language. A procedure (document 01) is a program; its functions and labelled blocks are numbered, and so are variables.
use Rattle.std.specs.Prelude.{ℕ, ◌+◌, List, [], ℤ, get_or}
use Rattle.std.proofs.Math.Option.{Option, none}

-- "Function numbers and variable numbers are two sets with nothing in common": both are plain numbers here, as labels are, and the place of a number
-- in an operation says which it is. Main is function 0.
abbrev pub FunctionNumber : Type 0
FunctionNumber = ℕ

-- Parameters are variables 0 upward, locals follow.
abbrev pub Variable : Type 0
Variable = ℕ

-- The labelled blocks of a function are labelled 1 upward.
abbrev pub Label : Type 0
Label = ℕ

-- H of figure 1: 0 for none, else a label.
abbrev pub Handler : Type 0
Handler = ℕ

-- B of figure 1: operations up to and including the first of 5 to 9. The comment gives the operation number of document 01, and of document 02,
-- Slip 7: "Operation 9 raises a variable's value and ends its block; operation 8 .. 0."
pub data Block : Type 0 where
  constant : Variable → ℤ → Block → Block  -- 1  x := i; B
  copy : Variable → Variable → Block → Block  -- 2  x := y; B
  difference : Variable → Variable → Variable → Block → Block  -- 3  x := y - z; B
  call : Variable → FunctionNumber → List Variable → Block → Block  -- 4  x := g(ys); B
  goto : Label → Block  -- 5  goto L
  return : Variable → Block  -- 6  return x
  branch : Variable → Variable → Label → Label → Block  -- 7  if y ≤ z then L1 else L2
  raise : Option Variable → Block  -- 8  raise; 9  raise x

-- Operation 4.
abbrev pub IsCall : Block → Type 0
IsCall (constant x i b) = ⊥
IsCall (copy x y b) = ⊥
IsCall (difference x y z b) = ⊥
IsCall (call x g ys b) = Unit {0}
IsCall (goto l) = ⊥
IsCall (return x) = ⊥
IsCall (branch y z l m) = ⊥
IsCall (raise r) = ⊥

-- L(H) : B, with Slip 7's "receiving variable".
pub record Labelled : Type 0 where
  pub handler : Handler
  pub receiver : Option Variable
  pub block : Block

-- D of figure 1: f(xs){var ys; B0; L1(H1) : B1; ..}. Each function carries the version of its file, 1 or 2.
pub record Function : Type 0 where
  pub version : ℕ
  pub params : ℕ
  pub locals : ℕ
  pub entry : Block
  pub blocks : List Labelled

abbrev pub Program : Type 0
Program = List Function

-- The number of a function's variables.
abbrev pub variables : Function → ℕ
variables F = F.params + F.locals

-- What stands for a block that is not there.
abbrev pub no_labelled : Labelled
no_labelled = record { handler = 0; receiver = none; block = raise none }

-- What stands for a function that is not there.
abbrev pub no_function : Function
no_function = record { version = 1; params = 0; locals = 0; entry = raise none; blocks = [] }

-- Function f of P. A well-formed program or state asks this only of functions that are there.
abbrev pub function_of : Program → FunctionNumber → Function
function_of P f = get_or P f no_function

-- The version of a program, which its functions share.
abbrev pub program_version : Program → ℕ
program_version P = (function_of P 0).version
