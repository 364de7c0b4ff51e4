-- What the rest of a block at an offset is, as syntax. Of an offset at which an operation of an accepted file stands; at others it is
-- some block.
use Rattle.std.specs.Prelude.{ℕ, List}
use Rattle.std.proofs.Math.Option.{none, some}
use Rattle.semantics.specs.Program.{Block, constant, copy, difference, call, goto, return, branch, raise}
use Rattle.procedure_operations.specs.declared.operation.Operation.{Operation}
use Rattle.procedure_operations.specs.declared.operation.Operation.TheVariants.{Constant, Copy, Difference, Call, Goto, Return, Branch, Raise, RaiseValue, Refused}
use Rattle.procedure_layout.specs.Layout.{walk, arguments_at}

abbrev pub rest_from : List ℕ → ℕ → Operation → (ℕ → Block) → Block
rest_from s at (Constant x i next) rest = constant x i (rest next)
rest_from s at (Copy x y next) rest = copy x y (rest next)
rest_from s at (Difference x y z next) rest = difference x y z (rest next)
rest_from s at (Call x g n next) rest = call x g (arguments_at s at n) (rest next)
rest_from s at (Goto l next) rest = goto l
rest_from s at (Return x next) rest = return x
rest_from s at (Branch y z l m next) rest = branch y z l m
rest_from s at (Raise next) rest = raise none
rest_from s at (RaiseValue x next) rest = raise (some x)
rest_from s at (Refused r) rest = raise none

unfoldable pub rest_at : List ℕ → ℕ → Block
rest_at s at = walk s (rest_from s) (raise none) at
