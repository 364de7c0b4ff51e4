-- What the functions that count a block are asked, and what they give: an operation of an accepted file stands there; sizes.
use Rattle.std.specs.Prelude.{ℕ, ◌≤◌, ◌≡◌, List, length}
use Rattle.semantics.specs.Program.{variables, function_of}
use Rattle.procedure_operations.specs.declared.operation.Operation.{Operation}
use Rattle.procedure_operations.specs.declared.operation.Operation.TheVariants.{Constant, Copy, Difference, Call, Goto, Return, Branch, Raise, RaiseValue, Refused}
use Rattle.procedure_layout.specs.Layout.{max_variables}
use Rattle.procedure_file.specs.Check.{program_of}
use Rattle.procedure_file.specs.FileInvariant.{FileInvariant, OperationsAt}
use Rattle.translator_bytes.specs.declared.jumps.Under.{Under}
use Rattle.translator_sizes.specs.Parts.{bytes_at, label_bytes}

-- An operation of a function with v variables stands at an offset.
pub record OperationInFile (s : List ℕ) (v at : ℕ) : Type 0 where
  pub invariant : FileInvariant s
  pub function : ℕ
  pub stands : OperationsAt s function at
  pub vars : v ≡ variables (function_of (program_of s) function)

-- The argument count of a call is one that a jump can have, 0 to 32.
abbrev pub CountInRange : Operation → Type 0
CountInRange (Constant x i next) = Unit {0}
CountInRange (Copy x y next) = Unit {0}
CountInRange (Difference x y z next) = Unit {0}
CountInRange (Call x g n next) = n ≤ max_variables
CountInRange (Goto l next) = Unit {0}
CountInRange (Return x next) = Unit {0}
CountInRange (Branch y z l m next) = Unit {0}
CountInRange (Raise next) = Unit {0}
CountInRange (RaiseValue y next) = Unit {0}
CountInRange (Refused r) = Unit {0}

-- The size of a block's body, whatever number its function has.
pub record BlockSize (s : List ℕ) (u : Under) (at r : ℕ) : Type 0 where
  pub is : (base : ℕ) → r ≡ length (bytes_at s base u at)
  pub size_bound : r ≤ 4194304

-- The size of the part of a block.
pub record LabelSize (s : List ℕ) (f l r : ℕ) : Type 0 where
  pub is : r ≡ length (label_bytes s f l)
  pub size_bound : r ≤ 8388608
