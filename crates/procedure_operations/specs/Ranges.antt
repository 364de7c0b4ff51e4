-- The numbers that an operation of a checked file names are in their ranges.
use Rattle.std.specs.Prelude.{ℕ, ◌<◌, List, get_or}
use Rattle.procedure_operations.specs.declared.operation.Operation.{Operation}
use Rattle.procedure_operations.specs.declared.operation.Operation.TheVariants.{Constant, Copy, Difference, Call, Goto, Return, Branch, Raise, RaiseValue, Refused}
use Rattle.procedure_operations.specs.Numbers.{max_functions, max_variables}
use Rattle.procedure_operations.specs.Operation.{arguments_at}

-- Of the operation at an offset.
abbrev pub NumbersInRange : List ℕ → ℕ → Operation → Type 0
NumbersInRange s at (Constant x i next) = x < max_variables
NumbersInRange s at (Copy x y next) = (x < max_variables) × (y < max_variables)
NumbersInRange s at (Difference x y z next) = (x < max_variables) × (y < max_variables) × (z < max_variables)
NumbersInRange s at (Call x g n next) =
    (x < max_variables) × (g < max_functions) × ((i : ℕ) → i < n → get_or (arguments_at s at n) i 0 < max_variables)
NumbersInRange s at (Goto l next) = Unit {0}
NumbersInRange s at (Return x next) = x < max_variables
NumbersInRange s at (Branch y z l m next) = (y < max_variables) × (z < max_variables)
NumbersInRange s at (Raise next) = Unit {0}
NumbersInRange s at (RaiseValue x next) = x < max_variables
NumbersInRange s at (Refused r) = Unit {0}
