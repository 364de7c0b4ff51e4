-- Function numbers and variable numbers: "two sets with nothing in common".
use Rattle.procedure_operations.specs.declared.numbers.VariableNumber.{VariableNumber}
use Rattle.procedure_operations.specs.declared.numbers.FunctionNumber.{FunctionNumber}
use Rattle.std.specs.Prelude.{ℕ, cond, ltb, None, Option, Some}
use Rattle.parsing.specs.declared.reason.Reason.{Reason}
use Rattle.parsing.specs.declared.reason.Reason.TheVariants.{MissingVariable, MissingFunction}

-- "Function count (1 to 32)."
abbrev pub max_functions : ℕ
max_functions = 32

-- "Parameter count (0 to 8), local count (0 to 24)": variables of a function at most.
abbrev pub max_variables : ℕ
max_variables = 32

-- What a search says: the number that is there, or why there is none.
pub data Found : Type 0 where
  there : ℕ → Found
  missing : Reason → Found

-- A number in its range, or the refusal.
unfoldable pub found : Reason → ℕ → ℕ → Found
found reason x count = cond (ltb x count) (there x) (missing reason)

-- "9 no such function."
abbrev pub function_as : Option FunctionNumber → Found
function_as (Some g) = there g.0
function_as None = missing MissingFunction

-- "7 no such variable."
abbrev pub variable_as : Option VariableNumber → Found
variable_as (Some x) = there x.0
variable_as None = missing MissingVariable
