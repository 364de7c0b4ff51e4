use Rattle.procedure_operations.specs.Numbers.{found}
use Rattle.parsing.proofs.Cases.{cases}
use Rattle.procedure_operations.proofs.numbers.function_number.Goals as goal

pub returns-then-number-functions : goal.returns-then-number-functions
unfolding found
returns-then-number-functions c = search cases

pub returns-else-number-functions : goal.returns-else-number-functions
unfolding found
returns-else-number-functions c = search cases
