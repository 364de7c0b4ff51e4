use Rattle.procedure_operations.specs.Numbers.{found}
use Rattle.parsing.proofs.Cases.{cases}
use Rattle.procedure_operations.proofs.numbers.variable_number.Goals as goal

pub returns-then-number-variables : goal.returns-then-number-variables
unfolding found
returns-then-number-variables c = search cases

pub returns-else-number-variables : goal.returns-else-number-variables
unfolding found
returns-else-number-variables c = search cases
