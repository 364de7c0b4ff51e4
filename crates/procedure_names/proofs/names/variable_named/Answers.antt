use Rattle.procedure_names.specs.NamedLaws.{variable_right, variable_wrong}
use Rattle.procedure_operations.specs.NumbersLaws.{variable_is, variable_none}
use Rattle.procedure_names.proofs.names.variable_named.Goals as goal

pub returns-in-Some : goal.returns-in-Some
returns-in-Some c = variable_right _ _ _ (variable_is _ _ _ c.variable_number.ensures _ c.in-Some.is).1

pub returns-in-None : goal.returns-in-None
returns-in-None c = variable_wrong _ _ _ (variable_none _ _ _ c.variable_number.ensures c.in-None.is)
