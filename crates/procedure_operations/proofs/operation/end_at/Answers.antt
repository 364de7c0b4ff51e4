use Rattle.procedure_operations.specs.OperationLaws.{end_5, end_6, end_7, end_8, end_9, end_unknown}
use native.Mathlib.Omega.{arith}
use mathlib.Core.Path.{◌∙◌, sym}
use Rattle.procedure_operations.proofs.operation.end_at.Goals as goal

pub returns-in-5 : goal.returns-in-5
returns-in-5 c = c.goto_at.ensures ∙ sym (end_5 _ _ _ c.in-5.is)

pub returns-in-6 : goal.returns-in-6
returns-in-6 c = c.return_at.ensures ∙ sym (end_6 _ _ _ c.in-6.is)

pub returns-in-7 : goal.returns-in-7
returns-in-7 c = c.branch_at.ensures ∙ sym (end_7 _ _ _ c.in-7.is)

pub returns-in-8 : goal.returns-in-8
returns-in-8 c = sym (end_8 _ _ _ c.in-8.is)

pub returns-in-9 : goal.returns-in-9
returns-in-9 c = c.raise_value_at.ensures ∙ sym (end_9 _ _ _ c.in-9.is)

pub returns-in_default : goal.returns-in_default
returns-in_default c = sym (end_unknown c.args.file.now c.args.at c.args.number (omega arith) (omega arith) (omega arith) (omega arith) (omega arith))
