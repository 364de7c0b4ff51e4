use Rattle.procedure_operations.specs.OperationLaws.{operation_past, operation_1, operation_2, operation_3, operation_4, operation_end, operation_unknown}
use native.Mathlib.Omega.{arith}
use mathlib.Core.Path.{◌∙◌, sym}
use Rattle.procedure_operations.proofs.operation.operation_at.Goals as goal

pub returns-then-file-at : goal.returns-then-file-at
returns-then-file-at c = c.cut.ensures ∙ sym (operation_past _ _ c.if-file-at.true)

pub returns-in-1 : goal.returns-in-1
returns-in-1 c = c.constant_at.ensures ∙ sym (operation_1 _ _ (omega arith) c.in-1.is)

pub returns-in-2 : goal.returns-in-2
returns-in-2 c = c.copy_at.ensures ∙ sym (operation_2 _ _ (omega arith) c.in-2.is)

pub returns-in-3 : goal.returns-in-3
returns-in-3 c = c.difference_at.ensures ∙ sym (operation_3 _ _ (omega arith) c.in-3.is)

pub returns-in-4 : goal.returns-in-4
returns-in-4 c = c.call_at.ensures ∙ sym (operation_4 _ _ (omega arith) c.in-4.is)

pub returns-in-5-to-9 : goal.returns-in-5-to-9
returns-in-5-to-9 c =
    c.end_at.ensures ∙ sym (operation_end c.args.file.now c.args.at (omega arith) (omega arith) (omega arith) (omega arith) (omega arith))

pub returns-in_default : goal.returns-in_default
returns-in_default c = sym (operation_unknown c.args.file.now c.args.at (omega arith) (omega arith) (omega arith) (omega arith) (omega arith) (omega arith) (omega arith) (omega arith) (omega arith) (omega arith))

pub returns-in_default-2 : goal.returns-in_default-2
returns-in_default-2 c = sym (operation_unknown c.args.file.now c.args.at (omega arith) (omega arith) (omega arith) (omega arith) (omega arith) (omega arith) (omega arith) (omega arith) (omega arith) (omega arith))
