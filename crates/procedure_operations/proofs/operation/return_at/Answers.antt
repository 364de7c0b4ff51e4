use Rattle.procedure_operations.specs.OperationLaws.{return_cut, return_in}
use native.Mathlib.Omega.{arith}
use mathlib.Core.Path.{◌∙◌, sym}
use Rattle.procedure_operations.proofs.operation.return_at.Goals as goal

pub returns-then-file-next : goal.returns-then-file-next
returns-then-file-next c =
    c.cut.ensures ∙ sym (return_cut c.args.file.now c.args.at c.if-file-next.true)

pub returns : goal.returns
returns c =
    sym (return_in c.args.file.now c.args.at (omega arith))
