use Rattle.procedure_operations.specs.OperationLaws.{branch_cut, branch_in}
use native.Mathlib.Omega.{arith}
use mathlib.Core.Path.{◌∙◌, sym}
use Rattle.procedure_operations.proofs.operation.branch_at.Goals as goal

pub returns-then-file-next : goal.returns-then-file-next
returns-then-file-next c =
    c.cut.ensures ∙ sym (branch_cut c.args.file.now c.args.at c.if-file-next.true)

pub returns : goal.returns
returns c =
    sym (branch_in c.args.file.now c.args.at (omega arith))
