use Rattle.procedure_operations.specs.OperationLaws.{goto_cut, goto_in}
use native.Mathlib.Omega.{arith}
use mathlib.Core.Path.{◌∙◌, sym}
use Rattle.procedure_operations.proofs.operation.goto_at.Goals as goal

pub returns-then-file-next : goal.returns-then-file-next
returns-then-file-next c =
    c.cut.ensures ∙ sym (goto_cut c.args.file.now c.args.at c.if-file-next.true)

pub returns : goal.returns
returns c =
    sym (goto_in c.args.file.now c.args.at (omega arith))
