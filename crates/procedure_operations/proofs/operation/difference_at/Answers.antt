use Rattle.procedure_operations.specs.OperationLaws.{difference_cut, difference_in}
use native.Mathlib.Omega.{arith}
use mathlib.Core.Path.{◌∙◌, sym}
use Rattle.procedure_operations.proofs.operation.difference_at.Goals as goal

pub returns-then-file-next : goal.returns-then-file-next
returns-then-file-next c =
    c.cut.ensures ∙ sym (difference_cut c.args.file.now c.args.at c.if-file-next.true)

pub returns : goal.returns
returns c =
    sym (difference_in c.args.file.now c.args.at (omega arith))
