use Rattle.procedure_operations.specs.OperationLaws.{call_cut, call_short, call_in}
use native.Mathlib.Omega.{arith}
use mathlib.Core.Path.{◌∙◌, sym}
use Rattle.procedure_operations.proofs.operation.call_at.Goals as goal

pub returns-then-file-arguments : goal.returns-then-file-arguments
returns-then-file-arguments c =
    c.cut.ensures ∙ sym (call_cut c.args.file.now c.args.at c.if-file-arguments.true)

pub returns-then-file-next : goal.returns-then-file-next
returns-then-file-next c =
    c.cut-then-file-next.ensures ∙ sym (call_short c.args.file.now c.args.at (omega arith) (omega (arith, c.from.ensures, c.if-file-next.true)))

pub returns : goal.returns
returns c =
    rw c.from.ensures (sym (call_in c.args.file.now c.args.at (omega (arith, c.from.ensures, c.if-file-next.false))))
