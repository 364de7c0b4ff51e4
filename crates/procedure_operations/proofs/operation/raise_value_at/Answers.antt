use Rattle.procedure_operations.specs.OperationLaws.{raise_value_unknown, raise_value_cut, raise_value_in}
use native.Mathlib.Omega.{arith}
use mathlib.Core.Path.{◌∙◌, sym}
use Rattle.procedure_operations.proofs.operation.raise_value_at.Goals as goal

pub returns-then-version_of-ne2 : goal.returns-then-version_of-ne2
returns-then-version_of-ne2 c =
    sym (raise_value_unknown c.args.file.now c.args.at (λ v. c.if-version_of-ne2.true (c.version_of.ensures ∙ v)))

pub returns-then-file-next : goal.returns-then-file-next
returns-then-file-next c =
    c.cut.ensures ∙ sym (raise_value_cut c.args.file.now c.args.at (sym c.version_of.ensures ∙ c.if-version_of-ne2.false) c.if-file-next.true)

pub returns : goal.returns
returns c =
    sym (raise_value_in c.args.file.now c.args.at (sym c.version_of.ensures ∙ c.if-version_of-ne2.false) (omega arith))
