use Rattle.procedure_operations.specs.OperationLaws.{constant_cut, constant_in}
use lib.ListN.{get_or}
use Prim.Native.Nat.{◌+◌}
use Rattle.procedure_operations.specs.declared.operation.Operation.TheVariants.{Constant}
use mir.Facts.{to_z-of_z}
use mir.Syntax.{w32}
use native.Mathlib.Omega.{arith}
use mathlib.Core.Path.{◌∙◌, sym, ap}
use Rattle.procedure_operations.proofs.operation.constant_at.Goals as goal

pub returns-then-file-next : goal.returns-then-file-next
returns-then-file-next c =
    c.cut.ensures ∙ sym (constant_cut c.args.file.now c.args.at c.if-file-next.true)

pub returns : goal.returns
returns c =
    ap (λ v. Constant (get_or c.args.file.now (c.args.at + 1) 0) v (c.args.at + 6)) (to_z-of_z {w = w32} (record { sfits = c.value-value.type_inv }) ∙ c.value-value.ensures)
    ∙ sym (constant_in c.args.file.now c.args.at (omega arith))
