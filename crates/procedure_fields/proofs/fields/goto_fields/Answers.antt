use native.Mathlib.Omega.{arith}
use Rattle.procedure_fields.specs.FieldsLaws.{goto_room, goto_fields}
use Rattle.procedure_fields.proofs.fields.goto_fields.Goals as goal

pub overflow_add-l : goal.overflow_add-l
overflow_add-l c = omega (arith, goto_room c.args.file.now c.args.at c.requires)

pub overflow_add-next : goal.overflow_add-next
overflow_add-next c = omega (arith, goto_room c.args.file.now c.args.at c.requires)

pub bounds-file-l : goal.bounds-file-l
bounds-file-l c =
    omega (arith, goto_room c.args.file.now c.args.at c.requires)

pub returns : goal.returns
returns c =
    goto_fields c.args.file.now c.args.at c.requires
