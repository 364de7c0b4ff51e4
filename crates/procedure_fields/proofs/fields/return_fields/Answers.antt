use native.Mathlib.Omega.{arith}
use Rattle.procedure_fields.specs.FieldsLaws.{in_range_lem, return_room, return_bytes, return_fields}
use Rattle.procedure_fields.proofs.fields.return_fields.Goals as goal

pub overflow_add-x : goal.overflow_add-x
overflow_add-x c =
    omega (arith, return_room c.args.file.now c.args.at c.requires.at_value)

pub overflow_add-next : goal.overflow_add-next
overflow_add-next c =
    omega (arith, return_room c.args.file.now c.args.at c.requires.at_value)

pub bounds-file-x : goal.bounds-file-x
bounds-file-x c =
    omega (arith, return_room c.args.file.now c.args.at c.requires.at_value)

pub checked_variable-variable-requires : goal.checked_variable-variable-requires
checked_variable-variable-requires c =
    in_range_lem c.args.file.now c.args.at c.requires.numbers_in_range (return_bytes c.args.file.now c.args.at c.requires.at_value)

pub returns : goal.returns
returns c =
    return_fields c.args.file.now c.args.at c.requires.at_value c.checked_variable-variable.ensures
