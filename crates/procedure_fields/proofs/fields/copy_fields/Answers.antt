use native.Mathlib.Omega.{arith}
use Rattle.procedure_fields.specs.FieldsLaws.{in_range_lem, copy_room, copy_bytes, copy_fields}
use Rattle.procedure_fields.proofs.fields.copy_fields.Goals as goal

pub overflow_add-x : goal.overflow_add-x
overflow_add-x c =
    omega (arith, copy_room c.args.file.now c.args.at c.requires.at_value)

pub overflow_add-y : goal.overflow_add-y
overflow_add-y c =
    omega (arith, copy_room c.args.file.now c.args.at c.requires.at_value)

pub overflow_add-next : goal.overflow_add-next
overflow_add-next c =
    omega (arith, copy_room c.args.file.now c.args.at c.requires.at_value)

pub bounds-file-x : goal.bounds-file-x
bounds-file-x c =
    omega (arith, copy_room c.args.file.now c.args.at c.requires.at_value)

pub checked_variable-target-requires : goal.checked_variable-target-requires
checked_variable-target-requires c =
    (in_range_lem c.args.file.now c.args.at c.requires.numbers_in_range (copy_bytes c.args.file.now c.args.at c.requires.at_value)).0

pub bounds-file-y : goal.bounds-file-y
bounds-file-y c =
    omega (arith, copy_room c.args.file.now c.args.at c.requires.at_value)

pub checked_variable-from-requires : goal.checked_variable-from-requires
checked_variable-from-requires c =
    (in_range_lem c.args.file.now c.args.at c.requires.numbers_in_range (copy_bytes c.args.file.now c.args.at c.requires.at_value)).1

pub returns : goal.returns
returns c =
    copy_fields c.args.file.now c.args.at c.requires.at_value c.checked_variable-target.ensures c.checked_variable-from.ensures
