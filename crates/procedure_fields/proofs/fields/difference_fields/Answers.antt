use native.Mathlib.Omega.{arith}
use Rattle.procedure_fields.specs.FieldsLaws.{in_range_lem, difference_room, difference_bytes_lem, difference_fields}
use Rattle.procedure_fields.proofs.fields.difference_fields.Goals as goal

pub overflow_add-x : goal.overflow_add-x
overflow_add-x c =
    omega (arith, difference_room c.args.file.now c.args.at c.requires.at_value)

pub overflow_add-y : goal.overflow_add-y
overflow_add-y c =
    omega (arith, difference_room c.args.file.now c.args.at c.requires.at_value)

pub overflow_add-z : goal.overflow_add-z
overflow_add-z c =
    omega (arith, difference_room c.args.file.now c.args.at c.requires.at_value)

pub overflow_add-next : goal.overflow_add-next
overflow_add-next c =
    omega (arith, difference_room c.args.file.now c.args.at c.requires.at_value)

pub bounds-file-x : goal.bounds-file-x
bounds-file-x c =
    omega (arith, difference_room c.args.file.now c.args.at c.requires.at_value)

pub checked_variable-target-requires : goal.checked_variable-target-requires
checked_variable-target-requires c =
    (in_range_lem c.args.file.now c.args.at c.requires.numbers_in_range (difference_bytes_lem c.args.file.now c.args.at c.requires.at_value)).0

pub bounds-file-y : goal.bounds-file-y
bounds-file-y c =
    omega (arith, difference_room c.args.file.now c.args.at c.requires.at_value)

pub checked_variable-left-requires : goal.checked_variable-left-requires
checked_variable-left-requires c =
    (in_range_lem c.args.file.now c.args.at c.requires.numbers_in_range (difference_bytes_lem c.args.file.now c.args.at c.requires.at_value)).1

pub bounds-file-z : goal.bounds-file-z
bounds-file-z c =
    omega (arith, difference_room c.args.file.now c.args.at c.requires.at_value)

pub checked_variable-right-requires : goal.checked_variable-right-requires
checked_variable-right-requires c =
    (in_range_lem c.args.file.now c.args.at c.requires.numbers_in_range (difference_bytes_lem c.args.file.now c.args.at c.requires.at_value)).2

pub returns : goal.returns
returns c =
    difference_fields c.args.file.now c.args.at c.requires.at_value c.checked_variable-target.ensures c.checked_variable-left.ensures c.checked_variable-right.ensures
