use native.Mathlib.Omega.{arith}
use Rattle.procedure_fields.specs.FieldsLaws.{in_range_lem, branch_room, branch_bytes_lem, branch_fields}
use Rattle.procedure_fields.proofs.fields.branch_fields.Goals as goal

pub overflow_add-y : goal.overflow_add-y
overflow_add-y c =
    omega (arith, branch_room c.args.file.now c.args.at c.requires.at_value)

pub overflow_add-z : goal.overflow_add-z
overflow_add-z c =
    omega (arith, branch_room c.args.file.now c.args.at c.requires.at_value)

pub overflow_add-l : goal.overflow_add-l
overflow_add-l c =
    omega (arith, branch_room c.args.file.now c.args.at c.requires.at_value)

pub overflow_add-m : goal.overflow_add-m
overflow_add-m c =
    omega (arith, branch_room c.args.file.now c.args.at c.requires.at_value)

pub overflow_add-next : goal.overflow_add-next
overflow_add-next c =
    omega (arith, branch_room c.args.file.now c.args.at c.requires.at_value)

pub bounds-file-y : goal.bounds-file-y
bounds-file-y c =
    omega (arith, branch_room c.args.file.now c.args.at c.requires.at_value)

pub checked_variable-left-requires : goal.checked_variable-left-requires
checked_variable-left-requires c =
    (in_range_lem c.args.file.now c.args.at c.requires.numbers_in_range (branch_bytes_lem c.args.file.now c.args.at c.requires.at_value)).0

pub bounds-file-z : goal.bounds-file-z
bounds-file-z c =
    omega (arith, branch_room c.args.file.now c.args.at c.requires.at_value)

pub checked_variable-right-requires : goal.checked_variable-right-requires
checked_variable-right-requires c =
    (in_range_lem c.args.file.now c.args.at c.requires.numbers_in_range (branch_bytes_lem c.args.file.now c.args.at c.requires.at_value)).1

pub bounds-file-l : goal.bounds-file-l
bounds-file-l c =
    omega (arith, branch_room c.args.file.now c.args.at c.requires.at_value)

pub bounds-file-m : goal.bounds-file-m
bounds-file-m c =
    omega (arith, branch_room c.args.file.now c.args.at c.requires.at_value)

pub returns : goal.returns
returns c =
    branch_fields c.args.file.now c.args.at c.requires.at_value c.checked_variable-left.ensures c.checked_variable-right.ensures
