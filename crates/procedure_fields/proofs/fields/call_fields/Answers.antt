use native.Mathlib.Omega.{arith}
use Rattle.procedure_fields.specs.FieldsLaws.{in_range_lem, call_room, call_bytes_lem, call_fields}
use Rattle.procedure_fields.proofs.fields.call_fields.Goals as goal

pub overflow_add-x : goal.overflow_add-x
overflow_add-x c =
    omega (arith, call_room c.args.file.now c.args.at c.requires.at_value)

pub overflow_add-g : goal.overflow_add-g
overflow_add-g c =
    omega (arith, call_room c.args.file.now c.args.at c.requires.at_value)

pub overflow_add-c : goal.overflow_add-c
overflow_add-c c =
    omega (arith, call_room c.args.file.now c.args.at c.requires.at_value)

pub overflow_add-arguments : goal.overflow_add-arguments
overflow_add-arguments c =
    omega (arith, call_room c.args.file.now c.args.at c.requires.at_value)

pub bounds-file-c : goal.bounds-file-c
bounds-file-c c =
    omega (arith, call_room c.args.file.now c.args.at c.requires.at_value)

pub overflow_add-next : goal.overflow_add-next
overflow_add-next c =
    omega (arith, call_room c.args.file.now c.args.at c.requires.at_value)

pub bounds-file-x : goal.bounds-file-x
bounds-file-x c =
    omega (arith, call_room c.args.file.now c.args.at c.requires.at_value)

pub checked_variable-target-requires : goal.checked_variable-target-requires
checked_variable-target-requires c =
    (in_range_lem c.args.file.now c.args.at c.requires.numbers_in_range (call_bytes_lem c.args.file.now c.args.at c.requires.at_value)).0

pub bounds-file-g : goal.bounds-file-g
bounds-file-g c =
    omega (arith, call_room c.args.file.now c.args.at c.requires.at_value)

pub checked_function-function-requires : goal.checked_function-function-requires
checked_function-function-requires c =
    (in_range_lem c.args.file.now c.args.at c.requires.numbers_in_range (call_bytes_lem c.args.file.now c.args.at c.requires.at_value)).1

pub returns : goal.returns
returns c =
    rw c.from.ensures
    (call_fields c.args.file.now c.args.at c.requires.at_value c.checked_variable-target.ensures c.checked_function-function.ensures)
