use native.Mathlib.Omega.{arith}
use Rattle.procedure_fields.specs.FieldsLaws.{in_range_lem, constant_room, constant_bytes, constant_value}
use Rattle.procedure_fields.proofs.fields.constant_bytes.Goals as goal

pub overflow_add-x : goal.overflow_add-x
overflow_add-x c =
    omega (arith, constant_room c.args.file.now c.args.at c.requires.at_value)

pub overflow_add-low : goal.overflow_add-low
overflow_add-low c =
    omega (arith, constant_room c.args.file.now c.args.at c.requires.at_value)

pub overflow_add-second : goal.overflow_add-second
overflow_add-second c =
    omega (arith, constant_room c.args.file.now c.args.at c.requires.at_value)

pub overflow_add-third : goal.overflow_add-third
overflow_add-third c =
    omega (arith, constant_room c.args.file.now c.args.at c.requires.at_value)

pub overflow_add-high : goal.overflow_add-high
overflow_add-high c =
    omega (arith, constant_room c.args.file.now c.args.at c.requires.at_value)

pub overflow_add-next : goal.overflow_add-next
overflow_add-next c =
    omega (arith, constant_room c.args.file.now c.args.at c.requires.at_value)

pub bounds-file-x : goal.bounds-file-x
bounds-file-x c =
    omega (arith, constant_room c.args.file.now c.args.at c.requires.at_value)

pub checked_variable-target-requires : goal.checked_variable-target-requires
checked_variable-target-requires c =
    in_range_lem c.args.file.now c.args.at c.requires.numbers_in_range (constant_bytes c.args.file.now c.args.at c.requires.at_value)

pub bounds-file-low : goal.bounds-file-low
bounds-file-low c =
    omega (arith, constant_room c.args.file.now c.args.at c.requires.at_value)

pub bounds-file-second : goal.bounds-file-second
bounds-file-second c =
    omega (arith, constant_room c.args.file.now c.args.at c.requires.at_value)

pub bounds-file-third : goal.bounds-file-third
bounds-file-third c =
    omega (arith, constant_room c.args.file.now c.args.at c.requires.at_value)

pub bounds-file-high : goal.bounds-file-high
bounds-file-high c =
    omega (arith, constant_room c.args.file.now c.args.at c.requires.at_value)

pub returns : goal.returns
returns c =
    constant_value c.args.file.now c.args.at c.requires.at_value c.checked_variable-target.ensures
