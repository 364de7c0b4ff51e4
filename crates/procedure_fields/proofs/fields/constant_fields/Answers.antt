use mir.Syntax.{w32}
use native.Mathlib.Omega.{arith}
use Rattle.procedure_fields.specs.FieldsLaws.{in_range_lem, constant_room, constant_bytes, constant_fields}
use mathlib.Core.Path.{◌∙◌}
use mir.Facts.{to_z-of_z}
use Rattle.procedure_fields.proofs.fields.constant_fields.Goals as goal

pub overflow_add-x : goal.overflow_add-x
overflow_add-x c =
    omega (arith, constant_room c.args.file.now c.args.at c.requires.at_value)

pub overflow_add-i : goal.overflow_add-i
overflow_add-i c =
    omega (arith, constant_room c.args.file.now c.args.at c.requires.at_value)

pub overflow_add-next : goal.overflow_add-next
overflow_add-next c =
    omega (arith, constant_room c.args.file.now c.args.at c.requires.at_value)

pub bounds-file-i : goal.bounds-file-i
bounds-file-i c =
    omega (arith, constant_room c.args.file.now c.args.at c.requires.at_value)

pub overflow_add-i-2 : goal.overflow_add-i-2
overflow_add-i-2 c =
    omega (arith, constant_room c.args.file.now c.args.at c.requires.at_value)

pub bounds-file-i-2 : goal.bounds-file-i-2
bounds-file-i-2 c =
    omega (arith, constant_room c.args.file.now c.args.at c.requires.at_value)

pub overflow_add-i-3 : goal.overflow_add-i-3
overflow_add-i-3 c =
    omega (arith, constant_room c.args.file.now c.args.at c.requires.at_value)

pub bounds-file-i-3 : goal.bounds-file-i-3
bounds-file-i-3 c =
    omega (arith, constant_room c.args.file.now c.args.at c.requires.at_value)

pub overflow_add-i-4 : goal.overflow_add-i-4
overflow_add-i-4 c =
    omega (arith, constant_room c.args.file.now c.args.at c.requires.at_value)

pub bounds-file-i-4 : goal.bounds-file-i-4
bounds-file-i-4 c =
    omega (arith, constant_room c.args.file.now c.args.at c.requires.at_value)

pub bounds-file-x : goal.bounds-file-x
bounds-file-x c =
    omega (arith, constant_room c.args.file.now c.args.at c.requires.at_value)

pub checked_variable-target-requires : goal.checked_variable-target-requires
checked_variable-target-requires c =
    in_range_lem c.args.file.now c.args.at c.requires.numbers_in_range (constant_bytes c.args.file.now c.args.at c.requires.at_value)

pub returns : goal.returns
returns c =
    constant_fields c.args.file.now c.args.at c.requires.at_value c.checked_variable-target.ensures (to_z-of_z {w = w32} (record { sfits = c.value-value.type_inv }) ∙ c.value-value.ensures)
