use Prim.Native.Nat.{◌+◌, ◌<◌}
use native.Mathlib.Omega.{arith}
use lib.ListN.{get_or}
use Rattle.procedure_fields.specs.FieldsLaws.{in_range_lem, raise_value_room, raise_value_bytes_lem, raise_value_fields}
use Rattle.procedure_fields.proofs.fields.raise_value_fields.Goals as goal

pub overflow_add-x : goal.overflow_add-x
overflow_add-x c =
    omega (arith, raise_value_room c.args.file.now c.args.at c.requires.at_value)

pub overflow_add-next : goal.overflow_add-next
overflow_add-next c =
    omega (arith, raise_value_room c.args.file.now c.args.at c.requires.at_value)

pub bounds-file-x : goal.bounds-file-x
bounds-file-x c =
    omega (arith, raise_value_room c.args.file.now c.args.at c.requires.at_value)

pub checked_variable-variable-requires : goal.checked_variable-variable-requires
checked_variable-variable-requires c =
    let file = c.args.file.now in
    let at = c.args.at in
    let range : get_or file (at + 1) 0 < 32 = in_range_lem file at c.requires.numbers_in_range (raise_value_bytes_lem file at c.requires.at_value) in
    omega arith

pub returns : goal.returns
returns c =
    raise_value_fields c.args.file.now c.args.at c.requires.at_value c.checked_variable-variable.ensures
