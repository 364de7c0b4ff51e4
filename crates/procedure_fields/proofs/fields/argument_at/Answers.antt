use native.Mathlib.Omega.{arith}
use Rattle.procedure_fields.specs.FieldsLaws.{argument_room, argument_range}
use Rattle.procedure_fields.proofs.fields.argument_at.Goals as goal

pub overflow_add-first : goal.overflow_add-first
overflow_add-first c =
    omega (arith, argument_room c.args.file.now c.args.at c.args.i c.requires.i_bound)

pub overflow_add-y : goal.overflow_add-y
overflow_add-y c =
    omega (arith, argument_room c.args.file.now c.args.at c.args.i c.requires.i_bound)

pub bounds-file-y : goal.bounds-file-y
bounds-file-y c =
    omega (arith, argument_room c.args.file.now c.args.at c.args.i c.requires.i_bound)

pub checked_variable-requires : goal.checked_variable-requires
checked_variable-requires c =
    argument_range c.args.file.now c.args.at c.args.i c.requires.i_bound c.requires.numbers_in_range
