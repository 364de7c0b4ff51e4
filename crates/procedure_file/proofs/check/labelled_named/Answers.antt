use Rattle.procedure_file.proofs.TableLaws.{start_room, before_room, receiver_named}
use Rattle.procedure_file.proofs.FileNamesLaws.{handler_right}
use native.Mathlib.Omega.{arith}
use mathlib.Core.Path.{◌∙◌}
use Rattle.procedure_file.proofs.check.labelled_named.Goals as goal

pub overflow_sub-place : goal.overflow_sub-place
overflow_sub-place c =
    let before = rw c.bytes-bytes.ensures.value at c.bytes_before-before.ensures in
    before_room c.args.file.now c.bytes-bytes.ensures.laid c.args.f c.requires.f_in_bounds.0 c.args.l _ _ c.requires.f_in_bounds.1 c.requires.f_in_bounds.2
    c.start_of-start.ensures before

pub overflow_add-receiver_place : goal.overflow_add-receiver_place
overflow_add-receiver_place c =
    let r = start_room c.args.file.now c.bytes-bytes.ensures.laid c.args.f c.requires.f_in_bounds.0 c.args.l _ c.requires.f_in_bounds.2 c.start_of-start.ensures in
    record { fits = omega (arith, r.1, c.bytes-bytes.ensures.laid.file_bound) }

pub returns : goal.returns
returns c =
    let before = rw c.bytes-bytes.ensures.value at c.bytes_before-before.ensures in
    let block = rw c.bytes-bytes.ensures.value at c.block_named-block.ensures in
    let known = receiver_named c.args.file.now c.bytes-bytes.ensures.laid c.args.f c.requires.f_in_bounds.0 c.args.l c.requires.f_in_bounds.1 c.requires.f_in_bounds.2 _ c.receiver_of-x.ensures in
    handler_right c.args.params.now c.args.file.now c.args.variables c.args.labels _ _ _ _ _
    (c.from-handler.ensures ∙ c.handler_of.ensures) before c.start_of-start.ensures _
    c.if-labels-handler.false c.receiver_of-x.result known _ _ _ c.or_else.ensures c.receiver_named-receiver.ensures block
