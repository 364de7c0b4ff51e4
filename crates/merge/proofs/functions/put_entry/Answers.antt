use Rattle.std.proofs.Common.{lit<}
use native.Mathlib.Omega.{arith}
use mathlib.Core.Path.{refl}
use Rattle.byte_writers.specs.WriteLaws.{room_less, rest_room, rest_more, rest_last}
use Rattle.merge.proofs.FunctionLaws.{block_stands, entry_rest}
use Rattle.merge.proofs.functions.put_entry.Goals as goal

pub put-place-requires : goal.put-place-requires
put-place-requires c =
    let e = c.table-table.ensures.value in
    let start = rw (e) at c.start_of-start.ensures in
    let rest = entry_rest c.table-table.ensures.right c.requires.f_in_bounds start _ _ _ c.args.count (rw (e) at c.params_of-params.ensures) (rw (e) at c.locals_of-locals.ensures)
    (rw (e) at c.labels_of-labels.ensures) c.requires.room in
    (lit< tt, room_less (rest_room rest) (omega arith))

pub put_block-requires-clause-operation_in_file : goal.put_block-requires-clause-operation_in_file
put_block-requires-clause-operation_in_file c =
    let e = c.table-table.ensures.value in
    let start = rw (e) at c.start_of-start.ensures in
    rw (c.bytes.ensures.value) (block_stands c.table-table.ensures.right c.requires.f_in_bounds {l = 0} (omega arith) start, c.requires.count_bound)

pub put_block-requires-clause-room : goal.put_block-requires-clause-room
put_block-requires-clause-room c =
    let e = c.table-table.ensures.value in
    let start = rw (e) at c.start_of-start.ensures in
    let rest = entry_rest c.table-table.ensures.right c.requires.f_in_bounds start _ _ _ c.args.count (rw (e) at c.params_of-params.ensures) (rw (e) at c.locals_of-locals.ensures)
    (rw (e) at c.labels_of-labels.ensures) c.requires.room in
    rw (c.bytes.ensures.value) (rest_room (rest_more rest _ _ refl c.put-place.ensures))

pub returns : goal.returns
returns c =
    let e = c.table-table.ensures.value in
    let start = rw (e) at c.start_of-start.ensures in
    let rest = entry_rest c.table-table.ensures.right c.requires.f_in_bounds start _ _ _ c.args.count (rw (e) at c.params_of-params.ensures) (rw (e) at c.locals_of-locals.ensures)
    (rw (e) at c.labels_of-labels.ensures) c.requires.room in
    rest_last (rest_more rest _ _ refl c.put-place.ensures) (rw (c.bytes.ensures.value) at c.put_block.ensures)
