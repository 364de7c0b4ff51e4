use Prim.Native.Nat.{◌-◌}
use native.Mathlib.Omega.{arith}
use mathlib.Core.Path.{refl}
use Rattle.byte_writers.specs.WriteLaws.{rest_room, rest_more, rest_last, rest_front}
use Rattle.merge.specs.Parts.{stretch}
use Rattle.merge.proofs.FunctionLaws.{block_stands, head_fits, label_rest}
use Rattle.merge.proofs.functions.put_label.Goals as goal

pub overflow_sub-head : goal.overflow_sub-head
overflow_sub-head c =
    let F = c.bytes-bytes.ensures.right in
    let h = c.requires.f_in_bounds in
    let start = rw (c.table.ensures.value) at c.start_of-start.ensures in
    let before = rw (c.bytes-bytes.ensures.value) at c.bytes_before-before.ensures in
    (head_fits F h.0 h.2 start c.bytes-bytes.ensures.laid h.1 before).0

pub put_stretch-place-requires-clause-at_le_next : goal.put_stretch-place-requires-clause-at_le_next
put_stretch-place-requires-clause-at_le_next c =
    let F = c.bytes-bytes.ensures.right in
    let h = c.requires.f_in_bounds in
    let start = rw (c.table.ensures.value) at c.start_of-start.ensures in
    let before = rw (c.bytes-bytes.ensures.value) at c.bytes_before-before.ensures in
    let fits = head_fits F h.0 h.2 start c.bytes-bytes.ensures.laid h.1 before in
    rw (c.bytes-bytes.ensures.value) (omega arith, fits.1)

pub put_stretch-place-requires-clause-room : goal.put_stretch-place-requires-clause-room
put_stretch-place-requires-clause-room c =
    let F = c.bytes-bytes.ensures.right in
    let h = c.requires.f_in_bounds in
    let start = rw (c.table.ensures.value) at c.start_of-start.ensures in
    let before = rw (c.bytes-bytes.ensures.value) at c.bytes_before-before.ensures in
    let rest = label_rest F h.0 h.2 start c.bytes-bytes.ensures.laid h.1 before c.args.count c.requires.room in
    let at = c.start_of-start.result in
    rw (c.bytes-bytes.ensures.value) (rest_front (stretch c.args.file.now (at - c.bytes_before-before.result) at) _ rest)

pub put_block-requires-clause-operation_in_file : goal.put_block-requires-clause-operation_in_file
put_block-requires-clause-operation_in_file c =
    let F = c.bytes-bytes.ensures.right in
    let h = c.requires.f_in_bounds in
    let start = rw (c.table.ensures.value) at c.start_of-start.ensures in
    rw (c.bytes-bytes.ensures.value) (block_stands F h.0 h.2 start, c.requires.count_bound)

pub put_block-requires-clause-room : goal.put_block-requires-clause-room
put_block-requires-clause-room c =
    let F = c.bytes-bytes.ensures.right in
    let h = c.requires.f_in_bounds in
    let start = rw (c.table.ensures.value) at c.start_of-start.ensures in
    let before = rw (c.bytes-bytes.ensures.value) at c.bytes_before-before.ensures in
    let rest = label_rest F h.0 h.2 start c.bytes-bytes.ensures.laid h.1 before c.args.count c.requires.room in
    rw (c.bytes-bytes.ensures.value) (rest_room (rest_more rest _ _ refl (rw (c.bytes-bytes.ensures.value) at c.put_stretch-place.ensures)))

pub returns : goal.returns
returns c =
    let F = c.bytes-bytes.ensures.right in
    let h = c.requires.f_in_bounds in
    let start = rw (c.table.ensures.value) at c.start_of-start.ensures in
    let before = rw (c.bytes-bytes.ensures.value) at c.bytes_before-before.ensures in
    let rest = label_rest F h.0 h.2 start c.bytes-bytes.ensures.laid h.1 before c.args.count c.requires.room in
    rest_last (rest_more rest _ _ refl (rw (c.bytes-bytes.ensures.value) at c.put_stretch-place.ensures)) (rw (c.bytes-bytes.ensures.value) at c.put_block.ensures)
