use Rattle.translator.specs.FileLaws.{label_placed, label_part}
use Rattle.translator_sizes.specs.PartLaws.{counts_bound}
use Rattle.byte_writers.specs.WriteLaws.{room_as}
use Rattle.translator_bytes.proofs.JumpLaws.{wrote_as}
use mathlib.Core.Path.{sym, ap}
use lib.ListN.{length}
use native.Mathlib.Omega.{arith}
use Rattle.translator.proofs.parts.put_label.Goals as goal

pub offset_bounds-numbers-f : goal.offset_bounds-numbers-f
offset_bounds-numbers-f c = omega (arith, c.bytes-bytes.ensures.right.most, c.requires.f_in_bounds.0)

pub bounds-numbers-f : goal.bounds-numbers-f
bounds-numbers-f c = omega (arith, c.bytes-bytes.ensures.right.most, c.requires.f_in_bounds.0)

pub put_part-requires-clause-placed : goal.put_part-requires-clause-placed
put_part-requires-clause-placed c =
    let K = c.bytes-bytes.ensures.right in
    let h = c.requires.f_in_bounds in
    let w = counts_bound K c.args.f h.0 c.args.l h.1 _ c.fields_of-x.ensures in
    rw (c.bytes-bytes.ensures.value) (label_placed K c.args.f h.0 c.args.l h.1 _ c.fields_of-x.ensures c.args.numbers.now c.requires.numbered _ c.from-base.ensures, w.0, w.1)

pub put_part-requires-clause-room : goal.put_part-requires-clause-room
put_part-requires-clause-room c =
    let h = c.requires.f_in_bounds in
    rw (c.bytes-bytes.ensures.value)
    (room_as
    (ap length (sym (label_part c.bytes-bytes.ensures.right c.args.f h.0 c.args.l h.1 _ c.fields_of-x.ensures c.args.numbers.now c.requires.numbered _ c.from-base.ensures)))
    c.requires.room)

pub returns : goal.returns
returns c =
    let h = c.requires.f_in_bounds in
    wrote_as (label_part c.bytes-bytes.ensures.right c.args.f h.0 c.args.l h.1 _ c.fields_of-x.ensures c.args.numbers.now c.requires.numbered _ c.from-base.ensures)
    (rw (c.bytes-bytes.ensures.value) at c.put_part.ensures)
