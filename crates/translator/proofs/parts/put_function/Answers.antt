use Rattle.translator_sizes.specs.FunctionLaws.{blocks_from, blocks_first, blocks_more, blocks_none}
use Rattle.byte_writers.specs.WriteLaws.{rest_from_lem, rest_as, rest_more, rest_done, room_front}
use Rattle.translator_sizes.specs.Parts.{label_bytes}
use Prim.Native.Nat.{◌+◌}
use native.Mathlib.Omega.{arith}
use Rattle.translator.proofs.parts.put_function.Goals as goal

pub loop-l-init : goal.loop-l-init
loop-l-init c =
    rest_from_lem c.requires.room (blocks_first c.args.file.now c.args.f)

pub put_label-place-requires-clause-room : goal.put_label-place-requires-clause-room
put_label-place-requires-clause-room c = room_front (label_bytes c.args.file.now c.args.f c.loop-l.l) (blocks_from c.args.file.now c.args.f (c.loop-l.l + 1))
    (rest_as c.loop-l.invariant _ (blocks_more c.args.file.now c.args.f c.loop-l.l (omega (arith, rw (c.table.ensures.value) at c.labels_of.ensures))))

pub loop-l-preserved : goal.loop-l-preserved
loop-l-preserved c =
    rest_more c.loop-l.invariant (label_bytes c.args.file.now c.args.f c.loop-l.l) (blocks_from c.args.file.now c.args.f (c.loop-l.l + 1))
    (blocks_more c.args.file.now c.args.f c.loop-l.l (omega (arith, rw (c.table.ensures.value) at c.labels_of.ensures))) c.put_label-place.ensures

pub returns : goal.returns
returns c =
    rest_done c.loop-l.invariant
    (blocks_none c.args.file.now c.args.f c.loop-l.l (omega (arith, rw (c.table.ensures.value) at c.labels_of.ensures)))
