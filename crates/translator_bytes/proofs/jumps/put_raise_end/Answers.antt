use Rattle.std.proofs.Common.{lit<}
use Rattle.translator_bytes.proofs.JumpLaws.{uncaught_as, caught_as, uncaught_end, caught_end, wrote_as}
use Rattle.byte_writers.specs.WriteLaws.{room_less, room_as, room_behind, wrote_after}
use Rattle.translator_bytes.specs.Bytes.{if_any, size_if_any}
use mathlib.Core.List.{[], ◌∷◌}
use mathlib.Core.Path.{refl}
use native.Mathlib.Omega.{arith}
use Rattle.translator_bytes.proofs.jumps.put_raise_end.Goals as goal

pub put-a-requires : goal.put-a-requires
put-a-requires c =
    (lit< tt, room_less c.requires.room (omega (arith, uncaught_end c.args.u c.if-u-eq0.true refl)))

pub put_slot_if_any-requires : goal.put_slot_if_any-requires
unfolding size_if_any
put_slot_if_any-requires c =
    room_behind _ c.requires.room c.put-a.ensures (omega (arith, uncaught_end c.args.u c.if-u-eq0.true refl))

pub put_label_jump-requires-clause-room : goal.put_label_jump-requires-clause-room
put_label_jump-requires-clause-room c = room_as (caught_end c.args.u c.if-u-eq0.false refl) c.requires.room

pub returns-then-u-eq0 : goal.returns-then-u-eq0
returns-then-u-eq0 c =
    wrote_as (uncaught_as c.args.base c.args.u c.if-u-eq0.true)
    (wrote_after (6 ∷ 1 ∷ []) (if_any c.args.u.number_slot (c.args.u.number_slot ∷ [])) c.requires.room (omega (arith, uncaught_end c.args.u c.if-u-eq0.true refl)) c.put-a.ensures c.put_slot_if_any.ensures)

pub returns-else-u-eq0 : goal.returns-else-u-eq0
returns-else-u-eq0 c =
    wrote_as (caught_as c.args.base c.args.u c.if-u-eq0.false) c.put_label_jump.ensures
