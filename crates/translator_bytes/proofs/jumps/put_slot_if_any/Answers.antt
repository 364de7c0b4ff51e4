use Rattle.std.proofs.Common.{lit<}
use Rattle.translator_bytes.proofs.JumpLaws.{none_as, any_as, any_sum, wrote_as}
use Rattle.byte_writers.specs.WriteLaws.{room_as, wrote_none}
use mathlib.Core.List.{[], ◌∷◌}
use Rattle.translator_bytes.proofs.jumps.put_slot_if_any.Goals as goal

pub put-requires : goal.put-requires
put-requires c =
    (lit< tt, room_as (any_sum c.args.slot 1 c.if-slot-eq0.false) c.requires)

pub returns-then-slot-eq0 : goal.returns-then-slot-eq0
returns-then-slot-eq0 c =
    wrote_as (none_as c.args.slot (c.args.slot ∷ []) c.if-slot-eq0.true) wrote_none

pub returns-else-slot-eq0 : goal.returns-else-slot-eq0
returns-else-slot-eq0 c =
    wrote_as (any_as c.args.slot (c.args.slot ∷ []) c.if-slot-eq0.false) c.put.ensures
