use Rattle.std.proofs.Common.{lit<}
use Rattle.translator_bytes.proofs.JumpLaws.{none_as, any_value_as, any_sum, wrote_as}
use Rattle.byte_writers.specs.WriteLaws.{room_as, wrote_none}
use Prim.Native.Nat.{◌+◌}
use mathlib.Core.List.{[], ◌∷◌}
use Rattle.translator_bytes.proofs.jumps.put_value_if_any.Goals as goal

pub put-requires : goal.put-requires
put-requires c =
    (lit< tt, room_as (any_sum c.args.slot 3 c.if-slot-eq0.false) c.requires.room)

pub returns-then-slot-eq0 : goal.returns-then-slot-eq0
returns-then-slot-eq0 c =
    wrote_as (none_as c.args.slot (2 ∷ c.args.slot ∷ (c.args.y.0 + 2) ∷ []) c.if-slot-eq0.true) wrote_none

pub returns-else-slot-eq0 : goal.returns-else-slot-eq0
returns-else-slot-eq0 c =
    wrote_as (any_value_as c.args.slot c.args.y.0 c.slot_of-from.ensures c.if-slot-eq0.false) c.put.ensures
