use Rattle.translator_bytes.proofs.JumpLaws.{none_as, any_as, any_sum, wrote_as}
use Rattle.byte_writers.specs.WriteLaws.{room_as, wrote_none}
use mathlib.Core.List.{[], ◌∷◌, ◌++◌}
use Rattle.translator_bytes.proofs.jumps.put_zero_if_any.Goals as goal

pub put_zero-requires : goal.put_zero-requires
put_zero-requires c =
    room_as (any_sum c.args.slot 6 c.if-slot-eq0.false) c.requires

pub returns-then-slot-eq0 : goal.returns-then-slot-eq0
returns-then-slot-eq0 c =
    wrote_as (none_as c.args.slot ((1 ∷ c.args.slot ∷ []) ++ (0 ∷ 0 ∷ 0 ∷ 0 ∷ [])) c.if-slot-eq0.true) wrote_none

pub returns-else-slot-eq0 : goal.returns-else-slot-eq0
returns-else-slot-eq0 c =
    wrote_as (any_as c.args.slot ((1 ∷ c.args.slot ∷ []) ++ (0 ∷ 0 ∷ 0 ∷ 0 ∷ [])) c.if-slot-eq0.false) c.put_zero.ensures
