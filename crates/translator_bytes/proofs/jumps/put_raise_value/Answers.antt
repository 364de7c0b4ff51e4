use Rattle.std.proofs.Common.{lit<}
use Rattle.translator_bytes.proofs.JumpLaws.{value_uncaught_as, value_caught_as, value_uncaught_sum, value_caught_sum, wrote_as}
use Rattle.byte_writers.specs.WriteLaws.{room_less, room_as, room_behind, wrote_after}
use Rattle.translator_bytes.proofs.LengthLaws.{any_size}
use Rattle.translator_bytes.specs.Bytes.{if_any, size_if_any, label_jump}
use Prim.Native.Nat.{ℕ, ◌+◌}
use mathlib.Core.List.{List, [], ◌∷◌}
use mathlib.Core.Path.{refl}
use native.Mathlib.Omega.{arith}
use Rattle.translator_bytes.proofs.jumps.put_raise_value.Goals as goal

pub put-requires : goal.put-requires
put-requires c =
    (lit< tt, room_as (value_uncaught_sum c.args.u c.if-u-eq0.true) c.requires.room)

pub put_value_if_any-a-requires-clause-room : goal.put_value_if_any-a-requires-clause-room
put_value_if_any-a-requires-clause-room c = room_less c.requires.room (omega (arith, value_caught_sum c.args.u c.if-u-eq0.false refl refl))

pub returns-then-u-eq0 : goal.returns-then-u-eq0
returns-then-u-eq0 c =
    wrote_as (value_uncaught_as c.args.base c.args.u c.args.y.0 c.slot_of-value.ensures c.if-u-eq0.true) c.put.ensures

pub returns-else-u-eq0 : goal.returns-else-u-eq0
returns-else-u-eq0 c =
    let slot = c.args.u.bound in
    let value : List ℕ = 2 ∷ slot ∷ (c.args.y.0 + 2) ∷ [] in
    wrote_as (value_caught_as c.args.base c.args.u c.args.y.0 c.if-u-eq0.false)
    (wrote_after (if_any slot value) (label_jump c.args.base c.args.u.variables c.args.u.handler) c.requires.room
    (omega (arith, any_size slot value refl, value_caught_sum c.args.u c.if-u-eq0.false refl refl)) c.put_value_if_any-a.ensures c.put_label_jump.ensures)

pub put_label_jump-requires-clause-room : goal.put_label_jump-requires-clause-room
unfolding if_any size_if_any
put_label_jump-requires-clause-room c = let slot = c.args.u.bound in room_behind _ c.requires.room c.put_value_if_any-a.ensures
    (omega (arith, any_size slot (2 ∷ slot ∷ (c.args.y.0 + 2) ∷ []) refl, value_caught_sum c.args.u c.if-u-eq0.false refl refl))
