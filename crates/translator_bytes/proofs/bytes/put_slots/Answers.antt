use Rattle.translator_bytes.proofs.LengthLaws.{length_slots}
use Rattle.byte_writers.specs.WriteLaws.{room_as, rest_from_lem, rest_more, rest_done}
use Rattle.translator_bytes.proofs.ListLaws.{slots_more}
use Rattle.semantics.specs.Translation.{slots_from}
use mathlib.Core.List.{[], ◌∷◌}
use mathlib.Core.Path.{◌≡◌, ap}
use Prim.Native.Nat.{◌+◌, ◌-◌}
use native.Mathlib.Omega.{arith}
use Rattle.translator_bytes.proofs.bytes.put_slots.Goals as goal

pub loop-slot-init : goal.loop-slot-init
loop-slot-init c =
    rest_from_lem (room_as (length_slots c.args.first c.args.n) c.requires.room) (ap (slots_from c.args.first) (omega arith))

pub loop-slot-preserved : goal.loop-slot-preserved
loop-slot-preserved c =
    let x = c.loop-slot.slot in
    let e = c.args.first + c.args.n in
    rest_more c.loop-slot.invariant (x ∷ []) (slots_from (x + 1) (e - (x + 1))) (slots_more x (e - x) (e - (x + 1)) (omega arith)) c.put-place.ensures

pub returns : goal.returns
returns c =
    let x = c.loop-slot.slot in
    let z : c.args.first + c.args.n - x ≡ 0 = omega arith in
    rest_done c.loop-slot.invariant (ap (slots_from x) z)
