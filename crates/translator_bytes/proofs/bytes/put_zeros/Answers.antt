use Rattle.translator_bytes.proofs.LengthLaws.{length_zeros}
use Rattle.byte_writers.specs.WriteLaws.{room_as, rest_from_lem, rest_more, rest_done}
use Rattle.translator_bytes.proofs.ListLaws.{zeros_more}
use Rattle.translator_bytes.specs.Bytes.{zeros}
use mathlib.Core.List.{[], ◌∷◌}
use mathlib.Core.Path.{◌≡◌, ap}
use Prim.Native.Nat.{◌+◌, ◌-◌}
use native.Mathlib.Omega.{arith}
use Rattle.translator_bytes.proofs.bytes.put_zeros.Goals as goal

pub loop-slot-init : goal.loop-slot-init
loop-slot-init c =
    rest_from_lem (room_as (length_zeros c.args.first c.args.n) c.requires.room) (ap (zeros c.args.first) (omega arith))

pub loop-slot-preserved : goal.loop-slot-preserved
loop-slot-preserved c =
    let x = c.loop-slot.slot in
    let e = c.args.first + c.args.n in
    rest_more c.loop-slot.invariant (1 ∷ x ∷ 0 ∷ 0 ∷ 0 ∷ 0 ∷ []) (zeros (x + 1) (e - (x + 1))) (zeros_more x (e - x) (e - (x + 1)) (omega arith)) c.put_zero-place.ensures

pub returns : goal.returns
returns c =
    let x = c.loop-slot.slot in
    let z : c.args.first + c.args.n - x ≡ 0 = omega arith in
    rest_done c.loop-slot.invariant (ap (zeros x) z)
