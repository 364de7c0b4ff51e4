use native.Mathlib.Omega.{arith}
use Rattle.merge.proofs.BlockLaws.{turn_fits, turn_room, turn_moves, turn_next, turn_inside, turn_last, turn_done, turn_never}
use Rattle.merge.proofs.functions.put_block.Goals as goal

pub put_operation-place-requires-clause-operation_fits : goal.put_operation-place-requires-clause-operation_fits
put_operation-place-requires-clause-operation_fits c = let e = c.operation_at.ensures in
    let a = c.after_of.ensures in
    turn_fits c.loop-next.invariant e a c.in-Onward.is c.requires.operation_in_file.1

pub put_operation-place-requires-clause-room : goal.put_operation-place-requires-clause-room
put_operation-place-requires-clause-room c = let e = c.operation_at.ensures in
    let a = c.after_of.ensures in
    turn_room c.loop-next.invariant e a c.in-Onward.is

pub loop-next-smaller : goal.loop-next-smaller
loop-next-smaller c =
    let m = turn_moves c.loop-next.invariant c.operation_at.ensures c.after_of.ensures c.in-Onward.is in
    omega (arith, m.0, m.1)

pub loop-next-preserved : goal.loop-next-preserved
loop-next-preserved c =
    turn_next c.loop-next.invariant c.operation_at.ensures c.after_of.ensures c.in-Onward.is
    c.put_operation-place.ensures

pub put_stretch-requires-clause-at_le_next : goal.put_stretch-requires-clause-at_le_next
put_stretch-requires-clause-at_le_next c = let T = c.loop-next.invariant in
    let e = c.operation_at.ensures in
    let a = c.after_of.ensures in
    turn_inside T e a c.in-Ended.is

pub put_stretch-requires-clause-room : goal.put_stretch-requires-clause-room
put_stretch-requires-clause-room c = let T = c.loop-next.invariant in
    let e = c.operation_at.ensures in
    let a = c.after_of.ensures in
    turn_last T e a c.in-Ended.is

pub returns-in-Ended : goal.returns-in-Ended
returns-in-Ended c =
    turn_done c.loop-next.invariant c.operation_at.ensures c.after_of.ensures c.in-Ended.is
    c.put_stretch.ensures

pub returns-in-Halted : goal.returns-in-Halted
returns-in-Halted c =
    turn_never c.loop-next.invariant c.operation_at.ensures c.after_of.ensures c.in-Halted.is
