use Rattle.translator.specs.BlockLaws.{turn_room, turn_next, turn_moves, turn_done, turn_never}
use native.Mathlib.Omega.{arith}
use Rattle.translator.proofs.blocks.put_block.Goals as goal

pub put_operation-place-requires-clause-room : goal.put_operation-place-requires-clause-room
put_operation-place-requires-clause-room c = turn_room c.loop-next.invariant

pub loop-next-smaller : goal.loop-next-smaller
loop-next-smaller c =
    let m = turn_moves c.loop-next.invariant c.put_operation-place.ensures c.operation_at.ensures c.after_of.ensures
    c.in-Onward.is in
    omega (arith, m.0, m.1)

pub loop-next-preserved : goal.loop-next-preserved
loop-next-preserved c =
    turn_next c.loop-next.invariant c.put_operation-place.ensures c.operation_at.ensures c.after_of.ensures
    c.in-Onward.is

pub returns-in-Ended : goal.returns-in-Ended
returns-in-Ended c =
    turn_done c.loop-next.invariant c.put_operation-place.ensures c.operation_at.ensures c.after_of.ensures
    c.in-Ended.is

pub returns-in-Halted : goal.returns-in-Halted
returns-in-Halted c =
    turn_never c.loop-next.invariant c.put_operation-place.ensures c.operation_at.ensures c.after_of.ensures
    c.in-Halted.is
