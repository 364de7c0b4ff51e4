use Rattle.translator_sizes.specs.CountLaws.{count_next, count_moves, count_done, count_never}
use native.Mathlib.Omega.{arith}
use Rattle.translator_sizes.proofs.block_size.Goals as goal

pub loop-next-smaller : goal.loop-next-smaller
loop-next-smaller c =
    let m = count_moves c.loop-next.invariant c.operation_at-x.ensures c.operation_size-n.ensures.0
    c.operation_size-n.ensures.1 c.after_of.ensures c.in-Onward.is in
    omega (arith, m.0, m.1)

pub loop-next-preserved : goal.loop-next-preserved
loop-next-preserved c =
    count_next c.loop-next.invariant c.operation_at-x.ensures c.operation_size-n.ensures.0 c.operation_size-n.ensures.1
    c.after_of.ensures c.in-Onward.is

pub returns-in-Ended : goal.returns-in-Ended
returns-in-Ended c =
    count_done c.loop-next.invariant c.operation_at-x.ensures c.operation_size-n.ensures.0 c.operation_size-n.ensures.1
    c.after_of.ensures c.in-Ended.is

pub returns-in-Halted : goal.returns-in-Halted
returns-in-Halted c =
    count_never c.loop-next.invariant c.operation_at-x.ensures c.operation_size-n.ensures.0 c.operation_size-n.ensures.1
    c.after_of.ensures c.in-Halted.is
