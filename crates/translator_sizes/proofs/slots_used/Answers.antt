use Rattle.translator_sizes.specs.SlotsLaws.{counted_none, counted_next, counted_all}
use native.Mathlib.Omega.{arith}
use Rattle.translator_sizes.proofs.slots_used.Goals as goal

pub loop-i-init : goal.loop-i-init
loop-i-init c = counted_none c.args.file.now

pub loop-i-preserved : goal.loop-i-preserved
loop-i-preserved c =
    counted_next c.loop-i.invariant (omega (arith, rw (c.table.ensures.value) at c.functions-i-end.ensures.count)) c.last_slot.ensures.0 c.last_slot.ensures.1 c.max-n.ensures

pub returns : goal.returns
returns c = counted_all c.loop-i.invariant (omega (arith, rw (c.table.ensures.value) at c.functions-i-end.ensures.count))
