use Rattle.translator_bytes.proofs.JumpLaws.{passing_small, passing_more, passing_done}
use native.Mathlib.Omega.{arith}
use Rattle.translator_bytes.proofs.bytes.put_arguments.Goals as goal

pub slot_of-slot-requires : goal.slot_of-slot-requires
slot_of-slot-requires c =
    passing_small c.loop-i.invariant (omega arith) c.argument_at.ensures

pub loop-i-preserved : goal.loop-i-preserved
loop-i-preserved c =
    passing_more c.loop-i.invariant (omega arith) c.argument_at.ensures c.slot_of-slot.ensures
    c.put-place.ensures

pub returns : goal.returns
returns c = passing_done c.loop-i.invariant (omega arith)
