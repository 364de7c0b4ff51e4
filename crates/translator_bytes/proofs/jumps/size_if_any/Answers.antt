use Rattle.translator_bytes.proofs.JumpLaws.{none_sum, any_sum}
use native.Mathlib.Omega.{arith}
use Rattle.translator_bytes.proofs.jumps.size_if_any.Goals as goal

pub returns-then-slot-eq0 : goal.returns-then-slot-eq0
returns-then-slot-eq0 c =
    (none_sum c.args.slot c.args.n c.if-slot-eq0.true, omega arith)

pub returns-else-slot-eq0 : goal.returns-else-slot-eq0
returns-else-slot-eq0 c =
    (any_sum c.args.slot c.args.n c.if-slot-eq0.false, omega arith)
