use Rattle.translator_bytes.proofs.JumpLaws.{constant_wrote}
use native.Mathlib.Omega.{arith}
use Rattle.translator_bytes.proofs.jumps.put_constant.Goals as goal

pub returns : goal.returns
returns c =
    constant_wrote c.args.x (omega arith, omega arith, omega arith, omega arith) c.slot_of-target.ensures c.put.ensures
