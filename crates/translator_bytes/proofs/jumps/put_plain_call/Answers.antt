use Rattle.translator_bytes.proofs.JumpLaws.{plain_wrote}
use Rattle.procedure_operations.specs.Operation.{arguments_at}
use native.Mathlib.Omega.{arith}
use Rattle.translator_bytes.proofs.jumps.put_plain_call.Goals as goal

pub returns : goal.returns
returns c =
    plain_wrote c.args.v c.args.x.0 c.args.g c.args.n (arguments_at c.args.file.now c.args.at c.args.n)
    c.slot_of-target.ensures (omega arith) c.requires.room c.put-a.ensures c.put_pair-b.ensures c.put_call_jump.ensures
