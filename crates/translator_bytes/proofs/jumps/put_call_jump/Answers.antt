use Rattle.byte_writers.specs.WriteLaws.{room_behind, wrote_after}
use Rattle.translator_bytes.specs.Bytes.{jump_head, call_jump}
use Rattle.semantics.specs.Translation.{slot_of}
use mathlib.Core.List.{map}
use Rattle.procedure_operations.specs.Operation.{arguments_at}
use native.Mathlib.Omega.{arith}
use Rattle.translator_bytes.proofs.jumps.put_call_jump.Goals as goal

pub put_arguments-requires-clause-room : goal.put_arguments-requires-clause-room
unfolding jump_head
put_arguments-requires-clause-room c = room_behind c.args.n c.requires.room c.put_jump_head-a.ensures (omega arith)

pub returns : goal.returns
unfolding call_jump jump_head
returns c =
    wrote_after (jump_head c.args.g c.args.k c.args.h c.args.n)
    (map slot_of (arguments_at c.args.file.now c.args.at c.args.n)) c.requires.room (omega arith) c.put_jump_head-a.ensures
    c.put_arguments.ensures
