use Rattle.byte_writers.specs.WriteLaws.{room_behind, wrote_after}
use Rattle.translator_bytes.specs.Bytes.{jump_head, label_jump}
use Rattle.semantics.specs.Translation.{slots_from}
use Prim.Native.Nat.{◌+◌}
use native.Mathlib.Omega.{arith}
use Rattle.translator_bytes.proofs.jumps.put_label_jump.Goals as goal

pub put_slots-requires-clause-room : goal.put_slots-requires-clause-room
unfolding jump_head
put_slots-requires-clause-room c = room_behind c.args.v c.requires.room c.put_jump_head-a.ensures (omega arith)

pub returns : goal.returns
unfolding label_jump jump_head
returns c =
    wrote_after (jump_head (c.args.base + c.args.l) 0 1 c.args.v) (slots_from 2 c.args.v) c.requires.room (omega arith) (rw c.from.ensures at c.put_jump_head-a.ensures)
    c.put_slots.ensures
