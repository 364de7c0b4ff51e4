use Rattle.translator_bytes.proofs.JumpLaws.{branch_wrote}
use Rattle.byte_writers.specs.WriteLaws.{room_behind, room_behind_two}
use Rattle.translator_bytes.proofs.LengthLaws.{label_size}
use Prim.Native.Nat.{◌+◌}
use native.Mathlib.Omega.{arith}
use Rattle.translator_bytes.proofs.jumps.put_branch.Goals as goal

pub returns : goal.returns
returns c =
    branch_wrote c.args.base c.args.v c.args.y.0 c.args.z.0 c.args.l c.args.m c.slot_of-left.ensures c.slot_of-right.ensures (omega arith) c.requires.room
    c.put-a.ensures c.put_pair-b.ensures c.put_label_jump-e.ensures c.put_label_jump.ensures

pub put_label_jump-requires-clause-room : goal.put_label_jump-requires-clause-room
put_label_jump-requires-clause-room c = let v = c.args.v in
    let both = room_behind_two ((6 + v) + (6 + v)) c.requires.room c.put-a.ensures c.put_pair-b.ensures (omega arith) in room_behind (6 + v) both c.put_label_jump-e.ensures (omega (arith, label_size c.args.base v c.args.l))
