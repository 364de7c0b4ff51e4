use Rattle.translator_bytes.proofs.JumpLaws.{difference_wrote}
use Rattle.translator_bytes.proofs.jumps.put_difference.Goals as goal

pub returns : goal.returns
returns c =
    difference_wrote c.args.base c.args.u c.args.x.0 c.args.y.0 c.args.z.0
    c.slot_of-target.ensures c.slot_of-left.ensures c.slot_of-right.ensures c.raise_size-size.ensures.0 c.requires.room
    c.put-a.ensures c.put_pair-b.ensures c.put_raise.ensures
