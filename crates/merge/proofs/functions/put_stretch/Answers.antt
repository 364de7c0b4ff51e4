use native.Mathlib.Omega.{arith}
use Rattle.merge.proofs.StretchLaws.{stretch_wrote}
use Rattle.merge.proofs.functions.put_stretch.Goals as goal

pub returns : goal.returns
returns c =
    let h = c.requires.at_le_next in
    let x = c.copy_from_slice.ensures in
    stretch_wrote c.args.file.now c.args.at c.args.next c.args.o _ _ c.args.out.now h.0 h.1 c.requires.room (omega arith) x.after x.len
