use Rattle.byte_writers.specs.WriteLaws.{wrote_part}
use native.Mathlib.Omega.{arith}
use Rattle.byte_writers.proofs.put.Goals as goal

pub returns : goal.returns
returns g c =
    let x = c.copy_from_slice.ensures in
    wrote_part c.args.o g.row.N _ _ c.args.bytes c.args.out.now c.requires (omega arith) x.after x.len
