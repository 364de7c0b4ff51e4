use native.Mathlib.Omega.{arith}
use Rattle.decimal.specs.DecimalLaws.{wrote_then, wrote_room, length_numbered}
use Rattle.text.specs.Text.{target_line}
use Rattle.text.proofs.put_target.Goals as goal

pub put_bytes-requires : goal.put_bytes-requires
put_bytes-requires c =
    let room = wrote_room _ 1 c.put_numbered-next.ensures (length_numbered _ _) (omega arith) in omega arith

pub returns : goal.returns
unfolding target_line
returns c =
    wrote_then c.put_numbered-next.ensures c.put_bytes.ensures
