use native.Mathlib.Omega.{arith}
use Rattle.decimal.specs.DecimalLaws.{wrote_then, wrote_room, length_numbered}
use Rattle.text.specs.Text.{refused_text}
use Rattle.text.proofs.write_refused.Goals as goal

pub put_numbered-second-requires : goal.put_numbered-second-requires
put_numbered-second-requires c =
    let room = wrote_room _ 25 c.put_numbered-first.ensures (length_numbered _ _) (omega arith) in omega arith

pub put_bytes-requires : goal.put_bytes-requires
put_bytes-requires c =
    let room = wrote_room _ 25 c.put_numbered-first.ensures (length_numbered _ _) (omega arith) in
    let rest = wrote_room _ 1 c.put_numbered-second.ensures (length_numbered _ _) (omega arith) in
    omega arith

pub returns : goal.returns
unfolding refused_text
returns c =
    wrote_then (wrote_then c.put_numbered-first.ensures c.put_numbered-second.ensures) c.put_bytes.ensures
