use native.Mathlib.Omega.{arith}
use Rattle.decimal.specs.DecimalLaws.{wrote_then, wrote_room, length_numbered}
use Rattle.text.specs.TextLaws.{length_stop}
use Rattle.text.specs.Text.{machine_line}
use Rattle.text.proofs.put_machine.Goals as goal

pub put_numbered-counted-requires : goal.put_numbered-counted-requires
put_numbered-counted-requires c =
    let room = wrote_room _ 28 c.put_stopped-told.ensures (length_stop _ _) (omega arith) in omega arith

pub put_bytes-requires : goal.put_bytes-requires
put_bytes-requires c =
    let room = wrote_room _ 28 c.put_stopped-told.ensures (length_stop _ _) (omega arith) in
    let rest = wrote_room _ 1 c.put_numbered-counted.ensures (length_numbered _ _) (omega arith) in
    omega arith

pub returns : goal.returns
unfolding machine_line
returns c =
    wrote_then
    (wrote_then (wrote_then (wrote_then c.put_bytes-named.ensures c.put_bytes-spaced.ensures) c.put_stopped-told.ensures) c.put_numbered-counted.ensures)
    c.put_bytes.ensures
