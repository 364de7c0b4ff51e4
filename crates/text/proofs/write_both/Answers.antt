use native.Mathlib.Omega.{arith}
use Rattle.decimal.specs.DecimalLaws.{wrote_then, wrote_room}
use Rattle.text.specs.TextLaws.{length_target, length_machine}
use Rattle.text.specs.Text.{both_text}
use Rattle.text.proofs.write_both.Goals as goal

pub put_machine-second-requires : goal.put_machine-second-requires
put_machine-second-requires c =
    let room = wrote_room _ 133 c.put_target-first.ensures (length_target _) (omega arith) in omega arith

pub put_machine-requires : goal.put_machine-requires
put_machine-requires c =
    let room = wrote_room _ 133 c.put_target-first.ensures (length_target _) (omega arith) in
    let rest = wrote_room _ 69 c.put_machine-second.ensures (length_machine _ _ _ _) (omega arith) in
    omega arith

pub returns : goal.returns
unfolding both_text
returns c =
    wrote_then (wrote_then c.put_target-first.ensures c.put_machine-second.ensures) c.put_machine.ensures
