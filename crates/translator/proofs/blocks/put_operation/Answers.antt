use native.Mathlib.Omega.{arith}
use Rattle.translator.specs.BlockLaws.{arm_number, arm_raise, arm_room, arm_wrote}
use Rattle.translator.proofs.blocks.put_operation.Goals as goal

pub number_at-requires : goal.number_at-requires
number_at-requires c =
    (arm_number c.requires.placed).0

pub put_raise-requires-clause-room : goal.put_raise-requires-clause-room
put_raise-requires-clause-room c =
    arm_room c.args.u (arm_raise c.requires.placed c.number_at.ensures (omega arith) (omega arith) (omega arith) (omega arith) (omega arith) (omega arith) (omega arith) (omega arith)).1 c.requires.room

pub returns-in_default : goal.returns-in_default
returns-in_default c =
    arm_wrote c.args.file.now c.args.numbers.now c.args.base c.args.u c.args.at
    (arm_raise c.requires.placed c.number_at.ensures (omega arith) (omega arith) (omega arith) (omega arith) (omega arith) (omega arith) (omega arith) (omega arith)).1
    c.put_raise.ensures
