use Rattle.agreement.specs.SidesLaws.{file_refused}
use Rattle.agreement.proofs.side_by_side.Goals as goal

pub returns-in-Err-clause-tells : goal.returns-in-Err-clause-tells
returns-in-Err-clause-tells c = (file_refused c.args.file.now c.args.f c.args.arguments.now c.args.depth c.args.budget
    (record { frames = c.args.frames.now; room = c.args.room.now; records = c.args.records.now }) c.refused.result c.load.ensures.0 c.in-Err.is
    c.refused.ensures).0

pub returns-in-Err-clause-memory : goal.returns-in-Err-clause-memory
returns-in-Err-clause-memory c = (file_refused c.args.file.now c.args.f c.args.arguments.now c.args.depth c.args.budget
    (record { frames = c.args.frames.now; room = c.args.room.now; records = c.args.records.now }) c.refused.result c.load.ensures.0 c.in-Err.is
    c.refused.ensures).1.0

pub returns-in-Err-clause-answer : goal.returns-in-Err-clause-answer
returns-in-Err-clause-answer c = (file_refused c.args.file.now c.args.f c.args.arguments.now c.args.depth c.args.budget
    (record { frames = c.args.frames.now; room = c.args.room.now; records = c.args.records.now }) c.refused.result c.load.ensures.0 c.in-Err.is
    c.refused.ensures).1.1
