use Rattle.translator_bytes.proofs.JumpLaws.{plain_as, guarded_as, plain_sum, guarded_sum, wrote_as}
use Rattle.byte_writers.specs.WriteLaws.{room_as}
use mathlib.Core.Path.{refl}
use Rattle.procedure_operations.specs.Operation.{arguments_at}
use Rattle.translator_bytes.proofs.jumps.put_call.Goals as goal

pub returns-then-u-eq0 : goal.returns-then-u-eq0
returns-then-u-eq0 c =
    wrote_as
    (plain_as c.args.base c.args.u c.args.x.0 c.args.g c.args.n (arguments_at c.args.file.now c.args.at c.args.n) c.if-u-eq0.true)
    c.put_plain_call.ensures

pub returns-else-u-eq0 : goal.returns-else-u-eq0
returns-else-u-eq0 c =
    wrote_as
    (guarded_as c.args.base c.args.u c.args.x.0 c.args.g c.args.n (arguments_at c.args.file.now c.args.at c.args.n) c.if-u-eq0.false)
    c.put_guarded_call.ensures

pub put_plain_call-requires-clause-room : goal.put_plain_call-requires-clause-room
put_plain_call-requires-clause-room c = room_as (plain_sum c.args.u c.args.n c.if-u-eq0.true refl) c.requires.room

pub put_guarded_call-requires-clause-room : goal.put_guarded_call-requires-clause-room
put_guarded_call-requires-clause-room c = room_as (guarded_sum c.args.u c.args.n c.if-u-eq0.false refl refl refl) c.requires.room
