use native.Mathlib.Omega.{arith}
use Rattle.report.specs.ReportLaws.{room_refused, loaded_sides, wrote_as}
use Rattle.report.proofs.write_loaded.Goals as goal

pub returns-in-Err : goal.returns-in-Err
returns-in-Err c =
    wrote_as
    (room_refused c.args.file.now c.args.arguments.now c.args.depth c.args.budget c.translation_size.ensures
    c.room_checked.ensures c.in-Err.is)
    c.write_refusal.ensures

pub returns : goal.returns
returns c =
    wrote_as
    (loaded_sides c.args.file.now c.args.arguments.now c.args.depth c.args.budget c.translation_size.ensures
    c.room_checked.ensures c.in_default.is _ _ _ (rw c.bytes.ensures.value at c.version_of.ensures) c.sides_loaded-a.ensures.tells (omega arith) (omega arith) (omega arith))
    c.write_sides.ensures
