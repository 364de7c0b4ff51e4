use Rattle.report.specs.ReportLaws.{meaning_refused, meaning_both, wrote_as}
use Rattle.report.proofs.write_sides.Goals as goal

pub returns-in-Err : goal.returns-in-Err
returns-in-Err c =
    wrote_as (meaning_refused c.args.version c.args.a c.in-Err.is) c.write_refusal.ensures

pub returns-in-Ok : goal.returns-in-Ok
returns-in-Ok c =
    wrote_as (meaning_both c.args.version c.args.a c.in-Ok.is) c.write_both.ensures
