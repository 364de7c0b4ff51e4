use Rattle.report.specs.ReportLaws.{head_refused, file_refused, file_loaded, wrote_as}
use Rattle.report.proofs.write_file.Goals as goal

pub returns-in-Err : goal.returns-in-Err
returns-in-Err c =
    wrote_as
    (head_refused c.args.file.now c.args.arguments.now c.args.depth c.args.budget c.head_end.ensures c.in-Err.is)
    c.write_refusal.ensures

pub returns-in-Err-load : goal.returns-in-Err-load
returns-in-Err-load c =
    wrote_as
    (file_refused c.args.file.now c.args.arguments.now c.args.depth c.args.budget c.head_end.ensures
    c.in_default.is c.load.ensures.0 c.in-Err-load.is)
    c.write_refusal-in-Err-load.ensures

pub returns : goal.returns
returns c =
    wrote_as
    (file_loaded c.args.file.now c.args.arguments.now c.args.depth c.args.budget c.head_end.ensures
    c.in_default.is c.load.ensures.0 c.in_default-load.is)
    (rw c.new-loaded.ensures at c.write_loaded.ensures)
