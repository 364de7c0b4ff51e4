use Rattle.procedure_file.proofs.FillLaws.{Row}
use Rattle.procedure_file.proofs.fill.fill_row.Given as goal

abbrev pub invariant-loop-l : goal.invariant-loop-l
invariant-loop-l l = Row l.file l.f l.labels l.starts l.l l.place
