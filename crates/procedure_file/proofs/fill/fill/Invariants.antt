use Rattle.procedure_file.proofs.FillLaws.{Part}
use Rattle.procedure_file.proofs.fill.fill.Given as goal

abbrev pub invariant-loop-f : goal.invariant-loop-f
invariant-loop-f l = Part l.file l.count l.starts l.params l.at l.f
