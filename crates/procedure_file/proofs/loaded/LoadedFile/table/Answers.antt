use Rattle.procedure_file.proofs.FileInvariantLaws.{invariant}
use Rattle.procedure_file.proofs.loaded.LoadedFile.table.Goals as goal

pub returns-clause-right : goal.returns-clause-right
returns-clause-right c = rw (← c.self.view_is) (invariant _ c.self.invariant.0.bytes c.self.invariant.1)
