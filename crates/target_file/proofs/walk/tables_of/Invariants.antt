use Rattle.target_file.specs.Check.{code_of}
use Rattle.target_file.proofs.TablesLaws.{Turn}
use Rattle.target_file.proofs.walk.tables_of.Given as goal

abbrev pub invariant-loop-i : goal.invariant-loop-i
invariant-loop-i l = Turn l.file (code_of l.file) l.i l.at l.starts l.params
