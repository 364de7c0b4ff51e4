use Rattle.procedure_file.specs.Check.{program_of}
use Rattle.procedure_file.proofs.FileNamesLaws.{functions_verdict}
use Rattle.procedure_names.specs.Names.{names_of, first_wrong}
use mathlib.Core.Path.{◌≡◌}
use Rattle.procedure_file.proofs.check.file_named.Given as goal

abbrev pub invariant-loop-f : goal.invariant-loop-f
invariant-loop-f l = functions_verdict l.params l.file l.f ≡ first_wrong (names_of (program_of l.file))
