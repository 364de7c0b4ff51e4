use Rattle.procedure_file.specs.Asked.{function_verdict}
use Rattle.procedure_file.proofs.FileNamesLaws.{labels_verdict}
use mathlib.Core.Path.{◌≡◌}
use Rattle.procedure_file.proofs.check.blocks_named.Given as goal

abbrev pub invariant-loop-l : goal.invariant-loop-l
invariant-loop-l l = labels_verdict l.params l.file l.f l.labels l.variables l.l ≡ function_verdict l.params l.file l.f
