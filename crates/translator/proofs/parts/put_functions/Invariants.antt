use Rattle.translator.specs.FileLaws.{functions_from}
use Rattle.byte_writers.specs.WriteLaws.{Rest}
use Rattle.translator_sizes.specs.Parts.{functions_bytes}
use Rattle.translator.proofs.parts.put_functions.Given as goal

abbrev pub invariant-loop-f : goal.invariant-loop-f
invariant-loop-f l = Rest l.o (functions_bytes l.file) l.initial.out l.place (functions_from l.file l.f) l.out
