use mathlib.Core.List.{map}
use Rattle.parsing.specs.Parser.{joined}
use Rattle.semantics.specs.Merge.{renumbered_function}
use Rattle.procedure_names.specs.Writing.{function_bytes}
use Rattle.procedure_file.specs.Check.{program_of}
use Rattle.byte_writers.specs.WriteLaws.{Rest}
use Rattle.merge.proofs.FunctionLaws.{functions_from}
use Rattle.merge.proofs.functions.put_functions.Given as goal

abbrev pub invariant-loop-f : goal.invariant-loop-f
invariant-loop-f l = Rest l.o (joined function_bytes (map (renumbered_function l.count) (program_of l.file))) l.initial.out l.place (functions_from l.file l.f l.count) l.out
