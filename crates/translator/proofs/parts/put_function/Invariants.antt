use Rattle.translator_sizes.specs.FunctionLaws.{blocks_from}
use Rattle.byte_writers.specs.WriteLaws.{Rest}
use Rattle.translator_sizes.specs.Parts.{function_bytes}
use Rattle.translator.proofs.parts.put_function.Given as goal

abbrev pub invariant-loop-l : goal.invariant-loop-l
invariant-loop-l l = Rest l.o (function_bytes l.file l.f) l.initial.out l.place (blocks_from l.file l.f l.l) l.out
