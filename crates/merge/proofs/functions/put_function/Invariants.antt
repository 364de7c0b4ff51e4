use Rattle.byte_writers.specs.WriteLaws.{Rest}
use Rattle.merge.proofs.FunctionLaws.{labels_from}
use Rattle.merge.proofs.functions.put_function.Given as goal

abbrev pub invariant-loop-l : goal.invariant-loop-l
invariant-loop-l l = Rest l.initial.place (labels_from l.file l.f 0 l.count) l.initial.out l.place (labels_from l.file l.f l.l l.count) l.out
