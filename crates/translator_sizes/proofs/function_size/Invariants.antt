use Rattle.translator_sizes.specs.FunctionLaws.{Blocks}
use Rattle.translator_sizes.proofs.function_size.Given as goal

abbrev pub invariant-loop-l : goal.invariant-loop-l
invariant-loop-l l = Blocks l.file l.f l.l l.n
