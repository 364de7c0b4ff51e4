use Rattle.translator.specs.FileLaws.{Functions}
use Rattle.translator.proofs.translation_size.Given as goal

abbrev pub invariant-loop-f : goal.invariant-loop-f
invariant-loop-f l = Functions l.file l.f l.n
