use Rattle.translator.specs.FileLaws.{Numbering}
use Rattle.translator.proofs.parts.fill_numbers.Given as goal

abbrev pub invariant-loop-f : goal.invariant-loop-f
invariant-loop-f l = Numbering l.file l.f l.n l.numbers
