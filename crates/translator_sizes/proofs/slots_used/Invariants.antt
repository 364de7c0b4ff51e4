use Rattle.translator_sizes.specs.SlotsLaws.{Counted}
use Rattle.translator_sizes.proofs.slots_used.Given as goal

abbrev pub invariant-loop-i : goal.invariant-loop-i
invariant-loop-i l = Counted l.file l.i l.n
