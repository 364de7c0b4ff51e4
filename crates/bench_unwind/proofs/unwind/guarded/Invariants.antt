use Rattle.std.proofs.Common.{◌≡◌}
use Rattle.bench_unwind.specs.Guarded.{newest_guarded_in}
use Rattle.bench_unwind.proofs.unwind.guarded.Given as goal

abbrev pub invariant-loop-d : goal.invariant-loop-d
invariant-loop-d l = newest_guarded_in l.size l.words l.d ≡ newest_guarded_in l.size l.words l.waiting
