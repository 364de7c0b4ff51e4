use Prim.Native.Nat.{◌+◌}
use lib.IntN.{pos}
use lib.ListN.{get_or}
use Rattle.procedure_layout.specs.Layout.{arguments_at}
use Rattle.memory.specs.GatherLaws.{Gathered}
use Rattle.bench_frames.proofs.call.arguments.Given as goal

abbrev pub invariant-loop-i : goal.invariant-loop-i
invariant-loop-i l = Gathered (λ y. get_or l.words (l.base + y) (pos 0)) (arguments_at l.file l.at l.k) 0 l.k l.initial.vars l.i l.vars
