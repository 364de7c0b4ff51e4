use Prim.Native.Nat.{◌-◌}
use Rattle.report.specs.ReportLaws.{Filled}
use Rattle.report.proofs.fill.Given as goal

abbrev pub invariant-loop-i : goal.invariant-loop-i
invariant-loop-i l = Filled l.input l.n l.i l.initial.arguments l.arguments

abbrev pub decreases-loop-i : goal.decreases-loop-i
decreases-loop-i l = l.n - l.i
