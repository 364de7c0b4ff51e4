use Rattle.procedure_names.specs.NamedLaws.{block_verdict}
use lib.ListN.{length}
use Prim.Native.Nat.{◌-◌}
use mathlib.Core.Path.{◌≡◌}
use Rattle.procedure_names.proofs.names.block_named.Given as goal

abbrev pub invariant-loop-next : goal.invariant-loop-next
invariant-loop-next l = block_verdict l.params l.variables l.labels l.file l.at ≡ block_verdict l.params l.variables l.labels l.file l.start

abbrev pub decreases-loop-next : goal.decreases-loop-next
decreases-loop-next l = length l.file - l.at
