use Rattle.procedure_layout.specs.Layout.{block}
use Rattle.parsing.specs.Parser.{past_of}
use lib.ListN.{length}
use Prim.Native.Nat.{◌-◌}
use mathlib.Core.Path.{◌≡◌}
use Rattle.procedure_layout.proofs.layout.block_end.Given as goal

abbrev pub invariant-loop-next : goal.invariant-loop-next
invariant-loop-next l = past_of (block l.file l.at) ≡ past_of (block l.file l.start)

abbrev pub decreases-loop-next : goal.decreases-loop-next
decreases-loop-next l = length l.file - l.at
