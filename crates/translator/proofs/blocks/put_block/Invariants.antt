use Rattle.translator.specs.BlockLaws.{Turn}
use lib.ListN.{length}
use Prim.Native.Nat.{◌-◌}
use Rattle.translator.proofs.blocks.put_block.Given as goal

abbrev pub invariant-loop-next : goal.invariant-loop-next
invariant-loop-next l = Turn l.file l.numbers l.base l.u l.start l.o l.initial.out l.at l.place l.out

abbrev pub decreases-loop-next : goal.decreases-loop-next
decreases-loop-next l = length l.file - l.at
