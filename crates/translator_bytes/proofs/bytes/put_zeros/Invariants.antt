use Rattle.byte_writers.specs.WriteLaws.{Rest}
use Rattle.translator_bytes.specs.Bytes.{zeros}
use Prim.Native.Nat.{◌+◌, ◌-◌}
use Rattle.translator_bytes.proofs.bytes.put_zeros.Given as goal

abbrev pub invariant-loop-slot : goal.invariant-loop-slot
invariant-loop-slot l = Rest l.o (zeros l.first l.n) l.initial.out l.place (zeros l.slot (l.first + l.n - l.slot)) l.out
