use Rattle.byte_writers.specs.WriteLaws.{Rest}
use Rattle.semantics.specs.Translation.{slots_from}
use Prim.Native.Nat.{◌+◌, ◌-◌}
use Rattle.translator_bytes.proofs.bytes.put_slots.Given as goal

abbrev pub invariant-loop-slot : goal.invariant-loop-slot
invariant-loop-slot l = Rest l.o (slots_from l.first l.n) l.initial.out l.place (slots_from l.slot (l.first + l.n - l.slot)) l.out
