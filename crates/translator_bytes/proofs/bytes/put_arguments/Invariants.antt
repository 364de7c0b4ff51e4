use Rattle.translator_bytes.proofs.JumpLaws.{Passing}
use Rattle.translator_bytes.proofs.bytes.put_arguments.Given as goal

abbrev pub invariant-loop-i : goal.invariant-loop-i
invariant-loop-i l = Passing l.file l.at l.n l.o l.initial.out l.i l.place l.out
