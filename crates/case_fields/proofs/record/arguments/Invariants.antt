use Rattle.case_fields.specs.RecordLaws.{Taking}
use Rattle.case_fields.proofs.record.arguments.Given as goal

abbrev pub invariant-loop-i : goal.invariant-loop-i
invariant-loop-i l = Taking l.bytes l.initial.args l.n l.i l.args
