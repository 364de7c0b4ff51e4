use Rattle.std.proofs.Common.{◌≡◌, drop}
use Rattle.parsing.specs.Fields.{marked}
use Rattle.parsing.specs.Parser.{past_of}
use Rattle.file_head.proofs.mark_end.Given as goal

abbrev pub invariant-loop-i : goal.invariant-loop-i
invariant-loop-i l = past_of (marked (drop l.i l.mark) l.file l.i) ≡ past_of (marked l.mark l.file 0)
