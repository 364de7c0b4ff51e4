use Rattle.std.proofs.Common.{sym, ◌∙◌}
use Rattle.file_head.specs.HeadLaws.{marked_short}
use Rattle.file_head.proofs.mark_end.Goals as goal

pub returns-then-file-i : goal.returns-then-file-i
returns-then-file-i c = sym (marked_short _ _ _ c.loop-i-test.true c.if-file-i.true) ∙ c.loop-i.invariant
