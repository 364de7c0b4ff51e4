use Rattle.target_tags.specs.TagLaws.{resume_cut, resume_in}
use native.Mathlib.Omega.{arith}
use mathlib.Core.Path.{◌∙◌}
use Rattle.target_tags.proofs.tag.resume_at.Goals as goal

pub returns-then-file-next : goal.returns-then-file-next
returns-then-file-next c = c.cut.ensures ∙ resume_cut _ _ c.if-file-next.true

pub returns : goal.returns
returns c = resume_in _ _ _ _ (omega arith) c.from-continuation.ensures c.from-value.ensures
