use Rattle.target_tags.specs.TagLaws.{copy_cut, copy_in}
use native.Mathlib.Omega.{arith}
use mathlib.Core.Path.{◌∙◌}
use Rattle.target_tags.proofs.tag.copy_at.Goals as goal

pub returns-then-file-next : goal.returns-then-file-next
returns-then-file-next c = c.cut.ensures ∙ copy_cut _ _ c.if-file-next.true

pub returns : goal.returns
returns c = copy_in _ _ _ _ (omega arith) c.from-slot.ensures c.from-from.ensures
