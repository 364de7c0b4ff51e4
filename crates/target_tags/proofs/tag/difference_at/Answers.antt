use Rattle.target_tags.specs.TagLaws.{difference_cut, difference_in}
use native.Mathlib.Omega.{arith}
use mathlib.Core.Path.{◌∙◌}
use Rattle.target_tags.proofs.tag.difference_at.Goals as goal

pub returns-then-file-next : goal.returns-then-file-next
returns-then-file-next c = c.cut.ensures ∙ difference_cut _ _ c.if-file-next.true

pub returns : goal.returns
returns c =
    difference_in _ _ _ _ _ (omega arith) c.from-slot.ensures c.from-left.ensures c.from-right.ensures
