use Rattle.target_tags.specs.TagLaws.{difference_or_raise_cut, difference_or_raise_in}
use native.Mathlib.Omega.{arith}
use mathlib.Core.Path.{◌∙◌}
use Rattle.target_tags.proofs.tag.difference_or_raise_at.Goals as goal

pub returns-then-file-next : goal.returns-then-file-next
returns-then-file-next c = c.cut.ensures ∙ difference_or_raise_cut _ _ c.if-file-next.true

pub returns : goal.returns
returns c =
    difference_or_raise_in _ _ _ _ _ _ (omega arith) c.from-slot.ensures c.from-left.ensures c.from-right.ensures c.pair-size.ensures
