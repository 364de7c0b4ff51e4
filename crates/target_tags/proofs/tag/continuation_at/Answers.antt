use Rattle.target_tags.specs.TagLaws.{continuation_cut, continuation_in}
use native.Mathlib.Omega.{arith}
use mathlib.Core.Path.{◌∙◌}
use Rattle.target_tags.proofs.tag.continuation_at.Goals as goal

pub returns-then-file-next : goal.returns-then-file-next
returns-then-file-next c = c.cut.ensures ∙ continuation_cut _ _ c.if-file-next.true

pub returns : goal.returns
returns c =
    continuation_in _ _ _ _ _ (omega arith) c.from-slot.ensures c.from-parameter.ensures c.pair-size.ensures
