use Rattle.target_tags.specs.TagLaws.{jump_cut, jump_short, jump_in}
use native.Mathlib.Omega.{arith}
use mathlib.Core.Path.{◌∙◌}
use Rattle.target_tags.proofs.tag.jump_at.Goals as goal

pub returns-then-file-values : goal.returns-then-file-values
returns-then-file-values c = c.cut.ensures ∙ jump_cut _ _ c.if-file-values.true

pub returns-then-file-next : goal.returns-then-file-next
returns-then-file-next c = c.cut-then-file-next.ensures ∙ jump_short _ _ _ (omega arith) c.from-count.ensures c.if-file-next.true

pub returns : goal.returns
returns c =
    jump_in _ _ _ _ _ _ (omega arith) c.pair-function.ensures c.from-continuation.ensures c.from-handler.ensures c.from-count.ensures
