use Rattle.target_tags.specs.TagLaws.{branch_cut, branch_in}
use native.Mathlib.Omega.{arith}
use mathlib.Core.Path.{◌∙◌}
use Rattle.target_tags.proofs.tag.branch_at.Goals as goal

pub returns-then-file-next : goal.returns-then-file-next
returns-then-file-next c = c.cut.ensures ∙ branch_cut _ _ c.if-file-next.true

pub returns : goal.returns
returns c =
    branch_in _ _ _ _ _ (omega arith) c.from-left.ensures c.from-right.ensures c.pair-size.ensures
