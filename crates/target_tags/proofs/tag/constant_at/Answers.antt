use Rattle.target_tags.specs.TagLaws.{constant_cut, constant_in}
use native.Mathlib.Omega.{arith}
use mathlib.Core.Path.{◌∙◌}
use mir.Facts.{to_z-of_z}
use mir.Syntax.{w32}
use Rattle.target_tags.proofs.tag.constant_at.Goals as goal

pub returns-then-file-next : goal.returns-then-file-next
returns-then-file-next c = c.cut.ensures ∙ constant_cut _ _ c.if-file-next.true

pub returns : goal.returns
returns c =
    constant_in _ _ _ _ (omega arith) c.from-slot.ensures (to_z-of_z {w = w32} (record { sfits = c.value-value.type_inv }) ∙ c.value-value.ensures)
