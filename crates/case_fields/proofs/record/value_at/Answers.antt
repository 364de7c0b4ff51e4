use mathlib.Core.Path.{◌∙◌}
use mir.Facts.{to_z-of_z}
use mir.Syntax.{w32}
use Rattle.case_fields.specs.Record.{value_at}
use Rattle.case_fields.proofs.record.value_at.Goals as goal

pub returns : goal.returns
unfolding value_at
returns c = to_z-of_z {w = w32} (record { sfits = c.value.type_inv }) ∙ c.value.ensures
