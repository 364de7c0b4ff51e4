use mathlib.Core.Path.{◌∙◌}
use mir.Facts.{to_z-of_z}
use mir.Syntax.{w32}
use Rattle.report.specs.Report.{argument_at}
use Rattle.report.proofs.argument.Goals as goal

pub returns : goal.returns
unfolding argument_at
returns c = to_z-of_z {w = w32} (record { sfits = c.value.type_inv }) ∙ c.value.ensures
