use mathlib.Core.Path.{◌∙◌}
use Rattle.merge.specs.Merged.{version_verdict}
use Rattle.merge.proofs.version_checked.Goals as goal

pub returns : goal.returns
unfolding version_verdict
returns c = c.refused_unless.ensures ∙ rw (c.version_of.ensures, c.version_of-2.ensures)
