use Rattle.procedure_layout.proofs.LayoutLaws.{before_two, before_one}
use mathlib.Core.Path.{sym, ◌∙◌}
use Rattle.procedure_layout.proofs.layout.bytes_before.Goals as goal

pub returns-then-version_of-eq2 : goal.returns-then-version_of-eq2
returns-then-version_of-eq2 c = sym (before_two (sym c.version_of.ensures ∙ c.if-version_of-eq2.true))

pub returns-else-version_of-eq2 : goal.returns-else-version_of-eq2
returns-else-version_of-eq2 c = sym (before_one (λ e. c.if-version_of-eq2.false (c.version_of.ensures ∙ e)))
