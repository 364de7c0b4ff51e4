use mathlib.Core.Path.{sym, ap, ◌∙◌}
use Rattle.parsing.specs.VerdictLaws.{joined_answers}
use Rattle.target_names.specs.NamesLaws.{jump_fits}
use Rattle.target_names.specs.Names.{names_of}
use Rattle.target_names.proofs.names.names_of.Goals as goal

pub reads_values-requires : goal.reads_values-requires
reads_values-requires c =
    jump_fits _ _ _ _ _ _ _ _ c.requires.is c.in-Jump.is

pub returns-in-Jump : goal.returns-in-Jump
unfolding names_of
returns-in-Jump c =
    joined_answers c.names_jump.result c.reads_values.result c.or_else.result c.names_jump.ensures c.reads_values.ensures c.or_else.ensures
    ∙ sym (ap (names_of _ _ _ _ _) c.in-Jump.is)
