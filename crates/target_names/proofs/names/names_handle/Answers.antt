use Rattle.parsing.specs.VerdictLaws.{joined_answers}
use Rattle.target_names.specs.Names.{handle_names}
use Rattle.target_names.proofs.names.names_handle.Goals as goal

pub returns : goal.returns
unfolding handle_names
returns c =
    joined_answers c.reads_slot.result c.reads_number.result c.or_else.result c.reads_slot.ensures c.reads_number.ensures c.or_else.ensures
