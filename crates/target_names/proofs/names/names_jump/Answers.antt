use Rattle.parsing.specs.VerdictLaws.{joined_answers}
use Rattle.target_names.specs.Names.{jump_names}
use Rattle.target_names.proofs.names.names_jump.Goals as goal

pub returns : goal.returns
unfolding jump_names
returns c =
    let ends = joined_answers c.reads_slot.result c.reads_slot-2.result c.or_else-ends.result c.reads_slot.ensures c.reads_slot-2.ensures c.or_else-ends.ensures in
    joined_answers c.or_else.result c.counts.result c.or_else-2.result
    (joined_answers c.names_function-goal.result c.or_else-ends.result c.or_else.result c.names_function-goal.ensures ends c.or_else.ensures)
    c.counts.ensures c.or_else-2.ensures
