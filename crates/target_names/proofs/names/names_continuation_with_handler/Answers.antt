use Rattle.parsing.specs.VerdictLaws.{joined_answers}
use Rattle.target_names.specs.Names.{continuation_with_handler_names}
use Rattle.target_names.proofs.names.names_continuation_with_handler.Goals as goal

pub returns : goal.returns
unfolding continuation_with_handler_names
returns c =
    let ends = joined_answers c.binds_slot.result c.differs.result c.or_else-ends.result c.binds_slot.ensures c.differs.ensures c.or_else-ends.ensures in
    joined_answers c.names_continuation-made.result c.or_else.result c.or_else-2.result c.names_continuation-made.ensures
    (joined_answers c.or_else-ends.result c.binds_number.result c.or_else.result ends c.binds_number.ensures c.or_else.ensures)
    c.or_else-2.ensures
