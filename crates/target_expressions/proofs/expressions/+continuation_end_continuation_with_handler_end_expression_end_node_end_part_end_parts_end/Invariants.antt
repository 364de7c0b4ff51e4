use Rattle.std.proofs.Common.{◌≡◌, length, ◌≤◌, ◌+◌, ◌-◌, ◌*◌}
use Rattle.parsing.specs.Parser.{past_of}
use Rattle.target_expressions.specs.Expressions.{expression}
use Rattle.target_expressions.proofs.expressions.+continuation_end_continuation_with_handler_end_expression_end_node_end_part_end_parts_end.Given as goal

abbrev pub decreases-continuation_end : goal.decreases-continuation_end
decreases-continuation_end l = 8 * (length l.file.now - l.at) + 2

abbrev pub decreases-continuation_with_handler_end : goal.decreases-continuation_with_handler_end
decreases-continuation_with_handler_end l = 8 * (length l.file.now - l.at) + 2

abbrev pub decreases-expression_end : goal.decreases-expression_end
decreases-expression_end l = 8 * (length l.file.now - l.start) + 5

abbrev pub decreases-node_end : goal.decreases-node_end
decreases-node_end l = 8 * (length l.file.now - l.at) + 4

abbrev pub decreases-part_end : goal.decreases-part_end
decreases-part_end l = 8 * (length l.file.now - l.at) + 6

abbrev pub decreases-parts_end : goal.decreases-parts_end
decreases-parts_end l = 8 * (length l.file.now - l.at) + 3

abbrev pub invariant-expression_end-loop-next : goal.invariant-expression_end-loop-next
invariant-expression_end-loop-next l =
    (l.start ≤ l.at) × (l.at ≤ length l.file) × (past_of (expression l.names l.params l.level l.seen l.file l.at) ≡ past_of (expression l.names l.params l.level l.fn.kinds l.file l.start))

abbrev pub decreases-expression_end-loop-next : goal.decreases-expression_end-loop-next
decreases-expression_end-loop-next l = length l.file - l.at
