use Rattle.target_tags.specs.TagLaws.{width_bound, continuation_with_handler_cut, continuation_with_handler_in}
use native.Mathlib.Omega.{arith}
use mathlib.Core.Path.{◌∙◌}
use Rattle.parsing.specs.Fields.{version_of}
use Rattle.target_tags.proofs.tag.continuation_with_handler_at.Goals as goal

pub overflow_add-next : goal.overflow_add-next
overflow_add-next c = omega (arith, c.number_width-width.ensures, width_bound (version_of c.args.file.now))

pub returns-then-file-next : goal.returns-then-file-next
returns-then-file-next c =
    c.cut.ensures ∙ continuation_with_handler_cut _ _ _ c.number_width-width.ensures c.if-file-next.true

pub returns : goal.returns
returns c =
    continuation_with_handler_in _ _ _ _ _ _ _ _ c.number_width-width.ensures (omega arith) c.from-slot.ensures c.from-parameter.ensures c.from-handler.ensures
    c.number_slot_at-number.ensures c.pair-size.ensures
