use Rattle.target_slots.specs.declared.slots.Kind.{Kind}
use Rattle.std.proofs.lemmas.Result.{err_from_is_err_and}
use Rattle.target_tags.specs.NumberSlot.{NumberSlot}
use Rattle.std.specs.Prelude.{ℕ, ◌≡◌, ◌≢◌, Bool, List}
use Rattle.std.proofs.Math.Path.{refl}
use Rattle.std.proofs.Common.{sym, ◌∙◌, arith}
use Rattle.parsing.specs.Fields.{version_of}
use Rattle.target_tags.specs.TagLaws.{width_bound}
use Rattle.target_tags.specs.declared.tag.Tag.{Tag}
use Rattle.target_tags.specs.declared.tag.Tag.TheVariants.{Constant, Copy, Difference, Jump, Resume, Handle, Branch, Continuation, ContinuationWithHandler, DifferenceOrRaise, Refused}
use Rattle.target_parts.specs.Parts.{fields_end}
use Rattle.target_parts.specs.PartsLaws.{level_accepted}
use Rattle.target_expressions.specs.Ends.{parts_end}
use Rattle.target_expressions.proofs.ExpressionLaws.{node_fields}
use Rattle.target_expressions.proofs.EndLaws.{part_refused, part_in, part_past, rest_stopped, handler_outside, handler_in, node_right, node_wrong, expression_onward, expression_bound, expression_ended, expression_halted, onward_moves, parts_by_tag, continuation_on}
use Rattle.target_expressions.proofs.expressions.+continuation_end_continuation_with_handler_end_expression_end_node_end_part_end_parts_end.Goals as goal

-- A node that is none of tags 7 to 10.
no_parts_by : (names : Bool) (ps s : List ℕ) (level : ℕ) (ks : List Kind) (at : ℕ) (t : Tag)
    → ((y z n next : ℕ) → t ≢ Branch y z n next) → ((x p n next : ℕ) → t ≢ Continuation x p n next)
    → ((x p h : ℕ) (q : NumberSlot) (n next : ℕ) → t ≢ ContinuationWithHandler x p h q n next) → ((x y z n next : ℕ) → t ≢ DifferenceOrRaise x y z n next)
    → fields_end t ≡ parts_end names ps s level ks at t
unfolding parts_end fields_end
no_parts_by names ps s level ks at (Constant x i next) a b d e = refl
no_parts_by names ps s level ks at (Copy x y next) a b d e = refl
no_parts_by names ps s level ks at (Difference x y z next) a b d e = refl
no_parts_by names ps s level ks at (Jump g k h n next) a b d e = refl
no_parts_by names ps s level ks at (Resume k y next) a b d e = refl
no_parts_by names ps s level ks at (Handle h y next) a b d e = refl
no_parts_by names ps s level ks at (Branch y z n next) a b d e = absurd (a y z n next refl)
no_parts_by names ps s level ks at (Continuation x p n next) a b d e = absurd (b x p n next refl)
no_parts_by names ps s level ks at (ContinuationWithHandler x p h q n next) a b d e = absurd (d x p h q n next refl)
no_parts_by names ps s level ks at (DifferenceOrRaise x y z n next) a b d e = absurd (e x y z n next refl)
no_parts_by names ps s level ks at (Refused r) a b d e = refl

pub continuation_end-returns : goal.continuation_end-returns
continuation_end-returns t c = rw (← c.bind_in.ensures) c.part_end.ensures

pub continuation_with_handler_end-overflow_add-place : goal.continuation_with_handler_end-overflow_add-place
continuation_with_handler_end-overflow_add-place t c =
    omega (arith, c.number_width.ensures, width_bound (version_of c.args.file.now))

pub continuation_with_handler_end-overflow_add-middle : goal.continuation_with_handler_end-overflow_add-middle
continuation_with_handler_end-overflow_add-middle t c =
    let w = part_past _ _ _ _ _ _ _ _ _ (sym c.part_end.ensures ∙ c.in_ok-middle.was) in
    omega (arith, w.inside)

pub continuation_with_handler_end-part_end-requires-2 : goal.continuation_with_handler_end-part_end-requires-2
continuation_with_handler_end-part_end-requires-2 t c =
    let w = part_past _ _ _ _ _ _ _ _ _ (sym c.part_end.ensures ∙ c.in_ok-middle.was) in
    let q = c.decreases in
    (omega (arith, q, w.fills), c.requires.file_len_bound)

pub continuation_with_handler_end-returns-in_err-middle : goal.continuation_with_handler_end-returns-in_err-middle
continuation_with_handler_end-returns-in_err-middle t c =
    let p = err_from_is_err_and c.from_residual.result c.from_residual.ensures.1 in
    rw (p.1, p.2) (rest_stopped _ _ _ _ _ _ _ _ _ _ _ _ _ _ c.number_width.ensures c.bind_in.ensures c.bind_in-2.ensures _ (sym c.part_end.ensures ∙ c.in_err-middle.was))

pub continuation_with_handler_end-returns-in_err-n : goal.continuation_with_handler_end-returns-in_err-n
continuation_with_handler_end-returns-in_err-n t c =
    let p = err_from_is_err_and c.from_residual-in_err-n.result c.from_residual-in_err-n.ensures.1 in
    rw (p.1, p.2) (handler_outside _ _ _ _ _ _ _ _ _ _ _ _ _ _ c.number_width.ensures c.bind_in.ensures c.bind_in-2.ensures _ (sym c.part_end.ensures ∙ c.in_ok-middle.was) _
    (sym c.size_at.ensures ∙ c.in_err-n.was))

pub continuation_with_handler_end-returns : goal.continuation_with_handler_end-returns
continuation_with_handler_end-returns t c =
    handler_in _ _ _ _ _ _ _ _ _ _ _ _ _ _ c.number_width.ensures c.bind_in.ensures c.bind_in-2.ensures _ (sym c.part_end.ensures ∙ c.in_ok-middle.was) _ _ c.bind_number-caught.ensures
    (sym c.size_at.ensures ∙ c.in_ok-n.was) c.part_end-2.ensures

pub expression_end-loop-next-smaller-in-Onward : goal.expression_end-loop-next-smaller-in-Onward
expression_end-loop-next-smaller-in-Onward t c =
    let m = onward_moves _ _ _ _ _ _ c.tag_at-node.ensures c.node_end.ensures _ c.in-Onward.is refl in
    omega (arith, m.here, m.forward)

pub expression_end-loop-next-preserved-in-Onward : goal.expression_end-loop-next-preserved-in-Onward
expression_end-loop-next-preserved-in-Onward t c =
    let m = onward_moves _ _ _ _ _ _ c.tag_at-node.ensures c.node_end.ensures _ c.in-Onward.is refl in
    let v = c.loop-next.invariant in
    (omega (arith, v.0, m.forward), m.inside, expression_onward _ _ _ _ _ _ c.tag_at-node.ensures c.node_end.ensures _ c.in-Onward.is ∙ v.2)

pub expression_end-loop-next-smaller : goal.expression_end-loop-next-smaller
expression_end-loop-next-smaller t c =
    let m = onward_moves _ _ _ _ _ _ c.tag_at-node.ensures c.node_end.ensures _ c.in-Bound.is refl in
    omega (arith, m.here, m.forward)

pub expression_end-loop-next-preserved : goal.expression_end-loop-next-preserved
expression_end-loop-next-preserved t c =
    let m = onward_moves _ _ _ _ _ _ c.tag_at-node.ensures c.node_end.ensures _ c.in-Bound.is refl in
    let v = c.loop-next.invariant in
    (omega (arith, v.0, m.forward), m.inside, expression_bound _ _ _ _ _ _ c.tag_at-node.ensures c.node_end.ensures _ _ _ c.in-Bound.is c.bind_in.ensures ∙ v.2)

pub expression_end-returns-in-Ended : goal.expression_end-returns-in-Ended
expression_end-returns-in-Ended t c =
    expression_ended _ _ _ _ _ _ c.tag_at-node.ensures c.node_end.ensures _ c.in-Ended.is ∙ c.loop-next.invariant.2

pub expression_end-returns-in-Halted : goal.expression_end-returns-in-Halted
expression_end-returns-in-Halted t c =
    expression_halted _ _ _ _ _ _ c.tag_at-node.ensures c.node_end.ensures _ c.in-Halted.is ∙ c.loop-next.invariant.2

pub node_end-returns-in-Ok : goal.node_end-returns-in-Ok
node_end-returns-in-Ok t c =
    node_right _ _ _ _ _ _ _ c.judge.ensures c.in-Ok.is c.follows.ensures c.parts_end-end.ensures

pub node_end-returns-in-Err : goal.node_end-returns-in-Err
node_end-returns-in-Err t c = node_wrong _ _ _ _ _ _ _ c.judge.ensures _ c.in-Err.is

pub part_end-overflow_add-level : goal.part_end-overflow_add-level
part_end-overflow_add-level t c =
    let l = level_accepted _ _ _ c.level_checked.ensures c.in_ok-level_checked.was in
    omega (arith, l.1)

pub part_end-expression_end-part-requires : goal.part_end-expression_end-part-requires
part_end-expression_end-part-requires t c =
    let l = level_accepted _ _ _ c.level_checked.ensures c.in_ok-level_checked.was in
    let q = c.decreases in
    (omega (arith, q), (c.requires, omega (arith, l.0)))

pub part_end-returns-in_err-level_checked : goal.part_end-returns-in_err-level_checked
part_end-returns-in_err-level_checked t c =
    let p = err_from_is_err_and c.from_residual.result c.from_residual.ensures.1 in
    rw (p.1, p.2) (part_refused _ _ _ _ _ _ _ _ c.level_checked.ensures _ c.in_err-level_checked.was)

pub part_end-returns : goal.part_end-returns
part_end-returns t c =
    c.measured_end.ensures ∙ part_in _ _ _ _ _ _ _ _ c.level_checked.ensures c.in_ok-level_checked.was c.expression_end-part.ensures

pub parts_end-part_end-requires : goal.parts_end-part_end-requires
parts_end-part_end-requires t c =
    let q = c.decreases in
    let f = node_fields _ _ _ (sym c.in-Branch.is ∙ c.requires.node_at.is) in
    (omega (arith, q, f.here, f.forward, f.inside), c.requires.file_len_bound)

pub parts_end-continuation_end-requires : goal.parts_end-continuation_end-requires
parts_end-continuation_end-requires t c =
    let q = c.decreases in
    let f = node_fields _ _ _ (sym c.in-Continuation.is ∙ c.requires.node_at.is) in
    (omega (arith, q), (c.requires.file_len_bound, (f.forward, f.inside)))

pub parts_end-continuation_with_handler_end-requires : goal.parts_end-continuation_with_handler_end-requires
parts_end-continuation_with_handler_end-requires t c =
    let q = c.decreases in
    let f = node_fields _ _ _ (sym c.in-ContinuationWithHandler.is ∙ c.requires.node_at.is) in
    (omega (arith, q), (c.requires.file_len_bound, (f.forward, f.inside)))

pub parts_end-part_end-requires-in-DifferenceOrRaise :
    goal.parts_end-part_end-requires-in-DifferenceOrRaise
parts_end-part_end-requires-in-DifferenceOrRaise t c =
    let q = c.decreases in
    let f = node_fields _ _ _ (sym c.in-DifferenceOrRaise.is ∙ c.requires.node_at.is) in
    (omega (arith, q, f.here, f.forward, f.inside), c.requires.file_len_bound)

pub parts_end-returns-in-Branch : goal.parts_end-returns-in-Branch
unfolding parts_end
parts_end-returns-in-Branch t c = parts_by_tag _ _ _ _ _ _ c.in-Branch.is c.part_end.ensures

pub parts_end-returns-in-Continuation : goal.parts_end-returns-in-Continuation
parts_end-returns-in-Continuation t c = continuation_on _ _ _ _ _ _ _ c.in-Continuation.is refl c.continuation_end.ensures

pub parts_end-returns-in-ContinuationWithHandler : goal.parts_end-returns-in-ContinuationWithHandler
unfolding parts_end
parts_end-returns-in-ContinuationWithHandler t c = parts_by_tag _ _ _ _ _ _ c.in-ContinuationWithHandler.is c.continuation_with_handler_end.ensures

pub parts_end-returns-in-DifferenceOrRaise : goal.parts_end-returns-in-DifferenceOrRaise
unfolding parts_end
parts_end-returns-in-DifferenceOrRaise t c = parts_by_tag _ _ _ _ _ _ c.in-DifferenceOrRaise.is c.part_end-in-DifferenceOrRaise.ensures

pub parts_end-returns-in_default : goal.parts_end-returns-in_default
parts_end-returns-in_default t c =
    let r = c.in_default in
    c.fields_end.ensures ∙ no_parts_by _ _ _ _ _ _ _ r.not-Branch r.not-Continuation r.not-ContinuationWithHandler r.not-DifferenceOrRaise
