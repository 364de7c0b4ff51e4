use Rattle.std.proofs.Common.{arith, sym, ◌∙◌}
use Rattle.bench_frames.specs.CallLaws.{call_named, call_safe, call_deep, call_push, call_arguments, call_clear, call_done}
use Rattle.bench_frames.proofs.call.call_step.Goals as goal

pub returns-then-limit-d : goal.returns-then-limit-d
returns-then-limit-d c =
    call_deep c.table-table.ensures.right c.requires.standing c.requires.at_value c.if-limit-d.true

pub locals_of-locals-requires : goal.locals_of-locals-requires
locals_of-locals-requires c =
    rw c.table-table.ensures.value
    (record { f_in_bounds = (call_safe c.table-table.ensures.right c.requires.standing (call_named c.requires.at_value c.index-x.ensures c.index-g.ensures c.from-k.ensures)).function })

pub start_of-at-requires : goal.start_of-at-requires
start_of-at-requires c =
    rw c.table-table.ensures.value
    (record { f_in_bounds = ((call_safe c.table-table.ensures.right c.requires.standing (call_named c.requires.at_value c.index-x.ensures c.index-g.ensures c.from-k.ensures)).function, omega arith) })

pub push-requires-clause-small : goal.push-requires-clause-small
push-requires-clause-small c =
    let n = rw c.table-table.ensures.value at c.variables-n.ensures in
    (call_push c.table-table.ensures.right c.requires.standing (call_named c.requires.at_value c.index-x.ensures c.index-g.ensures c.from-k.ensures) c.if-limit-d.false n).1.0

pub push-requires-clause-n_in_bounds : goal.push-requires-clause-n_in_bounds
push-requires-clause-n_in_bounds c =
    let n = rw c.table-table.ensures.value at c.variables-n.ensures in
    (call_push c.table-table.ensures.right c.requires.standing (call_named c.requires.at_value c.index-x.ensures c.index-g.ensures c.from-k.ensures) c.if-limit-d.false n).1.1

pub arguments-requires-clause-arguments_in_bounds : goal.arguments-requires-clause-arguments_in_bounds
arguments-requires-clause-arguments_in_bounds c =
    let n = rw c.table-table.ensures.value at c.variables-n.ensures in
    rw (c.bytes.ensures.value, c.table-table.ensures.value)
    (call_arguments c.table-table.ensures.right c.requires.standing (call_named c.requires.at_value c.index-x.ensures c.index-g.ensures c.from-k.ensures) c.if-limit-d.false n c.push.ensures).0

pub clear-requires : goal.clear-requires
clear-requires c =
    let n = rw c.table-table.ensures.value at c.variables-n.ensures in
    let l = rw c.table-table.ensures.value at c.locals_of-locals.ensures in
    let a = rw (c.bytes.ensures.value, c.table-table.ensures.value) at c.arguments.ensures in
    call_clear c.table-table.ensures.right c.requires.standing (call_named c.requires.at_value c.index-x.ensures c.index-g.ensures c.from-k.ensures) c.if-limit-d.false n c.push.ensures
    a (c.from.ensures ∙ l)

pub returns : goal.returns
returns c =
    let n = rw c.table-table.ensures.value at c.variables-n.ensures in
    let l = rw c.table-table.ensures.value at c.locals_of-locals.ensures in
    let a = rw (c.bytes.ensures.value, c.table-table.ensures.value) at c.arguments.ensures in
    let s = rw c.table-table.ensures.value at c.start_of-at.ensures in
    call_done c.table-table.ensures.right c.requires.standing (call_named c.requires.at_value c.index-x.ensures c.index-g.ensures c.from-k.ensures) c.if-limit-d.false n c.push.ensures
    a (c.from.ensures ∙ l) c.clear.ensures s (c.from-2.ensures ∙ sym c.from.ensures)
