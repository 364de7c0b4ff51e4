use Rattle.std.proofs.Common.{ℕ, List, ℤ, arith}
use mathlib.Core.Path.{sym}
use lib.Seq.{length-take-le}
use Rattle.agreement.specs.Sides.{Memory}
use Rattle.agreement.specs.SidesLaws.{judged_as, call_refused, translation_room, call_fits, size_there, front_is, call_ran}
use Rattle.agreement.proofs.sides_loaded.Goals as goal

-- The memory that was lent.
abbrev lent : List ℤ → List ℕ → List ℤ → Memory
lent frames room records = record { frames = frames; room = room; records = records }

pub returns-in-Err-clause-tells : goal.returns-in-Err-clause-tells
returns-in-Err-clause-tells c =
    let m = lent c.args.frames.now c.args.room.now c.args.records.now in
    let t = c.table-table.ensures in
    let J =
    judged_as c.args.arguments.now m c.call_judged-judged.result t.laid t.accepted (rw t.value at c.functions-functions.ensures.count)
    (rw t.value at c.wanted_of-wanted.ensures) c.translation_size-size.ensures c.call_judged-judged.ensures in
    (call_refused c.args.file.now c.args.f c.args.arguments.now c.args.depth c.args.budget m c.call_judged-judged.result J c.refused.result c.in-Err.is c.refused.ensures).0

pub returns-in-Err-clause-memory : goal.returns-in-Err-clause-memory
returns-in-Err-clause-memory c =
    let m = lent c.args.frames.now c.args.room.now c.args.records.now in
    let t = c.table-table.ensures in
    let J =
    judged_as c.args.arguments.now m c.call_judged-judged.result t.laid t.accepted (rw t.value at c.functions-functions.ensures.count)
    (rw t.value at c.wanted_of-wanted.ensures) c.translation_size-size.ensures c.call_judged-judged.ensures in
    (call_refused c.args.file.now c.args.f c.args.arguments.now c.args.depth c.args.budget m c.call_judged-judged.result J c.refused.result c.in-Err.is c.refused.ensures).1.0

pub returns-in-Err-clause-answer : goal.returns-in-Err-clause-answer
returns-in-Err-clause-answer c =
    let m = lent c.args.frames.now c.args.room.now c.args.records.now in
    let t = c.table-table.ensures in
    let J =
    judged_as c.args.arguments.now m c.call_judged-judged.result t.laid t.accepted (rw t.value at c.functions-functions.ensures.count)
    (rw t.value at c.wanted_of-wanted.ensures) c.translation_size-size.ensures c.call_judged-judged.ensures in
    (call_refused c.args.file.now c.args.f c.args.arguments.now c.args.depth c.args.budget m c.call_judged-judged.result J c.refused.result c.in-Err.is c.refused.ensures).1.1

pub entry_number-g-requires : goal.entry_number-g-requires
entry_number-g-requires c =
    let m = lent c.args.frames.now c.args.room.now c.args.records.now in
    let t = c.table-table.ensures in
    let J =
    judged_as c.args.arguments.now m c.call_judged-judged.result t.laid t.accepted (rw t.value at c.functions-functions.ensures.count)
    (rw t.value at c.wanted_of-wanted.ensures) c.translation_size-size.ensures c.call_judged-judged.ensures in
    record { f_in_bounds = rw t.value (call_fits c.args.file.now c.args.f c.args.arguments.now c.args.depth c.args.budget m c.call_judged-judged.result J c.in_default.is).function }

pub put_file-requires : goal.put_file-requires
put_file-requires c =
    let m = lent c.args.frames.now c.args.room.now c.args.records.now in
    let t = c.table-table.ensures in
    let J =
    judged_as c.args.arguments.now m c.call_judged-judged.result t.laid t.accepted (rw t.value at c.functions-functions.ensures.count)
    (rw t.value at c.wanted_of-wanted.ensures) c.translation_size-size.ensures c.call_judged-judged.ensures in
    record { room = translation_room c.args.file.now c.args.f c.args.arguments.now c.args.depth c.args.budget m c.call_judged-judged.result J c.in_default.is }

pub slice_bounds-run_both-end : goal.slice_bounds-run_both-end
slice_bounds-run_both-end c =
    let m = lent c.args.frames.now c.args.room.now c.args.records.now in
    let t = c.table-table.ensures in
    let J =
    judged_as c.args.arguments.now m c.call_judged-judged.result t.laid t.accepted (rw t.value at c.functions-functions.ensures.count)
    (rw t.value at c.wanted_of-wanted.ensures) c.translation_size-size.ensures c.call_judged-judged.ensures in
    size_there c.args.file.now c.args.f c.args.arguments.now c.args.depth c.args.budget m c.call_judged-judged.result J c.in_default.is c.put_file.ensures c.translation_size-size.ensures

pub slice_bounds-run_both-end-2 : goal.slice_bounds-run_both-end-2
slice_bounds-run_both-end-2 c =
    let m = lent c.args.frames.now c.args.room.now c.args.records.now in
    let t = c.table-table.ensures in
    let J =
    judged_as c.args.arguments.now m c.call_judged-judged.result t.laid t.accepted (rw t.value at c.functions-functions.ensures.count)
    (rw t.value at c.wanted_of-wanted.ensures) c.translation_size-size.ensures c.call_judged-judged.ensures in
    sym (length-take-le _ _ (size_there c.args.file.now c.args.f c.args.arguments.now c.args.depth c.args.budget m c.call_judged-judged.result J c.in_default.is c.put_file.ensures c.translation_size-size.ensures))

pub run_both-requires-clause-call_fits : goal.run_both-requires-clause-call_fits
run_both-requires-clause-call_fits c =
    let m = lent c.args.frames.now c.args.room.now c.args.records.now in
    let t = c.table-table.ensures in
    let J =
    judged_as c.args.arguments.now m c.call_judged-judged.result t.laid t.accepted (rw t.value at c.functions-functions.ensures.count)
    (rw t.value at c.wanted_of-wanted.ensures) c.translation_size-size.ensures c.call_judged-judged.ensures in
    call_fits c.args.file.now c.args.f c.args.arguments.now c.args.depth c.args.budget m c.call_judged-judged.result J c.in_default.is

pub run_both-requires-clause-target_value : goal.run_both-requires-clause-target_value
run_both-requires-clause-target_value c =
    let m = lent c.args.frames.now c.args.room.now c.args.records.now in
    let t = c.table-table.ensures in
    let J =
    judged_as c.args.arguments.now m c.call_judged-judged.result t.laid t.accepted (rw t.value at c.functions-functions.ensures.count)
    (rw t.value at c.wanted_of-wanted.ensures) c.translation_size-size.ensures c.call_judged-judged.ensures in
    (front_is c.args.file.now c.args.f c.args.arguments.now c.args.depth c.args.budget m c.call_judged-judged.result J c.in_default.is c.put_file.ensures c.translation_size-size.ensures, rw t.value at c.entry_number-g.ensures)

pub returns-clause-tells : goal.returns-clause-tells
returns-clause-tells c =
    let m = lent c.args.frames.now c.args.room.now c.args.records.now in
    let t = c.table-table.ensures in
    let J =
    judged_as c.args.arguments.now m c.call_judged-judged.result t.laid t.accepted (rw t.value at c.functions-functions.ensures.count)
    (rw t.value at c.wanted_of-wanted.ensures) c.translation_size-size.ensures c.call_judged-judged.ensures in
    (call_ran c.args.file.now c.args.f c.args.arguments.now c.args.depth c.args.budget m c.call_judged-judged.result J c.in_default.is c.put_file.ensures c.translation_size-size.ensures c.run_both.result c.run_both.ensures).0

pub returns-clause-memory : goal.returns-clause-memory
returns-clause-memory c =
    let m = lent c.args.frames.now c.args.room.now c.args.records.now in
    let t = c.table-table.ensures in
    let J =
    judged_as c.args.arguments.now m c.call_judged-judged.result t.laid t.accepted (rw t.value at c.functions-functions.ensures.count)
    (rw t.value at c.wanted_of-wanted.ensures) c.translation_size-size.ensures c.call_judged-judged.ensures in
    (call_ran c.args.file.now c.args.f c.args.arguments.now c.args.depth c.args.budget m c.call_judged-judged.result J c.in_default.is c.put_file.ensures c.translation_size-size.ensures c.run_both.result c.run_both.ensures).1.0

pub returns-clause-answer : goal.returns-clause-answer
returns-clause-answer c =
    let m = lent c.args.frames.now c.args.room.now c.args.records.now in
    let t = c.table-table.ensures in
    let J =
    judged_as c.args.arguments.now m c.call_judged-judged.result t.laid t.accepted (rw t.value at c.functions-functions.ensures.count)
    (rw t.value at c.wanted_of-wanted.ensures) c.translation_size-size.ensures c.call_judged-judged.ensures in
    (call_ran c.args.file.now c.args.f c.args.arguments.now c.args.depth c.args.budget m c.call_judged-judged.result J c.in_default.is c.put_file.ensures c.translation_size-size.ensures c.run_both.result c.run_both.ensures).1.1
