use Rattle.std.proofs.Common.{refl, arith}
use Rattle.procedure_file.proofs.FillLaws.{filled_room, row_room, row_begins, row_more, row_full}
use Rattle.procedure_file.proofs.fill.fill_row.Goals as goal

pub overflow_mul-row : goal.overflow_mul-row
overflow_mul-row c = omega (arith, (filled_room c.args.file.now c.args.f c.args.at c.args.starts.now c.requires.0 c.requires.1).0)

pub overflow_add-entry : goal.overflow_add-entry
overflow_add-entry c = let r = (filled_room c.args.file.now c.args.f c.args.at c.args.starts.now c.requires.0 c.requires.1) in omega (arith, r.1, r.2)

pub overflow_add-at : goal.overflow_add-at
overflow_add-at c = let r = (filled_room c.args.file.now c.args.f c.args.at c.args.starts.now c.requires.0 c.requires.1) in omega (arith, r.1, r.2)

pub bounds-file-at : goal.bounds-file-at
bounds-file-at c = omega (arith, (filled_room c.args.file.now c.args.f c.args.at c.args.starts.now c.requires.0 c.requires.1).1)

pub overflow_cast-starts : goal.overflow_cast-starts
overflow_cast-starts c = let r = (filled_room c.args.file.now c.args.f c.args.at c.args.starts.now c.requires.0 c.requires.1) in omega (arith, r.1, r.2)

pub offset_bounds-starts-row : goal.offset_bounds-starts-row
offset_bounds-starts-row c = omega (arith, (filled_room c.args.file.now c.args.f c.args.at c.args.starts.now c.requires.0 c.requires.1).0)

pub bounds-starts-row : goal.bounds-starts-row
bounds-starts-row c = omega (arith, (filled_room c.args.file.now c.args.f c.args.at c.args.starts.now c.requires.0 c.requires.1).0, c.requires.0.entries.long)

pub loop-l-init : goal.loop-l-init
loop-l-init c =
    row_begins c.args.file.now c.args.f c.args.at c.args.starts.now c.requires.0 c.requires.1 _ _ _ refl
    c.from-labels.ensures c.block_past-place.ensures

pub overflow_add-start : goal.overflow_add-start
overflow_add-start c = let r = (row_room _ _ _ _ _ _ c.loop-l.invariant _ c.bytes_before-before.ensures c.loop-l-test.true) in omega (arith, r.1, r.2, r.3)

pub overflow_cast-starts-in-loop-l : goal.overflow_cast-starts-in-loop-l
overflow_cast-starts-in-loop-l c = let r = (row_room _ _ _ _ _ _ c.loop-l.invariant _ c.bytes_before-before.ensures c.loop-l-test.true) in omega (arith, r.1, r.2, r.3)

pub overflow_add-starts : goal.overflow_add-starts
overflow_add-starts c = let r = (row_room _ _ _ _ _ _ c.loop-l.invariant _ c.bytes_before-before.ensures c.loop-l-test.true) in omega (arith, r.0)

pub overflow_add-starts-in-loop-l : goal.overflow_add-starts-in-loop-l
overflow_add-starts-in-loop-l c = let r = (row_room _ _ _ _ _ _ c.loop-l.invariant _ c.bytes_before-before.ensures c.loop-l-test.true) in omega (arith, r.0)

pub offset_bounds-starts-row-in-loop-l : goal.offset_bounds-starts-row-in-loop-l
offset_bounds-starts-row-in-loop-l c = let r = (row_room _ _ _ _ _ _ c.loop-l.invariant _ c.bytes_before-before.ensures c.loop-l-test.true) in omega (arith, r.0)

pub bounds-starts-row-in-loop-l : goal.bounds-starts-row-in-loop-l
bounds-starts-row-in-loop-l c = let r = (row_room _ _ _ _ _ _ c.loop-l.invariant _ c.bytes_before-before.ensures c.loop-l-test.true) in omega (arith, r.0, c.loop-l.invariant.entries.long)

pub loop-l-preserved : goal.loop-l-preserved
loop-l-preserved c =
    row_more _ _ _ _ _ _ c.loop-l.invariant _ c.bytes_before-before.ensures c.loop-l-test.true _ _ refl c.block_past-place-in-loop-l.ensures

pub returns : goal.returns
returns c = row_full _ _ _ _ _ _ c.loop-l.invariant (omega arith)
