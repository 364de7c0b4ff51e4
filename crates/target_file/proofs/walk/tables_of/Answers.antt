use mathlib.Core.Path.{refl}
use native.Mathlib.Omega.{arith}
use Rattle.target_file.proofs.TablesLaws.{laid_file, turn_start, turn_head, turn_on, turn_done}
use Rattle.target_file.proofs.walk.tables_of.Goals as goal

pub bounds-file-5 : goal.bounds-file-5
bounds-file-5 c = let f = laid_file _ c.requires in let w = f.whole in omega arith

pub bounds-file-6 : goal.bounds-file-6
bounds-file-6 c =
    let f = laid_file _ c.requires in
    let w = f.whole in
    omega arith

pub loop-i-init : goal.loop-i-init
loop-i-init c =
    turn_start _ c.requires

pub overflow_add-body : goal.overflow_add-body
overflow_add-body c =
    let h = turn_head c.requires c.pair-n.ensures c.loop-i.invariant c.loop-i-test.true in
    omega (arith, h.inside, h.sized, h.file_bound, h.counter_bound)

pub bounds-file-at : goal.bounds-file-at
bounds-file-at c =
    let h = turn_head c.requires c.pair-n.ensures c.loop-i.invariant c.loop-i-test.true in
    omega (arith, h.inside, h.sized, h.file_bound, h.counter_bound)

pub bounds-params-i : goal.bounds-params-i
bounds-params-i c =
    let h = turn_head c.requires c.pair-n.ensures c.loop-i.invariant c.loop-i-test.true in
    omega (arith, h.inside, h.sized, h.file_bound, h.counter_bound)

pub overflow_cast-starts : goal.overflow_cast-starts
overflow_cast-starts c =
    let h = turn_head c.requires c.pair-n.ensures c.loop-i.invariant c.loop-i-test.true in
    omega (arith, h.inside, h.sized, h.file_bound, h.counter_bound)

pub bounds-starts-i : goal.bounds-starts-i
bounds-starts-i c =
    let h = turn_head c.requires c.pair-n.ensures c.loop-i.invariant c.loop-i-test.true in
    omega (arith, h.inside, h.sized, h.file_bound, h.counter_bound)

pub overflow_add-field : goal.overflow_add-field
overflow_add-field c =
    let h = turn_head c.requires c.pair-n.ensures c.loop-i.invariant c.loop-i-test.true in
    omega (arith, h.inside, h.sized, h.file_bound, h.counter_bound)

pub bounds-file-field : goal.bounds-file-field
bounds-file-field c =
    let h = turn_head c.requires c.pair-n.ensures c.loop-i.invariant c.loop-i-test.true in
    omega (arith, h.inside, h.sized, h.file_bound, h.counter_bound)

pub overflow_add-field-in-loop-i : goal.overflow_add-field-in-loop-i
overflow_add-field-in-loop-i c =
    let h = turn_head c.requires c.pair-n.ensures c.loop-i.invariant c.loop-i-test.true in
    omega (arith, h.inside, h.sized, h.file_bound, h.counter_bound)

pub bounds-file-field-in-loop-i : goal.bounds-file-field-in-loop-i
bounds-file-field-in-loop-i c =
    let h = turn_head c.requires c.pair-n.ensures c.loop-i.invariant c.loop-i-test.true in
    omega (arith, h.inside, h.sized, h.file_bound, h.counter_bound)

pub overflow_add-at : goal.overflow_add-at
overflow_add-at c =
    let h = turn_head c.requires c.pair-n.ensures c.loop-i.invariant c.loop-i-test.true in
    let p = c.pair.ensures in
    omega (arith, h.inside, h.sized, h.file_bound, h.counter_bound, p)

pub loop-i-preserved : goal.loop-i-preserved
loop-i-preserved c =
    turn_on c.requires c.pair-n.ensures c.loop-i.invariant c.loop-i-test.true refl c.pair.ensures refl refl

pub returns : goal.returns
returns c =
    turn_done c.requires c.pair-n.ensures c.loop-i.invariant c.loop-i-test.false
