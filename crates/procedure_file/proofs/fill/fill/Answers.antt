use Rattle.procedure_file.proofs.FillLaws.{part_begins, part_room, part_more, part_full}
use native.Mathlib.Omega.{arith}
use mathlib.Core.Path.{refl}
use Rattle.procedure_file.proofs.fill.fill.Goals as goal

pub loop-f-init : goal.loop-f-init
loop-f-init c =
    part_begins _ _ _ _ c.requires.0 c.requires.1 c.requires.2 c.functions_of-count.ensures

pub bounds-file-at : goal.bounds-file-at
bounds-file-at c = let r = part_room _ _ _ _ _ _ c.loop-f.invariant c.loop-f-test.true in omega (arith, r.1)

pub bounds-params-f : goal.bounds-params-f
bounds-params-f c =
    let r = part_room _ _ _ _ _ _ c.loop-f.invariant c.loop-f-test.true in omega (arith, r.0, c.loop-f.invariant.params_long)

pub loop-f-preserved : goal.loop-f-preserved
loop-f-preserved c =
    part_more _ _ _ _ _ _ c.loop-f.invariant c.loop-f-test.true _ _ _ refl c.fill_row-at.ensures

pub returns : goal.returns
returns c = part_full _ _ _ _ _ _ c.loop-f.invariant c.loop-f-test.false
