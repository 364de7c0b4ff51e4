use Rattle.procedure_file.proofs.TableLaws.{laid_as, long_as, start_room, count_inside, version_before, before_room, handler_byte}
use mathlib.Core.Path.{◌∙◌}
use native.Mathlib.Omega.{arith}
use Rattle.procedure_file.proofs.table.TabledFile.handler_of.Goals as goal

pub bounds-self-inside-3 : goal.bounds-self-inside-3
bounds-self-inside-3 c =
    long_as c.self.view_is (omega (arith, count_inside c.args.self.now (laid_as c.self.view_is c.self.invariant)))

pub overflow_sub-at : goal.overflow_sub-at
overflow_sub-at c =
    let L = laid_as c.self.view_is c.self.invariant in
    let b = rw c.self.view_is at c.from-before.ensures in
    before_room c.args.self.now L c.args.f c.requires.f_in_bounds.0 c.args.l _ _ c.requires.f_in_bounds.1 c.requires.f_in_bounds.2
    c.start_of-start.ensures (b ∙ version_before c.args.self.now L c.args.f c.requires.f_in_bounds.0)

pub bounds-self-inside-at : goal.bounds-self-inside-at
bounds-self-inside-at c =
    let r = start_room c.args.self.now (laid_as c.self.view_is c.self.invariant) c.args.f c.requires.f_in_bounds.0 c.args.l _ c.requires.f_in_bounds.2 c.start_of-start.ensures in
    long_as c.self.view_is (omega (arith, r.1))

pub returns : goal.returns
returns c =
    let L = laid_as c.self.view_is c.self.invariant in
    let b = rw c.self.view_is at c.from-before.ensures in
    rw c.self.view_is
    (handler_byte c.args.self.now L c.args.f c.requires.f_in_bounds.0 c.args.l _ _ c.requires.f_in_bounds.1 c.requires.f_in_bounds.2
    c.start_of-start.ensures (b ∙ version_before c.args.self.now L c.args.f c.requires.f_in_bounds.0))
