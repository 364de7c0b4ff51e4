use Rattle.procedure_file.proofs.TableLaws.{laid_as, long_as, start_room, receiver_byte_lem, receiver_none}
use native.Mathlib.Omega.{arith}
use mathlib.Core.Path.{sym, ◌∙◌}
use Rattle.procedure_file.proofs.table.TabledFile.receiver_of.Goals as goal

pub returns-then-version_of-ne2 : goal.returns-then-version_of-ne2
returns-then-version_of-ne2 c =
    let v = rw c.self.view_is at c.version_of.ensures in
    receiver_none c.args.self.now (laid_as c.self.view_is c.self.invariant) c.args.f c.requires.f_in_bounds.0 c.args.l c.requires.f_in_bounds.1 c.requires.f_in_bounds.2
    (λ e. c.if-version_of-ne2.true (v ∙ e))

pub overflow_sub-at : goal.overflow_sub-at
overflow_sub-at c =
    let r = start_room c.args.self.now (laid_as c.self.view_is c.self.invariant) c.args.f c.requires.f_in_bounds.0 c.args.l _ c.requires.f_in_bounds.2 c.start_of-at.ensures in
    omega (arith, r.0)

pub bounds-self-inside-at : goal.bounds-self-inside-at
bounds-self-inside-at c =
    let r = start_room c.args.self.now (laid_as c.self.view_is c.self.invariant) c.args.f c.requires.f_in_bounds.0 c.args.l _ c.requires.f_in_bounds.2 c.start_of-at.ensures in
    long_as c.self.view_is (omega (arith, r.1))

pub returns : goal.returns
returns c =
    let v = rw c.self.view_is at c.version_of.ensures in
    rw c.self.view_is
    (receiver_byte_lem c.args.self.now (laid_as c.self.view_is c.self.invariant) c.args.f c.requires.f_in_bounds.0 c.args.l c.requires.f_in_bounds.1 c.requires.f_in_bounds.2 _
    c.start_of-at.ensures (sym v ∙ c.if-version_of-ne2.false))
