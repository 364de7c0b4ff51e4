use Rattle.procedure_file.proofs.TableLaws.{laid_as, long_as, heading}
use native.Mathlib.Omega.{arith}
use Rattle.procedure_file.proofs.table.TabledFile.params_of.Goals as goal

pub bounds-self-inside-at : goal.bounds-self-inside-at
bounds-self-inside-at c =
    let h = heading c.args.self.now (laid_as c.self.view_is c.self.invariant) c.args.f c.requires.f_in_bounds _ c.start_of-at.ensures in
    long_as c.self.view_is (omega (arith, h.low, h.inside))

pub returns : goal.returns
returns c =
    rw c.self.view_is (heading c.args.self.now (laid_as c.self.view_is c.self.invariant) c.args.f c.requires.f_in_bounds _ c.start_of-at.ensures).params_are
