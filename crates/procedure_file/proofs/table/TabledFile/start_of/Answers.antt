use Rattle.procedure_file.proofs.TableLaws.{tabled_as, index_bound, start_is}
use native.Mathlib.Omega.{arith}
use mathlib.Core.Path.{◌∙◌}
use Rattle.procedure_file.proofs.table.TabledFile.start_of.Goals as goal

pub overflow_mul-f : goal.overflow_mul-f
overflow_mul-f c =
    omega (arith, index_bound c.args.self.now _ (tabled_as c.self.view_is c.self.invariant) c.args.f c.requires.f_in_bounds.0 c.args.l c.requires.f_in_bounds.1)

pub overflow_add-f : goal.overflow_add-f
overflow_add-f c =
    omega (arith, index_bound c.args.self.now _ (tabled_as c.self.view_is c.self.invariant) c.args.f c.requires.f_in_bounds.0 c.args.l c.requires.f_in_bounds.1)

pub offset_bounds-starts-f : goal.offset_bounds-starts-f
offset_bounds-starts-f c =
    omega (arith, index_bound c.args.self.now _ (tabled_as c.self.view_is c.self.invariant) c.args.f c.requires.f_in_bounds.0 c.args.l c.requires.f_in_bounds.1)

pub bounds-starts-f : goal.bounds-starts-f
bounds-starts-f c =
    index_bound c.args.self.now _ (tabled_as c.self.view_is c.self.invariant) c.args.f c.requires.f_in_bounds.0 c.args.l c.requires.f_in_bounds.1

pub returns : goal.returns
returns c =
    c.from.ensures ∙ start_is c.args.self.now _ (tabled_as c.self.view_is c.self.invariant) c.args.f c.requires.f_in_bounds.0 c.args.l c.requires.f_in_bounds.1
