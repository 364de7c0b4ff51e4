use Rattle.procedure_file.specs.Check.{program_of}
use Rattle.translator_sizes.specs.PartLaws.{entry_fields, label_fields}
use Rattle.translator_sizes.specs.UnderLaws.{handler_named}
use mathlib.Core.Path.{refl}
use native.Mathlib.Omega.{arith}
use Rattle.translator_sizes.proofs.fields_of.Goals as goal

pub overflow_add-v : goal.overflow_add-v
overflow_add-v c =
    let counts = c.table-table.ensures.right.counts c.args.f c.requires.f_in_bounds.0 in
    omega (arith, rw (c.table-table.ensures.value) at c.params_of-own.ensures, rw (c.table-table.ensures.value) at c.locals_of-others.ensures, counts.params, counts.locals)

pub returns-then-l-eq0 : goal.returns-then-l-eq0
returns-then-l-eq0 c =
    let e = c.table-table.ensures.value in
    entry_fields (program_of c.args.file.now) c.args.f c.args.l _ _ _ _ _ (rw (e) at c.params_of-own.ensures) (rw (e) at c.locals_of-others.ensures) refl
    (rw (e) at c.start_of-start.ensures) c.if-l-eq0.true c.under_of-under.ensures

pub under_of-under-requires-2 : goal.under_of-under-requires-2
under_of-under-requires-2 c =
    let e = c.table-table.ensures.value in
    let h = rw (e) at c.handler_of-h.ensures in
    let p = rw (e) at c.params_of-own.ensures in
    let q = rw (e) at c.locals_of-others.ensures in
    record {
      f_in_bounds = (
        c.requires.f_in_bounds.0,
        omega (arith, h, handler_named c.table-table.ensures.right c.args.f c.requires.f_in_bounds.0 c.args.l c.requires.f_in_bounds.1),
        omega (arith, p, q),
      );
    }

pub returns : goal.returns
returns c =
    let e = c.table-table.ensures.value in
    label_fields (program_of c.args.file.now) c.args.f c.args.l _ _ _ _ _ (rw (e) at c.params_of-own.ensures) (rw (e) at c.locals_of-others.ensures) refl
    (rw (e) at c.start_of-start.ensures) c.if-l-eq0.false (rw (e) at c.handler_of-h.ensures) c.under_of-under-2.ensures
