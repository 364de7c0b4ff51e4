use Rattle.translator_sizes.specs.SlotsLaws.{last_spare, last_handler}
use native.Mathlib.Omega.{arith}
use Rattle.translator_sizes.proofs.last_slot.Goals as goal

pub returns-then-version_of-eq2 : goal.returns-then-version_of-eq2
returns-then-version_of-eq2 c =
    last_spare c.table-table.ensures.right c.args.f c.requires.f_in_bounds
    (omega (arith, rw (c.table-table.ensures.value) at c.params_of.ensures, rw (c.table-table.ensures.value) at c.locals_of.ensures))
    (rw (c.bytes.ensures.value) at c.version_of.ensures) c.if-version_of-eq2.true

pub returns-else-version_of-eq2 : goal.returns-else-version_of-eq2
returns-else-version_of-eq2 c =
    last_handler c.table-table.ensures.right c.args.f c.requires.f_in_bounds
    (omega (arith, rw (c.table-table.ensures.value) at c.params_of.ensures, rw (c.table-table.ensures.value) at c.locals_of.ensures))
    (rw (c.bytes.ensures.value) at c.version_of.ensures) c.if-version_of-eq2.false
