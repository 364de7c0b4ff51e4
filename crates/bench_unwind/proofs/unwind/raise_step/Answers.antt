use Rattle.std.proofs.Common.{arith, to_z-of_z, ◌∙◌}
use Rattle.parsing.specs.Fields.{version_of}
use Rattle.bench_unwind.specs.EnterLaws.{leaving_few, received_as}
use Rattle.bench_unwind.specs.UnwindLaws.{guarded_in, here_safe, raise_here, raise_leaves, leaves_as, raise_uncaught}
use Rattle.bench_unwind.proofs.unwind.raise_step.Goals as goal

pub receive-requires : goal.receive-requires
receive-requires c = record { f_in_bounds = here_safe c.table-table.ensures.right c.requires.standing c.if-h-ne0.true }

pub entered-requires : goal.entered-requires
entered-requires c = rw c.table-table.ensures.value (record { f_in_bounds = here_safe c.table-table.ensures.right c.requires.standing c.if-h-ne0.true })

pub returns-then-h-ne0 : goal.returns-then-h-ne0
returns-then-h-ne0 c =
    raise_here c.table-table.ensures.right c.requires.standing c.requires.raises c.if-h-ne0.true (received_as (to_z-of_z c.ranges.number) c.receive.ensures) (rw c.table-table.ensures.value at c.entered.ensures)

pub overflow_add-more-2 : goal.overflow_add-more-2
overflow_add-more-2 c =
    omega (arith, c.leaving.ensures, leaving_few (version_of c.bytes.result.now) c.args.zero, c.requires.extras_bound)

pub returns-then-k-eq0 : goal.returns-then-k-eq0
returns-then-k-eq0 c =
    let F = c.table-table.ensures.right in
    raise_uncaught F c.requires.standing (raise_leaves F c.requires.standing c.requires.raises c.if-h-ne0.false (rw (c.bytes.ensures.value, c.table-table.ensures.value) at c.leaving.ensures))
    (to_z-of_z c.ranges.number) (c.guarded-k.ensures ∙ guarded_in c.args.file.now c.args.words.now c.args.r.waiting) c.if-k-eq0.true

pub caught_step-requires-clause-leaves : goal.caught_step-requires-clause-leaves
caught_step-requires-clause-leaves c = leaves_as c.table-table.ensures.right c.requires.standing (to_z-of_z c.ranges.number)
    (raise_leaves c.table-table.ensures.right c.requires.standing c.requires.raises c.if-h-ne0.false (rw (c.bytes.ensures.value, c.table-table.ensures.value) at c.leaving.ensures))

pub caught_step-requires-clause-extras_bound : goal.caught_step-requires-clause-extras_bound
caught_step-requires-clause-extras_bound c = omega (arith, c.leaving.ensures, leaving_few (version_of c.bytes.result.now) c.args.zero, c.requires.extras_bound)

pub caught_step-requires-clause-k_value : goal.caught_step-requires-clause-k_value
caught_step-requires-clause-k_value c = (c.guarded-k.ensures ∙ guarded_in c.args.file.now c.args.words.now c.args.r.waiting, omega (arith, c.if-k-eq0.false))
