use Rattle.std.proofs.Common.{arith, to_z-of_z}
use Rattle.bench_unwind.specs.EnterLaws.{received_as}
use Rattle.bench_unwind.specs.GuardedLaws.{frame_ready}
use Rattle.bench_unwind.specs.UnwindLaws.{frames_fit_lem, frame_safe, caught_below, caught_label, raise_caught}
use Rattle.bench_unwind.proofs.unwind.caught_step.Goals as goal

pub head_at-h-requires-clause-le_size : goal.head_at-h-requires-clause-le_size
head_at-h-requires-clause-le_size c = (frame_ready (frames_fit_lem c.requires.standing) (caught_below c.table-table.ensures.right c.requires.standing c.requires.k_value.0 c.requires.k_value.1)).0

pub head_at-h-requires-clause-head_fits : goal.head_at-h-requires-clause-head_fits
head_at-h-requires-clause-head_fits c = (frame_ready (frames_fit_lem c.requires.standing) (caught_below c.table-table.ensures.right c.requires.standing c.requires.k_value.0 c.requires.k_value.1)).1

pub overflow_mul-d : goal.overflow_mul-d
overflow_mul-d c = omega (arith, (let F = c.table-table.ensures.right in frame_safe F c.requires.standing (caught_below F c.requires.standing c.requires.k_value.0 c.requires.k_value.1) c.head_at-h.ensures).depth_bound)

pub overflow_add-d : goal.overflow_add-d
overflow_add-d c = omega (arith, (let F = c.table-table.ensures.right in frame_safe F c.requires.standing (caught_below F c.requires.standing c.requires.k_value.0 c.requires.k_value.1) c.head_at-h.ensures).depth_bound)

pub copy-requires : goal.copy-requires
copy-requires c = (let F = c.table-table.ensures.right in frame_safe F c.requires.standing (caught_below F c.requires.standing c.requires.k_value.0 c.requires.k_value.1) c.head_at-h.ensures).copied

pub receive-requires : goal.receive-requires
receive-requires c = record { f_in_bounds = caught_label c.table-table.ensures.right c.requires.standing c.requires.k_value.0 c.requires.k_value.1 c.head_at-h.ensures }

pub entered-requires : goal.entered-requires
entered-requires c =
    rw c.table-table.ensures.value
    (record { f_in_bounds = caught_label c.table-table.ensures.right c.requires.standing c.requires.k_value.0 c.requires.k_value.1 c.head_at-h.ensures })

pub returns : goal.returns
returns c =
    raise_caught c.table-table.ensures.right c.requires.standing c.requires.k_value.0 c.requires.k_value.1 c.requires.leaves
    c.head_at-h.ensures c.copy.ensures (received_as (to_z-of_z c.ranges.number) c.receive.ensures) (rw c.table-table.ensures.value at c.entered.ensures)
