use mathlib.Core.Path.{refl}
use native.Mathlib.Omega.{arith}
use Rattle.agreement.specs.SidesLaws.{target_accepted, target_kept, controller_fits, sum_small, more_small, machines_ran}
use Rattle.agreement.proofs.run_both.Goals as goal

pub overflow_add-counted : goal.overflow_add-counted
overflow_add-counted c =
    omega (arith, sum_small c.requires.call_fits (rw c.from.ensures at c.run_loaded-b.ensures) c.ranges.budget.fits)

pub overflow_add-steps : goal.overflow_add-steps
overflow_add-steps c =
    omega (
      arith,
      sum_small c.requires.call_fits (rw c.from.ensures at c.run_loaded-b.ensures) c.ranges.budget.fits,
      more_small c.requires.call_fits (rw c.from.ensures at c.run_loaded-b.ensures) c.one_more_if_deep-more.ensures,
    )

pub table_of-bodies-requires : goal.table_of-bodies-requires
table_of-bodies-requires c = target_accepted c.requires.call_fits c.requires.target_value.0

pub new-code-requires : goal.new-code-requires
new-code-requires c = record { is_accepted = target_accepted c.requires.call_fits c.requires.target_value.0; table = c.table_of-bodies.ensures }

pub run_loaded-c-requires-clause-call_fits : goal.run_loaded-c-requires-clause-call_fits
run_loaded-c-requires-clause-call_fits c =
    rw c.new-code.ensures (controller_fits c.requires.call_fits c.requires.target_value.0 c.requires.target_value.1)

pub run_loaded-c-requires-clause-slots_kept : goal.run_loaded-c-requires-clause-slots_kept
run_loaded-c-requires-clause-slots_kept c =
    rw c.new-code.ensures (target_kept c.requires.call_fits c.requires.target_value.0 c.slots_used-kept.ensures)

pub returns : goal.returns
returns c =
    machines_ran c.requires.call_fits (rw c.from.ensures at c.run_loaded-b.ensures) c.one_more_if_deep-more.ensures c.requires.target_value.0 c.requires.target_value.1 refl
    (rw c.new-code.ensures at c.run_loaded-c.ensures)
