use Rattle.bench_step.specs.StepLaws.{goto_named, goto_safe, goto_done}
use Rattle.bench_step.proofs.step.goto_step.Goals as goal

pub entered-requires : goal.entered-requires
entered-requires c =
    rw c.table-table.ensures.value (record { f_in_bounds = goto_safe c.table-table.ensures.right c.requires.standing (goto_named c.requires.at_value c.from-l.ensures) })

pub returns : goal.returns
returns c =
    goto_done c.table-table.ensures.right c.requires.standing (goto_named c.requires.at_value c.from-l.ensures) (rw c.table-table.ensures.value at c.entered.ensures)
