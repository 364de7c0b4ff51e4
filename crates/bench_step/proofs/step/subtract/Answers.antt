use Rattle.std.proofs.Common.{refl, rules, to_z-of_z, ◌∙◌}
use Rattle.std.specs.Int.{w32}
use Rattle.bench_step.specs.StepLaws.{difference_done, difference_raises}
use Rattle.bench_step.proofs.step.subtract.Goals as goal

pub returns-then-difference_fits : goal.returns-then-difference_fits
returns-then-difference_fits c =
    difference_done c.requires.file_invariant c.requires.standing c.requires.at_value c.index-then-difference_fits.ensures c.index.ensures c.index-2.ensures
    (to_z-of_z {w = w32} (search rules)) (to_z-of_z {w = w32} (search rules)) c.difference_fits.ensures c.if-difference_fits.true
    (to_z-of_z {w = w32} (record { sfits = c.wrapped_difference.type_inv }) ∙ c.wrapped_difference.ensures) refl

pub returns : goal.returns
returns c = (
  difference_raises c.requires.file_invariant c.requires.standing c.requires.at_value c.index.ensures c.index-2.ensures
      (to_z-of_z {w = w32} (search rules)) (to_z-of_z {w = w32} (search rules)) c.difference_fits.ensures c.if-difference_fits.false,
  refl,
)
