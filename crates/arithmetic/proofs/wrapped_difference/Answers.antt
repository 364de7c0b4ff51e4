use Rattle.std.proofs.Common.{◌-ℤ◌, ◌∙◌}
use Rattle.std.proofs.lemmas.Int.{wrapping_sub_is}
use Rattle.std.specs.Int.{w32}
use Rattle.semantics.specs.Value.{minus}
use Rattle.arithmetic.specs.WrapLaws.{wrap_same}
use Rattle.arithmetic.proofs.wrapped_difference.Goals as goal

pub returns : goal.returns
unfolding minus
returns c = let a = c.args in wrapping_sub_is w32 a.y a.z c.ranges.y c.ranges.z ∙ wrap_same (a.y -ℤ a.z)
