use Rattle.std.proofs.Common.{◌-ℤ◌, ◌∙◌, ap₂, ap, to_z, of_z, ℤ, Option, SFits, subst}
use Rattle.std.proofs.Math.Facts.{to_z-of_z}
use Rattle.std.specs.Int.{w32}
use Rattle.std.specs.Option.{SomeIff}
use Rattle.semantics.specs.Value.{in_range}
use Rattle.arithmetic.specs.WrapLaws.{some_in_range}
use Rattle.arithmetic.proofs.difference_fits.Goals as goal

pub returns : goal.returns
returns c =
    let a = c.args in
    c.is_some.ensures ∙ some_in_range _ c.checked_sub.result c.checked_sub.ensures ∙ ap in_range (ap₂ (λ (y z : ℤ). y -ℤ z) (to_z-of_z c.ranges.y) (to_z-of_z c.ranges.z))
