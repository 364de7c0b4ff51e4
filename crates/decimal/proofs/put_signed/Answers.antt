use Rattle.decimal.specs.DecimalLaws.{sign_of, wrote_as, wrote_then, signed_minus, signed_plus}
use mathlib.Core.Path.{ap, ◌∙◌}
use lib.IntN.{nat_abs}
use mir.Facts.{to_z-of_z}
use Rattle.decimal.proofs.put_signed.Goals as goal

pub returns-then-v-lt0 : goal.returns-then-v-lt0
returns-then-v-lt0 c =
    wrote_as (signed_minus c.args.v _ (c.magnitude-n.ensures ∙ ap nat_abs (to_z-of_z c.ranges.v)) (sign_of c.args.v _ c.ranges.v c.if-v-lt0.true))
    (wrote_then c.put_bytes-next.ensures c.put_decimal.ensures)

pub returns : goal.returns
returns c =
    wrote_as (signed_plus c.args.v _ (c.magnitude-n.ensures ∙ ap nat_abs (to_z-of_z c.ranges.v)) (sign_of c.args.v _ c.ranges.v c.if-v-lt0.false))
    c.put_decimal-2.ensures
