use native.Mathlib.Omega.{arith}
use mir.Facts.{to_z-of_z}
use Rattle.decimal.specs.DecimalLaws.{wrote_as, wrote_then}
use Rattle.text.specs.TextLaws.{raised_printed, raised_omitted, wrote_none}
use Rattle.text.proofs.put_raised.Goals as goal

pub returns-then-version-eq2 : goal.returns-then-version-eq2
returns-then-version-eq2 c =
    wrote_as (raised_printed c.args.version c.args.number _ c.if-version-eq2.true (to_z-of_z c.ranges.number)) (wrote_then c.put_bytes-next.ensures c.put_signed.ensures)

pub returns : goal.returns
returns c =
    wrote_as (raised_omitted c.args.version c.args.number c.if-version-eq2.false) (wrote_none (omega arith))
