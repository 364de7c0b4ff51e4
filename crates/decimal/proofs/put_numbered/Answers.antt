use Rattle.decimal.specs.DecimalLaws.{wrote_then}
use Rattle.decimal.specs.Decimal.{numbered}
use Rattle.decimal.proofs.put_numbered.Goals as goal

pub returns : goal.returns
unfolding numbered
returns c =
    wrote_then c.put_bytes-next.ensures c.put_decimal.ensures
