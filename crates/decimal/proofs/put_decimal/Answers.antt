use Rattle.decimal.specs.Decimal.{decimal}
use Rattle.decimal.proofs.put_decimal.Goals as goal

pub returns : goal.returns
unfolding decimal
returns c = c.put_digits.ensures
