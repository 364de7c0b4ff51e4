use Rattle.decimal.specs.DecimalLaws.{wrote_one}
use Rattle.decimal.proofs.put_digit.Goals as goal

pub returns : goal.returns
returns c = wrote_one c.args.at _ c.args.out.now c.requires.0
