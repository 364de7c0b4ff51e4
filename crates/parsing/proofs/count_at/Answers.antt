use Rattle.parsing.specs.Fields.{count}
use Rattle.parsing.proofs.Cases.{cases}
use Rattle.parsing.proofs.count_at.Goals as goal

pub returns-then-n-at : goal.returns-then-n-at
unfolding count
returns-then-n-at c = search cases

pub returns-then-k-low : goal.returns-then-k-low
unfolding count
returns-then-k-low c = search cases

pub returns-then-high-k : goal.returns-then-high-k
unfolding count
returns-then-high-k c = search cases

pub returns : goal.returns
unfolding count
returns c = search cases
