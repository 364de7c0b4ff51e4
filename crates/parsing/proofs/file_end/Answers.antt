use Rattle.parsing.specs.Fields.{ended}
use Rattle.parsing.proofs.Cases.{cases}
use Rattle.parsing.proofs.file_end.Goals as goal

pub returns-then-at-file : goal.returns-then-at-file
unfolding ended
returns-then-at-file c = search cases

pub returns : goal.returns
unfolding ended
returns c = search cases
