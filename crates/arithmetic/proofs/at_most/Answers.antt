use borrow.Author.Rules.{rules}
use Rattle.semantics.specs.Value.{at_most}
use Rattle.arithmetic.proofs.at_most.Goals as goal

pub returns : goal.returns
unfolding at_most
returns c = search rules
