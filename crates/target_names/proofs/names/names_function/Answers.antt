use Rattle.target_names.specs.Names.{function}
use Rattle.target_names.proofs.names.names_function.Goals as goal

pub returns : goal.returns
unfolding function
returns c = c.refused_unless.ensures
