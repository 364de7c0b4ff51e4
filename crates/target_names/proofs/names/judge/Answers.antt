use Rattle.target_names.specs.Names.{judged}
use Rattle.target_names.specs.NamesLaws.{judged_right}
use Rattle.target_names.proofs.names.judge.Goals as goal

pub returns-then-names : goal.returns-then-names
returns-then-names c =
    judged_right _ _ _ _ _ _ c.if-names.true c.slots_of.ensures c.names_of.ensures

pub returns : goal.returns
unfolding judged
returns c = rw c.if-names.false
