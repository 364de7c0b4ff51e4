use Rattle.target_tags.specs.TagLaws.{slots_two, slots_other}
use Rattle.target_tags.proofs.tag.slots_of.Goals as goal

pub returns-then-version_of-eq2 : goal.returns-then-version_of-eq2
returns-then-version_of-eq2 c = slots_two c.version_of.ensures c.if-version_of-eq2.true

pub returns : goal.returns
returns c = slots_other c.version_of.ensures c.if-version_of-eq2.false
