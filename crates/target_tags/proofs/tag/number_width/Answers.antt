use Rattle.target_tags.specs.TagLaws.{width_two, width_other}
use Rattle.target_tags.proofs.tag.number_width.Goals as goal

pub returns-then-version_of-eq2 : goal.returns-then-version_of-eq2
returns-then-version_of-eq2 c = width_two c.version_of.ensures c.if-version_of-eq2.true

pub returns : goal.returns
returns c = width_other c.version_of.ensures c.if-version_of-eq2.false
