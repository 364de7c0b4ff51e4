use Rattle.target_tags.specs.TagLaws.{number_inside, number_there, number_absent}
use Rattle.target_tags.proofs.tag.number_slot_at.Goals as goal

pub bounds-file-at : goal.bounds-file-at
bounds-file-at c =
    number_inside c.args.file.now c.args.at c.version_of.ensures c.if-version_of-eq2.true c.requires

pub returns-then-version_of-eq2 : goal.returns-then-version_of-eq2
returns-then-version_of-eq2 c =
    number_there _ _ c.version_of.ensures c.if-version_of-eq2.true c.from.ensures

pub returns : goal.returns
returns c = number_absent _ _ c.version_of.ensures c.if-version_of-eq2.false
