use Rattle.parsing.specs.VerdictLaws.{joined_answers}
use Rattle.target_parts.specs.Parts.{level_verdict}
use Rattle.target_parts.proofs.parts.level_checked.Goals as goal

pub returns : goal.returns
unfolding level_verdict
returns c =
    joined_answers c.refused_unless.result c.refused_unless-2.result c.or_else.result c.refused_unless.ensures c.refused_unless-2.ensures c.or_else.ensures
