use Rattle.parsing.specs.VerdictLaws.{joined_answers}
use Rattle.merge.specs.Merged.{size_verdict}
use Rattle.merge.proofs.size_checked.Goals as goal

pub returns : goal.returns
unfolding size_verdict
returns c =
    joined_answers c.refused_unless-3.result c.or_else-bytes.result c.or_else.result c.refused_unless-3.ensures
    (joined_answers c.refused_unless.result c.refused_unless-2.result c.or_else-bytes.result c.refused_unless.ensures
    c.refused_unless-2.ensures c.or_else-bytes.ensures) c.or_else.ensures
