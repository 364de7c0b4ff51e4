use Rattle.parsing.specs.VerdictLaws.{joined_answers}
use Rattle.translator.specs.Translated.{room_verdict}
use Rattle.translator.proofs.room_checked.Goals as goal

pub returns : goal.returns
unfolding room_verdict
returns c =
    joined_answers c.refused_unless.result c.refused_unless-2.result c.or_else.result c.refused_unless.ensures
    c.refused_unless-2.ensures c.or_else.ensures
