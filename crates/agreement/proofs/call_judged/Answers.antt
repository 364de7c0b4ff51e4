use Rattle.parsing.specs.VerdictLaws.{joined_answers}
use Rattle.agreement.specs.Sides.{call_verdict}
use Rattle.agreement.proofs.call_judged.Goals as goal

pub returns : goal.returns
unfolding call_verdict
returns c =
    joined_answers c.start_checked.result c.or_else-rest.result c.or_else.result c.start_checked.ensures
    (joined_answers c.arguments_checked.result c.or_else-memory.result c.or_else-rest.result c.arguments_checked.ensures
    (joined_answers c.room_checked.result c.or_else-words.result c.or_else-memory.result c.room_checked.ensures
    (joined_answers c.words_checked.result c.words_checked-2.result c.or_else-words.result c.words_checked.ensures
    c.words_checked-2.ensures c.or_else-words.ensures) c.or_else-memory.ensures) c.or_else-rest.ensures) c.or_else.ensures
