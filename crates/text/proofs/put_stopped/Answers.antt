use Rattle.decimal.specs.DecimalLaws.{wrote_as}
use Rattle.text.specs.Text.{stop_text}
use Rattle.text.specs.TextLaws.{stopped_as_lem}
use Rattle.text.proofs.put_stopped.Goals as goal

pub returns-in-Ended : goal.returns-in-Ended
unfolding stop_text
returns-in-Ended c =
    wrote_as (stopped_as_lem _ _ _ c.in-Ended.is) c.put_end.ensures

pub returns-in-Spent : goal.returns-in-Spent
unfolding stop_text
returns-in-Spent c =
    wrote_as (stopped_as_lem _ _ _ c.in-Spent.is) c.put_bytes.ensures

pub returns-in-Deep : goal.returns-in-Deep
unfolding stop_text
returns-in-Deep c =
    wrote_as (stopped_as_lem _ _ _ c.in-Deep.is) c.put_bytes-in-Deep.ensures
