use mir.Facts.{to_z-of_z}
use mir.Syntax.{w32}
use mir.Val.{SFits}
use Rattle.decimal.specs.DecimalLaws.{wrote_as, wrote_then}
use Rattle.text.specs.TextLaws.{end_value, end_uncaught}
use borrow.Author.Rules.{rules}
use Rattle.text.proofs.put_end.Goals as goal

pub returns-in-Value : goal.returns-in-Value
returns-in-Value c =
    let f : SFits w32 c.in-Value.v = search rules in
    wrote_as (end_value c.args.version c.args.e _ _ c.in-Value.is (to_z-of_z f)) (wrote_then c.put_bytes-next.ensures c.put_signed.ensures)

pub returns-in-Uncaught : goal.returns-in-Uncaught
returns-in-Uncaught c =
    let f : SFits w32 c.in-Uncaught.n = search rules in
    wrote_as (end_uncaught c.args.version c.args.e _ _ c.in-Uncaught.is (to_z-of_z f)) (wrote_then c.put_bytes-next-in-Uncaught.ensures c.put_raised.ensures)
