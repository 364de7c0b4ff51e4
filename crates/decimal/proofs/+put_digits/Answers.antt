use Rattle.std.proofs.Common.{arith, refl}
use Rattle.decimal.specs.DecimalLaws.{wrote_as, wrote_then, wrote_room, digits_last, digits_one, digits_more, length_digits}
use Rattle.decimal.proofs.+put_digits.Goals as goal

pub returns-then-k-eq0 : goal.returns-then-k-eq0
returns-then-k-eq0 t c = wrote_as (digits_last c.args.k c.args.n (omega arith)) c.put_digit.ensures

pub returns-then-n-lt10 : goal.returns-then-n-lt10
returns-then-n-lt10 t c =
    wrote_as (digits_one c.args.k c.args.n (omega arith) (omega arith)) c.put_digit-then-n-lt10.ensures

pub put_digit-requires-2 : goal.put_digit-requires-2
put_digit-requires-2 t c =
    let room = wrote_room _ 1 c.put_digits-next.ensures (length_digits _ _) (omega arith) in (omega arith, omega arith)

pub returns : goal.returns
returns t c =
    wrote_as (digits_more c.args.k _ c.args.n (omega arith) refl (omega arith)) (wrote_then c.put_digits-next.ensures c.put_digit-2.ensures)
