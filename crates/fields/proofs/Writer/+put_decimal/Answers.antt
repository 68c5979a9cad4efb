-- `fields::Writer::put_decimal` meets its contract; the number falls to a tenth.
use Rattle.std.proofs.Common.{arith}
use Rattle.fields.proofs.Decimal.{length_one, length_more}
use Rattle.fields.proofs.Puts.{put_length, put_one, put_more}
use Rattle.fields.proofs.Writer.+put_decimal.Goals as goal

pub put_digit-requires-clause-room : goal.put_digit-requires-clause-room
put_digit-requires-clause-room t c = omega (arith, length_one c.args.n c.if-n-lt10.true)

pub put_decimal-requires : goal.put_decimal-requires
put_decimal-requires t c = (omega arith, omega (arith, length_more c.args.n c.if-n-lt10.false))

pub put_digit-requires-2-clause-room : goal.put_digit-requires-2-clause-room
put_digit-requires-2-clause-room t c =
    omega (arith, length_more c.args.n c.if-n-lt10.false, c.put_decimal.ensures.place, put_length c.put_decimal.ensures)

pub returns-then-n-lt10 : goal.returns-then-n-lt10
returns-then-n-lt10 t c = put_one c.if-n-lt10.true c.put_digit.ensures

pub returns : goal.returns
returns t c = put_more c.if-n-lt10.false c.put_decimal.ensures c.put_digit-2.ensures
