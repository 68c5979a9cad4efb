-- `fields::Writer::put_fields` meets its contract.
use Rattle.std.proofs.Common.{get_or, arith}
use Rattle.fields.proofs.Decimal.{length_short}
use Rattle.fields.proofs.Puts.{put_length, put_next, put_end}
use Rattle.fields.proofs.Writer.put_fields.Goals as goal

pub put_decimal-requires : goal.put_decimal-requires
put_decimal-requires c =
    let short = length_short (get_or c.args.numbers.now c.loop-n.n-index 0) (omega (arith, c.type_inv.numbers c.loop-n.n-index)) in
    omega (arith, put_length c.put_byte.ensures)

pub loop-n-preserved : goal.loop-n-preserved
loop-n-preserved c =
    let short = length_short (get_or c.args.numbers.now c.loop-n.n-index 0) (omega (arith, c.type_inv.numbers c.loop-n.n-index)) in record {
      place = omega arith;
      same_length = omega (arith, put_length c.put_byte.ensures, put_length c.put_decimal.ensures);
      rest = λ w p. c.loop-n.invariant.rest w (put_next _ _ c.loop-n-test.true c.put_byte.ensures c.put_decimal.ensures p);
    }

pub returns-clause-put : goal.returns-clause-put
returns-clause-put c = c.loop-n.invariant.rest _ (put_end _ _ c.loop-n-test.false c.put_byte-2.ensures)
