-- `fields::Writer::put_decimal` meets its contract; the number falls to a tenth.
use Rattle.fields.proofs.Writer.+put_decimal.Given as goal

abbrev pub decreases-put_decimal : goal.decreases-put_decimal
decreases-put_decimal l = l.n
