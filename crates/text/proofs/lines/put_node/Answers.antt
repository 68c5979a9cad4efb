-- `text::lines::put_node` meets its contract. Assumes nothing.
use native.Mathlib.Omega.{arith}
use Rattle.fields.proofs.Decimal.{length_short}
use Rattle.fields.proofs.Puts.{put_length}
use Rattle.text.proofs.Nodes.{put_node}
use Rattle.text.proofs.lines.put_node.Goals as goal

pub put_decimal-requires : goal.put_decimal-requires
put_decimal-requires c = omega (arith, length_short c.args.k c.requires.k_bound.1)

pub put_fields-requires : goal.put_fields-requires
put_fields-requires c = omega (arith, length_short c.args.k c.requires.k_bound.1, put_length c.put_decimal.ensures)

pub returns-clause-put : goal.returns-clause-put
returns-clause-put c =
    put_node c.args.table.now c.args.placements.now _ _ c.point-place.ensures c.tag.ensures.0 c.put_decimal.ensures c.put_fields.ensures.put

pub returns-clause-upper_bound : goal.returns-clause-upper_bound
returns-clause-upper_bound c = omega (arith, length_short c.args.k c.requires.k_bound.1)
