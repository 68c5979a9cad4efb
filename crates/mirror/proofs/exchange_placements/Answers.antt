-- `exchange_placements`: the records that the loop has passed are done. Rests on Loops.
use native.Mathlib.Omega.{arith}
use Rattle.mirror.proofs.Loops.{listed, done_more, done_all}
use Rattle.mirror.proofs.exchange_placements.Goals as goal

pub exchange_point-requires : goal.exchange_point-requires
exchange_point-requires c = omega (arith, c.requires _ (listed _ c.loop-k-test.true c.from.ensures))

pub loop-k-preserved : goal.loop-k-preserved
loop-k-preserved c = done_more c.loop-k-test.true c.loop-k.invariant c.from.ensures c.exchange_point.ensures

pub returns : goal.returns
returns c = done_all (omega arith) c.loop-k.invariant
