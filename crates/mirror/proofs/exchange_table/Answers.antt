-- `exchange_table`: the records that the loop has passed are done. Rests on Loops.
use native.Mathlib.Omega.{arith}
use Rattle.mirror.proofs.Loops.{listed, done_more, done_all}
use Rattle.mirror.proofs.exchange_table.Goals as goal

pub exchange_links-requires : goal.exchange_links-requires
exchange_links-requires c = omega (arith, c.requires _ (listed _ c.loop-k-test.true c.from.ensures))

pub loop-k-preserved : goal.loop-k-preserved
loop-k-preserved c = done_more c.loop-k-test.true c.loop-k.invariant c.from.ensures c.exchange_links.ensures

pub returns : goal.returns
returns c = done_all (omega arith) c.loop-k.invariant
