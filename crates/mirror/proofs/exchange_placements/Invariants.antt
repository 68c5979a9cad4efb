-- `exchange_placements`: the records that the loop has passed are done.
use Rattle.mirror.specs.Exchanged.{exchange_point}
use Rattle.mirror.proofs.Loops.{Done}
use Rattle.mirror.proofs.exchange_placements.Given as goal

abbrev pub invariant-loop-k : goal.invariant-loop-k
invariant-loop-k l = Done exchange_point l.list l.initial.placements l.placements l.k-index
