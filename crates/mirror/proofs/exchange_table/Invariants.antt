-- `exchange_table`: the records that the loop has passed are done.
use Rattle.mirror.specs.Exchanged.{exchange_links}
use Rattle.mirror.proofs.Loops.{Done}
use Rattle.mirror.proofs.exchange_table.Given as goal

abbrev pub invariant-loop-k : goal.invariant-loop-k
invariant-loop-k l = Done exchange_links l.list l.initial.table l.table l.k-index
