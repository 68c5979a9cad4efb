-- `spread` lists the nodes that are reached. The loop keeps `Spreading`.
use Prim.Native.Nat.{◌-◌}
use Rattle.trees.proofs.Order.{Spreading}
use Rattle.trees.proofs.reach.spread.Given as goal

abbrev pub invariant-loop-head : goal.invariant-loop-head
invariant-loop-head l = Spreading l.table l.order l.head l.tail

abbrev pub decreases-loop-head : goal.decreases-loop-head
decreases-loop-head l = 4097 - l.head
