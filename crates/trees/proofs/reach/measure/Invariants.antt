-- `measure` fills the sizes. The loop keeps those of the nodes passed.
use Prim.Native.Nat.{◌-◌}
use lib.ListN.{length, drop}
use Rattle.trees.specs.inner.Steps.{Filled}
use Rattle.trees.proofs.reach.measure.Given as goal

abbrev pub invariant-loop-node : goal.invariant-loop-node
invariant-loop-node l = Filled l.table (drop (length l.order - length l.yielded) l.order) l.sizes
