-- The loop has set the parents of the children of the nodes that it has passed. Rests on Upward.
use Rattle.parents.proofs.Upward.{Upward}
use Rattle.parents.proofs.find_parents.Given as goal

abbrev pub invariant-loop-node : goal.invariant-loop-node
invariant-loop-node l = Upward l.forest.table.now l.forest.nodes.now l.up l.node-index
