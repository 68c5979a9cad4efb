-- The loop has set the parents of the children of the nodes that it has passed. Rests on Upward, and on the laws of a listed chain.
use lib.ListN.{length-set}
use Rattle.table.specs.Table.{left, right}
use Rattle.records.proofs.Nodes.{node_below}
use Rattle.parents.proofs.Upward.{upward_by, upward_all, link_fits_by}
use native.Mathlib.Omega.{arith}
use Rattle.parents.proofs.find_parents.Goals as goal

pub left-requires : goal.left-requires
left-requires c = omega (arith, c.from-k.ensures, node_below c.args.forest.listed c.loop-node.node-index)

pub bounds-up-left : goal.bounds-up-left
bounds-up-left c =
    omega (arith, link_fits_by c.args.forest.listed left c.loop-node-test.true c.from-k.ensures c.left.ensures.0, c.loop-node.invariant.long)

pub right-requires : goal.right-requires
right-requires c = omega (arith, c.from-k.ensures, node_below c.args.forest.listed c.loop-node.node-index)

pub bounds-up-right : goal.bounds-up-right
bounds-up-right c =
    simp length-set
    (omega (arith, link_fits_by c.args.forest.listed right c.loop-node-test.true c.from-k.ensures c.right.ensures.0, c.loop-node.invariant.long))

pub loop-node-preserved : goal.loop-node-preserved
loop-node-preserved c =
    upward_by c.args.forest.listed c.loop-node-test.true c.loop-node.invariant c.from-k.ensures c.left.ensures.0 c.right.ensures.0

pub returns : goal.returns
returns c = upward_all c.args.forest.listed c.loop-node-test.false c.loop-node.invariant
