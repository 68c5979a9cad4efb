-- `measure` fills the sizes. The loop keeps those of the nodes passed.
use Rattle.std.proofs.lemmas.Iterator.Adapters.{YieldsList-from_rev_slice}
use Rattle.std.proofs.lemmas.Iterator.Consumers.{YieldsList-turn}
use Rattle.std.proofs.lemmas.List.{length_push}
use Rattle.trees.proofs.Sizes.{fill_ready, fill_more}
use Rattle.trees.proofs.reach.measure.Goals as goal

pub fill-requires : goal.fill-requires
fill-requires c =
    let turn = YieldsList-turn (YieldsList-from_rev_slice c.args.order.now cc)
    c.loop-node.yielded _ c.loop-node.yielded_by _ _ _ c.in-Some.is c.next.ensures.steps in
    rw c.from.ensures (fill_ready _ _ c.requires.table_value c.requires.queued _ _ turn _ c.loop-node.invariant)

pub loop-node-preserved : goal.loop-node-preserved
loop-node-preserved c =
    let turn = YieldsList-turn (YieldsList-from_rev_slice c.args.order.now cc)
    c.loop-node.yielded _ c.loop-node.yielded_by _ _ _ c.in-Some.is c.next.ensures.steps in
    rw length_push
    (fill_more _ _ c.requires.table_value c.requires.queued _ _ turn _ c.loop-node.invariant _ (rw c.from.ensures at c.fill.ensures))
