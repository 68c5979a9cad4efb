-- `spread` lists the nodes that are reached. The loop keeps `Spreading`.
use mathlib.Core.Path.{refl, sym, ap}
use native.Mathlib.Omega.{arith}
use lib.ListN.{length}
use lib.Seq.{length-take-le}
use Rattle.trees.proofs.Order.{roots_few, spread_start, spread_room, spread_step}
use Rattle.trees.proofs.reach.spread.Goals as goal

pub slice_bounds-copy_from_slice-end-2 : goal.slice_bounds-copy_from_slice-end-2
slice_bounds-copy_from_slice-end-2 c =
    let few = roots_few _ c.args.order.now c.requires.rooted in
    sym (length-take-le _ _ (omega (arith, ap length c.requires.roots_value)))

pub copy_from_slice-requires : goal.copy_from_slice-requires
copy_from_slice-requires c =
    let few = roots_few _ c.args.order.now c.requires.rooted in
    length-take-le _ _ (omega (arith, ap length c.requires.roots_value))

pub loop-head-init : goal.loop-head-init
loop-head-init c = rw c.copy_from_slice.ensures.after (spread_start _ _ c.requires.rooted _ c.requires.roots_value (omega arith))

pub push-tail-requires-clause-link_in_bounds : goal.push-tail-requires-clause-link_in_bounds
push-tail-requires-clause-link_in_bounds c =
    let m = spread_room _ _ c.requires.rooted _ _ c.loop-head.invariant c.loop-head-test.true _ c.from-node.ensures _ _ c.left.ensures.0 refl in
    omega arith

pub push-tail-requires-in-loop-head-clause-link_in_bounds : goal.push-tail-requires-in-loop-head-clause-link_in_bounds
push-tail-requires-in-loop-head-clause-link_in_bounds c =
    let m = spread_room _ _ c.requires.rooted _ _ c.loop-head.invariant c.loop-head-test.true _ c.from-node.ensures _ _ c.left.ensures.0 c.right.ensures.0 in
    omega arith

pub loop-head-preserved : goal.loop-head-preserved
loop-head-preserved c =
    spread_step _ _ c.requires.rooted _ _ c.loop-head.invariant c.loop-head-test.true _ c.from-node.ensures _ _ c.left.ensures.0 c.right.ensures.0
    _ _ _ _ c.push-tail.ensures.value c.push-tail.ensures.order_after c.push-tail-in-loop-head.ensures.value c.push-tail-in-loop-head.ensures.order_after
    (omega arith)
