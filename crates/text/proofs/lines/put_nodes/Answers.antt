-- `text::lines::put_nodes` meets its contract: what is left of the chain is written behind what was written. Assumes nothing.
use mathlib.Core.Path.{◌≡◌}
use Prim.Native.Nat.{◌+◌, ◌-◌}
use native.Mathlib.Omega.{arith}
use Rattle.table.proofs.Accepted.{refusal_none, records_bounds}
use Rattle.text.proofs.Nodes.{going_start, going_here, going_next, going_end}
use Rattle.text.proofs.lines.put_nodes.Goals as goal

pub next-k-requires : goal.next-k-requires
next-k-requires c = omega (arith, records_bounds c.args.table.now ((refusal_none c.args.table.now _).0 c.requires.placements_value).0)

pub loop-init : goal.loop-init
loop-init c =
    going_start _ _ c.requires.placements_value (omega (arith, c.requires.nodes_value)) (omega (arith, c.requires.room)) c.next-k.ensures.0
    c.next-k.ensures.1

pub put_node-requires : goal.put_node-requires
put_node-requires c =
    let g = c.loop.invariant in
    let h = going_here _ _ g (omega arith) in
    record { k_bound = (h.0, g.small); k_in_bounds = h.1; room = omega (arith, g.room) }

pub next-k-requires-in-loop : goal.next-k-requires-in-loop
next-k-requires-in-loop c = (going_here _ _ c.loop.invariant (omega arith)).0

pub loop-preserved : goal.loop-preserved
loop-preserved c =
    let e : c.args.nodes - c.loop.counter - 1 ≡ c.args.nodes - (c.loop.counter + 1) = omega arith in
    rw e at (going_next _ _ c.loop.invariant (omega arith) c.put_node.ensures.put c.put_node.ensures.upper_bound c.next-k-in-loop.ensures.0
    c.next-k-in-loop.ensures.1)

pub returns : goal.returns
returns c = let g = c.loop.invariant in record {
  put = going_end _ _ g (omega arith);
  upper_bound = omega (arith, g.room, g.same);
}
