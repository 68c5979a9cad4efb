-- `text::lines::put_nodes` meets its contract: what is left of the chain is written behind what was written. Assumes nothing.
use Prim.Native.Nat.{◌-◌}
use Rattle.text.proofs.Nodes.{Going}
use Rattle.text.proofs.lines.put_nodes.Given as goal

abbrev pub invariant-loop : goal.invariant-loop
invariant-loop l = Going l.table l.placements l.initial.writer l.writer (l.nodes - l.counter) l.k
