-- `reaches` answers whether all nodes are reached, and then lists them.
use native.Mathlib.Omega.{arith}
use Rattle.trees.proofs.Reached.{ordered}
use Rattle.trees.proofs.reach.reaches.Goals as goal

pub returns : goal.returns
returns c =
    let a = c.spread-reached in
    let r = ordered _ a.new.order _ _ c.requires.rooted (omega arith) a.ensures c.requires.nodes_value in
    record { value = r.0; ordered = r.1 }
