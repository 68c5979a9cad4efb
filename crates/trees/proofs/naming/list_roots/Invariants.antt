-- `list_roots` lists the roots. The loop keeps `Noting`.
use Rattle.trees.proofs.Roots.{Noting}
use Rattle.trees.proofs.naming.list_roots.Given as goal

abbrev pub invariant-loop-i : goal.invariant-loop-i
invariant-loop-i l = Noting l.table l.chain l.roots l.count l.i
