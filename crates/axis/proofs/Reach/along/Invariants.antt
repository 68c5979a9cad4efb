-- `Reach::along`: the sum is at most 65,535 for each line passed.
use Prim.Native.Nat.{◌≤◌, ◌*◌}
use Rattle.axis.proofs.Reach.along.Given as goal

abbrev pub invariant-loop-line : goal.invariant-loop-line
invariant-loop-line l = l.reach.sum ≤ 65535 * l.line-index
