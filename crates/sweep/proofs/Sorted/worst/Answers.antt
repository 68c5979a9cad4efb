-- `Sorted::worst`: line by line; all that 4,097 lines can need is never spent. Rests on Grades.
use native.Mathlib.Omega.{arith}
use Rattle.sweep.proofs.Grades.{worst_more}
use Rattle.sweep.proofs.Sorted.worst.Goals as goal

pub loop-i-preserved : goal.loop-i-preserved
loop-i-preserved c = (omega arith, omega arith, worst_more c.loop-i.invariant.2 c.worst_before-found.ensures.1)
