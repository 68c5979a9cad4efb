-- `Sorted::worst`: line by line; all that 4,097 lines can need is never spent. Rests on Grades.
use Rattle.sweep.specs.inner.Meetings.{Worst}
use Prim.Native.Nat.{◌+◌, ◌*◌, ◌≤◌}
use Rattle.sweep.proofs.Sorted.worst.Given as goal

abbrev pub invariant-loop-i : goal.invariant-loop-i
invariant-loop-i l = (l.left ≤ l.budget + l.i * 10) × (l.budget ≤ l.left + l.i * 4097) × Worst l.i l.self.lines.now l.worst
