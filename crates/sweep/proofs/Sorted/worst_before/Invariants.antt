-- `Sorted::worst_before`: from the line before it downwards. Rests on Grades.
use Rattle.sweep.specs.inner.Meetings.{WorstFrom}
use Rattle.sweep.proofs.Sorted.worst_before.Given as goal

abbrev pub invariant-loop-j : goal.invariant-loop-j
invariant-loop-j l = WorstFrom l.j l.i l.self.lines.now l.initial.worst l.worst
