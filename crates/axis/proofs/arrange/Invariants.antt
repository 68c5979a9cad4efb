-- `arrange`: line by line. Rests on Arranging.
use Rattle.axis.proofs.Arranging.{Arranging}
use Rattle.axis.proofs.arrange.Given as goal

abbrev pub invariant-loop-line : goal.invariant-loop-line
invariant-loop-line l = Arranging l.across l.line-index l.initial.lines l.lines
