-- `worse_with`: a line that is beside another is apart from it. Rests on Grades.
use Rattle.sweep.proofs.Grades.{beside_apart, worse_apart}
use Rattle.sweep.proofs.meeting.worse_with.Goals as goal

pub returns-then-beside : goal.returns-then-beside
returns-then-beside c = let a = c.requires.columns in worse_apart _ (beside_apart a.0 a.1 (c.beside.ensures c.if-beside.true))
