-- `along`: no line, the line sought, a line passed. Rests on Passing.
use Rattle.pen.proofs.Passing.{no_line, found, passed}
use Rattle.pen.proofs.lines.along.Goals as goal

pub returns-then-child-eq0 : goal.returns-then-child-eq0
returns-then-child-eq0 c = λ rest. no_line _ rest _ _ c.if-child-eq0.true

pub returns-then-skip-eq0 : goal.returns-then-skip-eq0
returns-then-skip-eq0 c = λ rest. found _ rest _ _ c.if-child-eq0.false c.if-skip-eq0.true

pub returns : goal.returns
returns c = λ rest. passed _ rest _ _ c.if-child-eq0.false c.if-skip-eq0.false
