-- `from_ends`: each coordinate has its sixteen bits. Rests on Numbers.
use Rattle.line.proofs.Numbers.{made_of}
use Rattle.line.proofs.from_ends.Goals as goal

pub returns : goal.returns
returns c = let p = c.number-2.ensures in let q = c.number.ensures in made_of _ _ _ _ q.0 p.0 p.1 p.2 q.2
