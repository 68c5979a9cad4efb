-- `starting`: each line on the way starts at the level.
use Rattle.neighbours.specs.inner.Abreast.{Starting}
use Rattle.neighbours.proofs.abreast.Front.starting.Given as goal

abbrev pub invariant-loop-place : goal.invariant-loop-place
invariant-loop-place l = Starting l.from l.place l.level l.self.lines.now l.self.places.now
