-- `go_out`: the level is reached, and the lines that are neighbours now are side by side. Rests on Steps.
use borrow.Author.Rules.{rules}
use native.Mathlib.Omega.{arith}
use Rattle.neighbours.specs.inner.Abreast.{Replaced}
use Rattle.neighbours.proofs.Steps.{abreast_out}
use Rattle.neighbours.proofs.abreast.Front.go_out.Goals as goal

pub returns-clause-reached : goal.returns-clause-reached
returns-clause-reached c = λ z i t h out.
    let s = c.args.self.now in
    let r : Replaced 0 s.count c.args.from c.args.to 0 s.places.now c.copy_within.new.self = search rules in
    abreast_out s.onward out (omega arith) h r (c.beside_last.ensures z)
