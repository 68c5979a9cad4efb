-- `come_in`: the level is reached, and the new line is beside its neighbours. Rests on Steps.
use native.Mathlib.Omega.{arith}
use Rattle.neighbours.proofs.Steps.{in_places, abreast_in}
use Rattle.neighbours.proofs.abreast.Front.come_in.Goals as goal

pub invariant_of-self : goal.invariant_of-self
invariant_of-self c =
    let s = c.args.self.now in
    record {
      onward = s.onward;
      places_of = in_places s.places_of c.requires.starting.onward (omega arith) (omega arith) (omega arith) c.replace.ensures;
    }

pub returns-then-beside_last-clause-reached : goal.returns-then-beside_last-clause-reached
returns-then-beside_last-clause-reached c = λ z.
    abreast_in c.args.self.now.onward c.requires.starting (omega arith) (omega arith) c.replace.ensures
    (c.beside_last-then-beside_last.ensures z) (c.beside_last.ensures c.if-beside_last.true)
