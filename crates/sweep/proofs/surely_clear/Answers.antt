-- `surely_clear`: lines without a clash meet in no worse way than apart. Rests on Seeing and Grades.
use Rattle.sweep.proofs.Grades.{worst_clear}
use Rattle.sweep.proofs.Seeing.{settled_seen, seen_worst}
use Rattle.sweep.proofs.surely_clear.Goals as goal

pub returns : goal.returns
returns c = let s = c.settle in
    record {
      clear = λ z. seen_worst s.auto.lines (settled_seen s.ensures) (worst_clear (c.clear.ensures z));
      seen = settled_seen s.ensures;
    }
