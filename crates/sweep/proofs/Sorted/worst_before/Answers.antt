-- `Sorted::worst_before`: from the line before it downwards. Rests on Grades.
use native.Mathlib.Omega.{arith}
use Prim.Native.Nat.{◌-◌, ◌<◌}
use Rattle.sweep.proofs.Grades.{from_more, from_ended, worse_at, ends_apart}
use Rattle.sweep.proofs.Sorted.worst_before.Goals as goal

pub returns-then-last-first : goal.returns-then-last-first
returns-then-last-first c =
    let l = c.loop-j in (
      omega arith,
      from_ended {j = l.j - 1} c.args.self.onward c.args.self.ascending c.requires (omega arith) (omega arith)
          (omega arith) l.invariant,
    )

pub worse_with-worst-requires-clause-ends_apart : goal.worse_with-worst-requires-clause-ends_apart
worse_with-worst-requires-clause-ends_apart c =
    let below : c.loop-j.j - 1 < c.args.i = omega (arith, c.loop-j-test.true) in
    ends_apart _ _ c.start-p.ensures c.end-q.ensures c.start.ensures c.end.ensures
    (omega (arith, c.if-last-first.false, c.first.ensures, c.last.ensures))
    (c.args.self.onward.onward (c.loop-j.j - 1) (omega (arith, below, c.requires)))
    (c.args.self.ascending.rises (c.loop-j.j - 1) c.args.i below c.requires)

pub loop-j-preserved : goal.loop-j-preserved
loop-j-preserved c = from_more (omega arith) (omega arith) c.loop-j.invariant
    (worse_at c.start.ensures c.end.ensures c.start-p.ensures c.end-q.ensures c.worse_with-worst.ensures)
