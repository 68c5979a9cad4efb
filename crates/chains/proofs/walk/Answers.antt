-- `walk` lists the records from one on and marks them, or is broken off. The loop keeps `Walk`.
use native.Mathlib.Omega.{arith}
use Rattle.chains.proofs.Walking.{walk_start, walk_end, walk_beyond, walk_twice, walk_step}
use Rattle.chains.proofs.walk.Goals as goal
use Rattle.chains.proofs.walk.Goals.{then-records-at-via-then-records-at, then-records-at-via-else-records-at+then-mark-at-ne0}

pub loop-at-init : goal.loop-at-init
loop-at-init c =
    walk_start _ _ _ _ c.requires.shaped (omega arith) c.requires.blank c.requires.first_bound

pub returns-then-records-at : goal.returns-then-records-at
returns-then-records-at c =
    elim c.then-records-at.branch [
      | then-records-at-via-then-records-at w ↦ walk_beyond _ _ _ _ _ _ c.loop-at.invariant c.loop-at-test.true (omega arith)
      | then-records-at-via-else-records-at+then-mark-at-ne0 w ↦ walk_twice _ _ _ _ _ _ c.loop-at.invariant c.loop-at-test.true w.if-mark-at-ne0.true
    ]

pub loop-at-preserved : goal.loop-at-preserved
loop-at-preserved c =
    rw c.next-at.ensures.0
    (walk_step _ _ _ _ _ _ c.loop-at.invariant c.loop-at-test.true c.requires.shaped
    (omega arith) (omega arith) (omega arith))

pub returns : goal.returns
returns c = walk_end _ _ _ _ _ _ c.loop-at.invariant c.requires.shaped c.loop-at-test.false
