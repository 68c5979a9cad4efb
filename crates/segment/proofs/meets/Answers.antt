-- `segment::meets` meets its contract.
use Rattle.std.proofs.lemmas.Grind.{common_steps}
use native.Mathlib.Omega.{arith}
use Rattle.segment.proofs.SharedPoint.{meets}
use Rattle.segment.proofs.Answers.{shares}
use Rattle.segment.proofs.meets.Goals as goal

pub returns-then-astride : goal.returns-then-astride
unfolding meets
returns-then-astride c = shares (grind (arith, common_steps))

pub returns-else-astride : goal.returns-else-astride
unfolding meets
returns-else-astride c = shares (grind (arith, common_steps))
