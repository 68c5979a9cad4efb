-- `segment::crosses` meets its contract.
use Rattle.std.proofs.lemmas.Grind.{common_steps}
use native.Mathlib.Omega.{arith}
use Rattle.segment.proofs.Crossing.{crosses}
use Rattle.segment.proofs.Answers.{crossed}
use Rattle.segment.proofs.crosses.Goals as goal

pub returns-then-astride : goal.returns-then-astride
unfolding crosses
returns-then-astride c = crossed (grind (arith, common_steps))

pub returns-else-astride : goal.returns-else-astride
unfolding crosses
returns-else-astride c = crossed (grind (arith, common_steps))
