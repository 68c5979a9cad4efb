-- `roles::sides::Side::other` meets its contract.
use Rattle.layout.specs.Spine.{opposite}
use Rattle.roles.proofs.sides.Side.other.Goals as goal

pub returns-in-Left : goal.returns-in-Left
unfolding opposite
returns-in-Left c = rw c.in-Left.is

pub returns-in-Right : goal.returns-in-Right
unfolding opposite
returns-in-Right c = rw c.in-Right.is
