-- `Walk::inwards` meets its contract: there are so many columns from the edge of its hand.
use mathlib.Core.Path.{ap}
use Rattle.roles.specs.Chosen.{side_of}
use Rattle.drawing.proofs.Columns.{inwards_right, inwards_left}
use Rattle.drawing.proofs.place.Walk.inwards.Goals as goal

pub returns-in-Left : goal.returns-in-Left
returns-in-Left c = let h = inwards_left _ _ _ (ap side_of c.in-Left.is) c.requires in (h.1, h.0)

pub returns-in-Right : goal.returns-in-Right
returns-in-Right c = (inwards_right _ _ _ (ap side_of c.in-Right.is) c.requires).1
