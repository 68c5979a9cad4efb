-- `point_of`: a coordinate each of the column and of the row.
use Rattle.pen.proofs.points.point_of.Goals as goal

pub returns : goal.returns
returns c = λ i. record { x = c.coordinate.ensures i; y = c.coordinate-2.ensures i }
