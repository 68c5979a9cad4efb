-- `pen_at`: the pen point of the record's column and row.
use mathlib.Core.Path.{ap, ◌∙◌}
use Rattle.segment.specs.declared.Point.{Point}
use Rattle.pen.specs.declared.points.PenPoint.{PenPoint}
use Rattle.pen.specs.Quarter.{quarter_of}
use Prim.Native.Nat.{ℕ, ◌*◌}
use Rattle.pen.proofs.points.pen_at.Goals as goal

-- The pen point of a point.
penOf : ℕ → Point → PenPoint
penOf pitch P = record { x = (quarter_of (P.column * pitch)).float; y = (quarter_of (P.row * pitch)).float }

pub returns : goal.returns
unfolding penOf
returns c = c.point_of.ensures ∙ ap (penOf _) c.point-at.ensures
