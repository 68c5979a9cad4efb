-- The quarter of the product.
use mathlib.Core.Path.{ap, ◌∙◌}
use Prim.Native.Nat.{ℕ}
use Rattle.pen.specs.Quarter.{quarter_of}
use Rattle.pen.proofs.points.coordinate.Goals as goal

pub returns : goal.returns
returns c = c.quarter.ensures ∙ ap (λ (n : ℕ). (quarter_of n).float) c.product.ensures.0
