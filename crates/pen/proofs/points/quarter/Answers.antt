-- A number below 2^24 is a float exactly, and so is its quarter. Rests on Exact.
use native.Mathlib.Omega.{arith}
use lib.Ieee.{of_bits}
use Rattle.pen.proofs.Exact.{quartered}
use Rattle.pen.proofs.points.quarter.Goals as goal

pub returns : goal.returns
unfolding of_bits
returns c = rw c.from.ensures (quartered c.args.product (omega arith))
