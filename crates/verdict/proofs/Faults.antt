-- A fault has a number.
use mathlib.Core.Path.{◌≡◌}
use native.Mathlib.Omega.{arith}
use Rattle.verdict.specs.declared.Fault.{Fault}
use Rattle.verdict.specs.declared.Fault.TheVariants.{SamePoint, ChildAbove, LinesCross, Clashing, OutOfOrder}
use Rattle.verdict.specs.Fault.{number_of}

pub some_number : (f : Fault) → number_of f ≡ 0 → ⊥
some_number SamePoint e = omega arith
some_number ChildAbove e = omega arith
some_number LinesCross e = omega arith
some_number Clashing e = omega arith
some_number OutOfOrder e = omega arith
