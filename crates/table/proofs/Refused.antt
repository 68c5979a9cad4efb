-- Laws of answers that may be refused: a refusal has a number, and is passed on as it is.
use mathlib.Core.Path.{◌≡◌, ap}
use native.Mathlib.Omega.{arith}
use Rattle.std.specs.Prelude.{Result, Ok, Err, IsErrAnd}
use Rattle.table.specs.declared.Refusal.{Refusal}
use Rattle.table.specs.declared.Refusal.TheVariants.{Length, Head, Chain, Links, Trees, Placements, Pitch, FreeChain, Place, NoneFree, Held}
use Rattle.table.specs.Cause.{number_of}

pub some_number : (r : Refusal) → number_of r ≡ 0 → ⊥
some_number Length e = omega arith
some_number Head e = omega arith
some_number Chain e = omega arith
some_number Links e = omega arith
some_number Trees e = omega arith
some_number Placements e = omega arith
some_number Pitch e = omega arith
some_number FreeChain e = omega arith
some_number Place e = omega arith
some_number NoneFree e = omega arith
some_number Held e = omega arith

-- What `?` answers of a refusal.
pub passed_on : {A : Type 0} (r : Result A Refusal) (e : Refusal) → IsErrAnd r (λ x. x ≡ e) → r ≡ Err e
passed_on (Ok a) e h = absurd h
passed_on (Err x) e h = ap Err h
