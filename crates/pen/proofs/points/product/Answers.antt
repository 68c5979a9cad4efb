-- A 16-bit number times an 8-bit one is below 2^24.
use Prim.Native.Nat.{ℕ, ◌*◌, ◌^◌, ◌≤◌, ◌<◌}
use native.Mathlib.Nat.{mul-le-mul_right}
use native.Mathlib.Omega.{arith}
use Rattle.pen.proofs.points.product.Goals as goal

below : (place pitch : ℕ) → place < 2 ^ 16 → pitch < 2 ^ 8 → place * pitch < 2 ^ 24
below place pitch h k = let l : place * pitch ≤ 65535 * pitch = mul-le-mul_right pitch (omega arith) in omega arith

pub overflow_mul-result : goal.overflow_mul-result
overflow_mul-result c = record { fits = omega (arith, below c.from.result c.from-2.result (omega arith) (omega arith)) }

pub returns : goal.returns
returns c = (rw (c.from.ensures, c.from-2.ensures), below c.from.result c.from-2.result (omega arith) (omega arith))
