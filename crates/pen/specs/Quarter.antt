-- Quarters of whole numbers as 64-bit floats (document 02, Paper 2). A float that is a number is m · 2^e with a sign (the kit's lib.Ieee).
use Rattle.std.specs.Prelude.{false, ℕ, Float}
use Rattle.std.proofs.Common.{mul-one}
use Rattle.std.specs.Float.Ieee.{odd}
use Rattle.std.specs.Float.Ieee.Exact.{HasValue, odd_sign}

-- "divided by 4, and must be exact": a float that is n / 4. `HasValue x s a c` says that x is finite, has the sign s (false: no minus), and is a / c in size.
pub record Quarter (n : ℕ) : Type 0 where
  pub float : Float
  pub exact : HasValue float false n 4

-- The quarter of n: n · 2^0 / 2^2, of an n of at most 32 binary digits written as all floats are, with an odd m, or as 0. No other 64-bit float is a
-- quarter of such an n (`OneQuarter`, promises).
unfoldable pub quarter_of : (n : ℕ) → Quarter n
quarter_of n = record { float = odd 32 false n 0 2; exact = rw (mul-one n) at (odd_sign 32 false n 0 2) }
