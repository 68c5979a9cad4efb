-- `width::floor_log2` meets its contract, by the law of leading zeros. Assumes nothing.
use mathlib.Core.Path.{◌≡◌, ◌∙◌}
use Prim.Native.Nat.{ℕ, ◌-◌, ◌^◌, ◌<◌, ◌≤◌}
use native.Mathlib.Omega.{arith}
use lib.Count.{count_leading_zeros, leading_top}
use Rattle.width.specs.Allowed.{floor_log2}
use Rattle.width.proofs.FloorLog2.{floor_unique}
use Rattle.width.proofs.floor_log2.Goals as goal

-- 63 less the leading zeros of n.
record FromTop (n : ℕ) : Type 0 where
  enough : count_leading_zeros 64 n ≤ 63
  is-floor : 63 - count_leading_zeros 64 n ≡ floor_log2 n

from-top : (n : ℕ) → 0 < n → n < 2 ^ 64 → FromTop n
from-top n pos fits =
    let (j, top, low, high) = leading_top 64 n pos fits in
    let e : 63 - count_leading_zeros 64 n ≡ j = omega (arith, top) in
    record { enough = omega (arith, top); is-floor = e ∙ floor_unique pos (record { low = low; high = high }) }

pub overflow_sub-result : goal.overflow_sub-result
overflow_sub-result c = omega (arith, (from-top c.args.n c.requires c.ranges.n.fits).enough)

pub returns : goal.returns
returns c = record {
  value = (from-top c.args.n c.requires c.ranges.n.fits).is-floor;
  upper_bound = omega arith;
}
