-- The allowed width of n nodes, by powers of two (document 01, "Words of the sheet").
use Rattle.std.specs.Prelude.{true, false, cond, ◌||◌, ℕ, zero, suc, ◌+◌, ◌*◌, ◌^◌, ◌≤◌, ◌<◌, leb, ltb, eqb}

-- k is floor(log2 n): 2 to the power k is at most n, and 2 to the power k + 1 is not.
pub record IsFloor (n k : ℕ) : Type 0 where
  pub low : 2 ^ k ≤ n
  pub high : n < 2 ^ suc k

-- The greatest k from 0 to m with 2 to the power k at most n.
unfoldable pub greatest : ℕ → ℕ → ℕ
greatest n zero = 0
greatest n (suc m) = elim (leb (2 ^ suc m) n) [ true ↦ suc m | false ↦ greatest n m ]

-- "floor(log2 n) is the greatest whole k with 2 to the power k at most n"; no such k is above n (`OneFloor`, promises)
unfoldable pub floor_log2 : ℕ → ℕ
floor_log2 n = greatest n n

-- "The allowed width of n boxes is 3·floor(log2 n) + 1, and 0 for n = 0"; "for every n from 0 to 4,096; a larger n gives 0"
unfoldable pub allowed_width : ℕ → ℕ
allowed_width n = cond (eqb n 0 || ltb 4096 n) 0 (3 * floor_log2 n + 1)
