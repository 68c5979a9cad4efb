-- floor(log2 n) lies between powers of two: `floor_bounds`, and is the only number that does: `floor_unique`. The allowed width from it: `allowed_some`; it
-- is at most 37: `allowed_4096`, `allowed_most`.
use mathlib.Core.Path.{◌≡◌, refl}
use mathlib.Core.Bool.{Bool, true, false}
use Prim.Native.Nat.{ℕ, zero, suc, ◌+◌, ◌*◌, ◌^◌, ◌≤◌, ◌<◌}
use native.Mathlib.Nat.{two-pow-succ, le_antisymm}
use native.Mathlib.Decide.{ℕ_discrete, dec_le}
use native.Mathlib.Omega.{arith}
use lib.Dec.{leb, lit<, lit≤}
use lib.Pow.{pow_mono, pow_pos}
use borrow.Author.Tests.{leb-true, leb-false, eq-eqb, ne_eqb, lt-ltb, le-ltb}
use Rattle.width.specs.Allowed.{IsFloor, greatest, floor_log2, allowed_width}

greatest_between : (n m : ℕ) → 1 ≤ n → n < 2 ^ suc m → IsFloor n (greatest n m)
unfolding greatest
greatest_between n zero one h = record { low = one; high = h }
greatest_between n (suc m) one h = go (leb (2 ^ suc m) n) refl (greatest_between n m one)
  where
    go : (b : Bool) → leb (2 ^ suc m) n ≡ b → (n < 2 ^ suc m → IsFloor n (greatest n m)) → IsFloor n (elim b [ true ↦ suc m | false ↦ greatest n m ])
    go true e below = record { low = leb-true _ _ e; high = h }
    go false e below = below (leb-false _ _ e)

-- No power of two is at most its exponent.
pub below_power : (n : ℕ) → n < 2 ^ n
below_power zero = pow_pos zero
below_power (suc n) = omega (arith, below_power n, two-pow-succ n)

pub floor_bounds : (n : ℕ) → 1 ≤ n → IsFloor n (floor_log2 n)
unfolding floor_log2
floor_bounds n one = greatest_between n n one (omega (arith, below_power n, two-pow-succ n))

-- Of two such numbers neither is above the other.
not_above : {n j k : ℕ} → IsFloor n j → IsFloor n k → j ≤ k
not_above {n} {j} {k} a b = go (dec_le j k)
  where
    go : Dec (j ≤ k) → j ≤ k
    go (yes h) = h
    go (no h) = absurd (let above : suc k ≤ j = omega arith in let p : 2 ^ suc k ≤ 2 ^ j = pow_mono above in omega (arith, a.low, b.high))

pub floor_unique : {n k : ℕ} → 1 ≤ n → IsFloor n k → k ≡ floor_log2 n
floor_unique {n} one b = le_antisymm (not_above b (floor_bounds n one)) (not_above (floor_bounds n one) b)

-- The allowed width where it is not 0.
pub allowed_some : (n : ℕ) → 1 ≤ n → n ≤ 4096 → allowed_width n ≡ 3 * floor_log2 n + 1
unfolding allowed_width
allowed_some n one most = simp (ne_eqb n 0 (λ e. omega arith), le-ltb 4096 n most)

-- "At 4,096 it is 37", and it is never more.
pub allowed_4096 : allowed_width 4096 ≡ 37
allowed_4096 = let f : 12 ≡ floor_log2 4096 = floor_unique (lit≤ tt) (record { low = lit≤ tt; high = lit< tt }) in
    omega (arith, allowed_some 4096 (lit≤ tt) (lit≤ tt), f)

pub allowed_most : (n : ℕ) → allowed_width n ≤ 37
unfolding allowed_width
allowed_most n = go (ℕ_discrete n 0) (dec_le n 4096)
  where
    below : 1 ≤ n → n ≤ 4096 → Dec (floor_log2 n ≤ 12) → floor_log2 n ≤ 12
    below one most (yes h) = h
    below one most (no h) = absurd (let p : 2 ^ 13 ≤ 2 ^ floor_log2 n = pow_mono {i = 13} {j = floor_log2 n}
        (omega arith) in omega (arith, (floor_bounds n one).low, p))

    go : Dec (n ≡ 0) → Dec (n ≤ 4096) → allowed_width n ≤ 37
    go (yes e) d = simp (eq-eqb n 0 e) (lit≤ tt)
    go (no e) (no d) = simp (lt-ltb 4096 n (omega arith), ne_eqb n 0 e) (lit≤ tt)
    go (no e) (yes d) = omega (arith, allowed_some n (omega arith) d, below (omega arith) d (dec_le (floor_log2 n) 12))
