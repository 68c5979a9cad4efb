-- Decimal digits: the bound on their number is never felt, and a 16-bit number has at most five.
use mathlib.Core.Path.{◌≡◌, sym, ◌∙◌}
use mathlib.Core.Logic.{dite}
use mathlib.Core.List.{[], ◌∷◌, ◌++◌}
use Prim.Native.Nat.{ℕ, zero, suc, ◌+◌, ◌/◌, ◌%◌, ◌*◌, ◌≤◌, ◌<◌}
use native.Mathlib.Decide.{dec_lt}
use native.Mathlib.Omega.{arith}
use lib.ListN.{length, length-append}
use borrow.Author.Tests.{lt-ltb, le-ltb}
use Rattle.fields.specs.Fields.{digits, decimal}

digits_one : (m n : ℕ) → n < 10 → digits (suc m) n ≡ (48 + n) ∷ []
unfolding digits
digits_one m n h = rw (digits, lt-ltb n 10 h)

digits_more : (m n : ℕ) → 10 ≤ n → digits (suc m) n ≡ digits m (n / 10) ++ ((48 + n % 10) ∷ [])
unfolding digits
digits_more m n h = rw (digits, le-ltb n 10 h)

-- More digits than n are as many as there are.
digits_enough : (m k n : ℕ) → n < m → n < k → digits m n ≡ digits k n
digits_enough zero k n h g = absurd (omega arith)
digits_enough (suc m) zero n h g = absurd (omega arith)
digits_enough (suc m) (suc k) n h g =
    dite (dec_lt n 10) (λ s. digits_one m n s ∙ sym (digits_one k n s))
    (λ s. let l : 10 ≤ n = omega arith in rw (digits_more m n l, digits_more k n l, digits_enough m k (n / 10) (omega arith) (omega arith)))

pub decimal_one : (n : ℕ) → n < 10 → decimal n ≡ (48 + n) ∷ []
unfolding decimal
decimal_one n h = digits_one n n h

pub decimal_more : (n : ℕ) → 10 ≤ n → decimal n ≡ decimal (n / 10) ++ ((48 + n % 10) ∷ [])
unfolding decimal
decimal_more n h = rw (digits_more n n h, digits_enough n (suc (n / 10)) (n / 10) (omega arith) (omega arith))

pub length_one : (n : ℕ) → n < 10 → length (decimal n) ≡ 1
length_one n h = rw (decimal_one n h)

pub length_more : (n : ℕ) → 10 ≤ n → length (decimal n) ≡ length (decimal (n / 10)) + 1
length_more n h = rw (decimal_more n h, length-append)

-- One digit more for ten times the numbers.
tenfold : (m n : ℕ) → ((k : ℕ) → k < m → length (decimal k) ≤ n) → (k : ℕ) → k < 10 * m → length (decimal k) ≤ n + 1
tenfold m n f k h =
    dite (dec_lt k 10) (λ s. omega (arith, length_one k s)) (λ s. omega (arith, length_more k (omega arith), f (k / 10) (omega arith)))

pub length_short : (n : ℕ) → n < 65536 → length (decimal n) ≤ 5
length_short n h = tenfold 10000 4 (tenfold 1000 3 (tenfold 100 2 (tenfold 10 1 (λ k s. omega (arith, length_one k s))))) n (omega arith)
