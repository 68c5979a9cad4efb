-- Of an n below 2^32, `quarter_of n` is a 64-bit float, no other one is n / 4 (`only`), and the division by 4.0 gives it (`quartered`). Rests on Floats.
use mathlib.Core.Path.{◌≡◌, refl, sym, ap, ◌∙◌, subst}
use mathlib.Core.Bool.{Bool, true, false, not, true≢false, cond}
use Prim.Native.Nat.{ℕ, zero, suc, ◌+◌, ◌-◌, ◌*◌, ◌/◌, ◌^◌, ◌≤◌, ◌<◌}
use native.Mathlib.Nat.{lt_of_lt_of_le, le_of_lt, mul_assoc}
use native.Mathlib.Omega.{arith}
use borrow.Author.Tests.{le-leb, lt-leb}
use lib.Dec.{T, leb, lit<, lit≤, leb→le, nleb→lt}
use lib.IntN.{ℤ, pos, negsuc}
use lib.Count.{count_trailing_zeros}
use lib.Pow.{shl_lt}
use lib.Ieee.{Float, fin, up, down, minus, binary64, odd, round, of_int, div, fits, nan, inf}
use lib.Ieee.Fits.{down_pos, odd-fits, round-fits}
use lib.Ieee.Exact.{HasValue, round_exact}
use lib.Ieee.Back.{round_whole}
use lib.Ieee.Scale.{round_same}
use Rattle.pen.specs.Quarter.{quarter_of}
use Rattle.pen.proofs.Floats.{unique}

-- n · 2^0 / 2^2 is n · 2^1072 / 2^1074, and 2^-1074 is the smallest of the 64-bit floats.
shifted : (t : ℕ) → minus (1072 + t) 1074 ≡ minus (0 + t) 2
shifted t = go (leb 2 (0 + t)) (leb→le 2 (0 + t)) (nleb→lt 2 (0 + t))
  where
    go : (b : Bool) → (T b → 2 ≤ 0 + t) → (T (not b) → 0 + t < 2) → minus (1072 + t) 1074 ≡ cond b (pos (0 + t - 2)) (negsuc (2 - suc (0 + t)))
    go true h k =
        let g : 1074 ≤ 1072 + t = omega (arith, h tt) in
        let e : 1072 + t - 1074 ≡ 0 + t - 2 = omega arith in
        rw (le-leb 1074 (1072 + t) g) (ap pos e)
    go false h k =
        let g : 1072 + t < 1074 = omega (arith, k tt) in
        let e : 1074 - suc (1072 + t) ≡ 2 - suc (0 + t) = omega arith in
        rw (lt-leb 1074 (1072 + t) g) (ap negsuc e)

moved : (n : ℕ) → odd 32 false n 1072 1074 ≡ odd 32 false n 0 2
unfolding odd
moved zero = refl
moved (suc n) = ap (λ (e : ℤ). fin false (suc n / 2 ^ count_trailing_zeros 32 (suc n)) e) (shifted (count_trailing_zeros 32 (suc n)))

pub quarter_fits : (n : ℕ) → n < 2 ^ 32 → T (fits binary64 (quarter_of n).float)
unfolding quarter_of
quarter_fits n h =
    subst (λ (x : Float). T (fits binary64 x)) (moved n)
    (odd-fits binary64 32 false n 1072 h (le_of_lt (lt_of_lt_of_le h (lit≤ tt))) (lt_of_lt_of_le (shl_lt 32 1072 h) (lit≤ tt)))

pub only : (x : Float) (n : ℕ) → n < 2 ^ 32 → T (fits binary64 x) → HasValue x false n 4 → x ≡ (quarter_of n).float
only x n h p v = unique x (quarter_of n).float false n 4 (lit< tt) p (quarter_fits n h) v (quarter_of n).exact

-- x / 4.0, of an x that is the whole number n
divided : (x : Float) (n : ℕ) → HasValue x false n 1 → div binary64 x (fin false 1 (pos 2)) ≡ round binary64 false n 4
unfolding div
divided nan n v = elim v [ ]
divided (inf _) n v = elim v [ ]
divided (fin true m e) n v = absurd (true≢false v.0)
divided (fin false m e) n v =
    let d : 0 < down e = down_pos e in
    let w : m * up e * 1 ≡ n * down e = v.1 in
    round_same binary64 false (m * up e * 1) (4 * down e) n 4 (omega arith) (lit< tt) (omega arith)

pub quartered : (n : ℕ) → n < 2 ^ 32 → div binary64 (of_int binary64 (pos n)) (fin false 1 (pos 2)) ≡ (quarter_of n).float
unfolding of_int
quartered n h =
    divided (round binary64 false n 1) n (round_whole binary64 false n (le_of_lt (lt_of_lt_of_le h (lit≤ tt))))
    ∙ only (round binary64 false n 4) n h (round-fits binary64 false n 4)
    (round_exact binary64 false n 4 n 1072 (lit< tt) (lt_of_lt_of_le h (lit≤ tt)) (lt_of_lt_of_le (shl_lt 32 1072 h) (lit≤ tt))
    (sym (mul_assoc n (2 ^ 1072) 4)))
