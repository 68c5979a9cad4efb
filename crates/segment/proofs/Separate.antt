-- Clashes with rows for columns; segments apart by their columns, which share no point, and by the numbers of their points, which do not clash. Rests on
-- SharedPoint and Clashing.
use mathlib.Core.Path.{◌≡◌, refl, ap, sym, ◌∙◌}
use mathlib.Core.Logic.{◌⊎◌, inl, inr, ⊎_elim, ⊎_map}
use Prim.Native.Nat.{ℕ, ◌+◌, ◌*◌, ◌≤◌, ◌<◌, max, min}
use native.Mathlib.Nat.{mul-le-mul_left, le_of_mul-le-mul_left}
use native.Mathlib.Decide.{dec_lt}
use native.Mathlib.Omega.{arith}
use Rattle.segment.specs.declared.Point.{Point}
use Rattle.segment.specs.Segment.{Share, Clash}
use Rattle.segment.specs.inner.Test.{transpose, number}
use Rattle.segment.proofs.Weights.{Weights, weights, at_end, at_point}
use Rattle.segment.proofs.SharedPoint.{share_transpose, rows_apart}
use Rattle.segment.proofs.Clashing.{point}

-- ---- rows for columns

-- also backwards, since transpose (transpose P) is P
pub clash_transpose : (P Q R S : Point) → Clash P Q R S → Clash (transpose P) (transpose Q) (transpose R) (transpose S)
clash_transpose P Q R S h = record {
  share = share_transpose (transpose P) (transpose Q) (transpose R) (transpose S) h.share;
  no_common_end = λ E a b i. h.no_common_end (transpose E) (⊎_map (ap transpose) (ap transpose) a) (⊎_map (ap transpose) (ap transpose) b)
      (record { in_column = i.in_row; in_row = i.in_column });
}

pub columns_apart : {P Q R S : Point} → max P.column Q.column < min R.column S.column → Share P Q R S → ⊥
columns_apart {P} {Q} {R} {S} h s = rows_apart h (share_transpose (transpose P) (transpose Q) (transpose R) (transpose S) s)

-- ---- points by their numbers

pub number_once : (b : ℕ) {P Q : Point} → P.column < b → Q.column < b → number b P ≡ number b Q → P ≡ Q
number_once b {P} {Q} h k e = go (dec_lt P.row Q.row) (dec_lt Q.row P.row)
  where
    go : Dec (P.row < Q.row) → Dec (Q.row < P.row) → P ≡ Q
    go (yes l) m = absurd (omega (arith, mul-le-mul_left b l))
    go (no l) (yes m) = absurd (omega (arith, mul-le-mul_left b m))
    go (no l) (no m) = let r : P.row ≡ Q.row = omega arith in point (omega (arith, ap (λ (n : ℕ). b * n) r)) r

-- the number is linear along a segment
numbered : (b : ℕ) {P Q : Point} {q x y : ℕ} (a : Weights P Q q x y) → b * y + x ≡ a.u * number b P + a.v * number b Q
numbered b a = omega (arith, ap (λ (n : ℕ). b * n) a.in_row)

-- weighted sums of n ≤ m and of k ≤ l ≤ n are equal only where l is n, and m too or its weight zero
lowest : (u v t w q n m k l : ℕ) → u + v ≡ q → t + w ≡ q → 1 ≤ q → u * n + v * m ≡ t * k + w * l → n ≤ m → k ≤ l → l ≤ n → (l ≡ n) × ((v ≡ 0) ⊎ (m ≡ n))
lowest u v t w q n m k l h h' one e nm kl ln = (f, go (dec_lt 0 v))
  where
    f : l ≡ n
    f = let z : n ≤ l = le_of_mul-le-mul_left {k = q}
        (omega (arith, mul-le-mul_left v nm, mul-le-mul_left t kl, ap (λ (i : ℕ). i * n) h, ap (λ (i : ℕ). i * l) h')) one in omega arith

    go : Dec (0 < v) → (v ≡ 0) ⊎ (m ≡ n)
    go (yes p) = let z : m ≤ n = le_of_mul-le-mul_left {k = v}
        (omega (arith, mul-le-mul_left t kl, mul-le-mul_left q ln, ap (λ (i : ℕ). i * n) h, ap (λ (i : ℕ). i * l) h')) p in inr (omega arith)
    go (no p) = inl (omega arith)

-- P Q starts at the number that R S ends at, or after it: they share at most the point P
pub numbers_apart : (b : ℕ) {P Q R S : Point} → P.column < b → Q.column < b → S.column < b → number b P ≤ number b Q → number b R ≤ number b S →
    number b S ≤ number b P → Clash P Q R S → ⊥
numbers_apart b {P} {Q} {R} {S} p q s pq rs sp c = go (weights h.on_PQ) (weights h.on_RS)
  where
    h : Share P Q R S
    h = c.share

    go : Weights P Q h.q h.x h.y → Weights R S h.q h.x h.y → ⊥
    go a d = let z = lowest a.u a.v d.u d.v h.q _ _ _ _ a.sum d.sum h.q≥1 (sym (numbered b a) ∙ numbered b d) pq rs sp in
        c.no_common_end P (inl refl) (inr (sym (number_once b s p z.0))) (⊎_elim (at_end a) (λ e. at_point a (number_once b q p e)) z.1)
