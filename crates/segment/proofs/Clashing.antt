-- When two segments clash: with a common end, where each has another end and one of those lies on the other segment; with none, where they share a point.
-- Rests on SharedPoint.
use mathlib.Core.Path.{◌≡◌, refl, ap, ap₂, sym, ◌∙◌}
use mathlib.Core.Logic.{◌↔◌, ◌≢◌, ◌⊎◌, inl, inr, ⊎_elim, ⊎_map, ⊎_swap}
use mathlib.Core.Bool.{Bool, ◌&&◌}
use Prim.Native.Nat.{ℕ, ◌+◌, ◌*◌, ◌≤◌, ◌<◌}
use native.Mathlib.Nat.{le_dest, eq_of_mul-eq-mul_left}
use native.Mathlib.Decide.{dec_le, dec_lt}
use native.Mathlib.Omega.{arith}
use lib.Dec.{eqb}
use lib.IntN.{pos}
use Rattle.segment.specs.declared.Point.{Point}
use Rattle.segment.specs.Segment.{at, cross, Share, Is, Lies, Clash}
use Rattle.segment.proofs.Decides.{Decides, eq_decides, and_decides, same_meaning}
use Rattle.segment.proofs.Weights.{Weights, weights, on, at_start, at_end, at_point}
use Rattle.segment.proofs.Difference.{diff_zero}
use Rattle.segment.proofs.CrossProduct.{plus, minus, cross_diff}
use Rattle.segment.proofs.SharedPoint.{share_exchange, share_turn, share→lies}

unfoldable pub same : Point → Point → Bool
same P Q = eqb P.column Q.column && eqb P.row Q.row

pub point : {P Q : Point} → P.column ≡ Q.column → P.row ≡ Q.row → P ≡ Q
point c r = ap₂ at c r

column_same : {P Q : Point} → P ≡ Q → P.column ≡ Q.column
column_same e = ap (λ (X : Point). X.column) e

row_same : {P Q : Point} → P ≡ Q → P.row ≡ Q.row
row_same e = ap (λ (X : Point). X.row) e

pub same_decides : (P Q : Point) → Decides (same P Q) (P ≡ Q)
unfolding same
same_decides P Q = same_meaning (λ z. point z.0 z.1, λ e. (column_same e, row_same e)) (and_decides (eq_decides _ _) (eq_decides _ _))

-- B and C are the point (x, y) / q
one_point : {B C : Point} {q x y : ℕ} → 1 ≤ q → Is B q x y → Is C q x y → B ≡ C
one_point {q = q} one b c = point (eq_of_mul-eq-mul_left q one _ _ (sym b.in_column ∙ c.in_column))
    (eq_of_mul-eq-mul_left q one _ _ (sym b.in_row ∙ c.in_row))

-- ---- symmetries

pub clash_exchange : {P Q R S : Point} → Clash P Q R S → Clash R S P Q
clash_exchange h = record { share = share_exchange h.share; no_common_end = λ E a b. h.no_common_end E b a }

pub clash_turn : {P Q R S : Point} → Clash P Q R S → Clash P Q S R
clash_turn h = record { share = share_turn h.share; no_common_end = λ E a b. h.no_common_end E a (⊎_swap b) }

-- ---- a common end P of P A and P B

-- a midpoint is an end only of a point
middle : (q a b e : ℕ) → 1 ≤ q → q * (a + b) ≡ 2 * q * e → (e ≡ a) ⊎ (e ≡ b) → a ≡ b
middle q a b e one h (inl k) = eq_of_mul-eq-mul_left q one a b (omega (arith, ap (λ (n : ℕ). q * n) k))
middle q a b e one h (inr k) = eq_of_mul-eq-mul_left q one a b (omega (arith, ap (λ (n : ℕ). q * n) k))

-- A lies on P B: the segments share the middle of P A
lies→clash : {P A B : Point} → P ≢ A → Lies A P B → Clash P A P B
lies→clash {P} {A} {B} n l = let w = weights l.on in record {
  share = record {
    q = 2 * l.q;
    x = l.q * (P.column + A.column);
    y = l.q * (P.row + A.row);
    q≥1 = omega (arith, l.q≥1);
    on_PQ = on (record { u = l.q; v = l.q; sum = omega arith; in_column = omega arith; in_row = omega arith });
    on_RS = on (record { u = l.q + w.u; v = w.v; sum = omega (arith, w.sum); in_column = omega (arith, w.in_column); in_row = omega (arith, w.in_row) });
  };
  no_common_end = λ E a b i. n
      (point (middle _ _ _ _ l.q≥1 i.in_column (⊎_map column_same column_same a)) (middle _ _ _ _ l.q≥1 i.in_row (⊎_map row_same row_same a)));
}

-- the shared point is no greater part of the way to A than of the way to B: B lies on P A
nearer : {P A B : Point} {q x y : ℕ} (a : Weights P A q x y) (b : Weights P B q x y) → a.v ≤ b.v → 1 ≤ b.v → Lies B P A
nearer {P} {A} {B} a b h one = go (le_dest h)
  where
    go : (k : ℕ) × (a.v + k ≡ b.v) → Lies B P A
    go (k, e) = let f : a.u ≡ b.u + k = omega arith in record {
      q = b.v;
      q≥1 = one;
      on = on (record {
        u = k;
        v = a.v;
        sum = omega arith;
        in_column = omega (arith, ap (λ (n : ℕ). n * P.column) f);
        in_row = omega (arith, ap (λ (n : ℕ). n * P.row) f);
      });
    }

-- a segment of one point clashes with a segment that it lies on and does not end
pub point_lies : {B P Q : Point} → Clash B B P Q → Lies B P Q
point_lies c = share→lies (share_exchange c.share)

pub point_ends : {B P Q : Point} → Clash B B P Q → (B ≡ P) ⊎ (B ≡ Q) → ⊥
point_ends {B} c e = c.no_common_end B (inl refl) e (at_point (weights c.share.on_PQ) refl)

-- two points do not clash: what they share ends both
pub points_apart : {A B : Point} → Clash A A B B → ⊥
points_apart {A} {B} c =
    let s = c.share in
    point_ends c (inl (one_point s.q≥1 (at_point (weights s.on_PQ) refl) (at_point (weights s.on_RS) refl)))

clash→lies : {P A B : Point} → Clash P A P B → Lies A P B ⊎ Lies B P A
clash→lies {P} {A} {B} h = go (weights z.on_PQ) (weights z.on_RS) (dec_le _ _) (dec_lt 0 _)
  where
    z : Share P A P B
    z = h.share

    go : (a : Weights P A z.q z.x z.y) (b : Weights P B z.q z.x z.y) → Dec (a.v ≤ b.v) → Dec (0 < b.v) → Lies A P B ⊎ Lies B P A
    go a b (yes l) (yes one) = inr (nearer a b l one)
    go a b (yes l) (no z) = absurd (h.no_common_end P (inl refl) (inl refl) (at_end b (omega arith)))
    go a b (no l) z = inl (nearer b a (omega arith) (omega arith))

pub common_end : {P A B : Point} → ((P ≢ A) × ((P ≢ B) × (Lies A P B ⊎ Lies B P A))) ↔ Clash P A P B
common_end {P} = (
  λ z. ⊎_elim (lies→clash z.0) (λ l. clash_exchange (lies→clash z.1.0 l)) z.1.1,
  λ h. (
    λ e. h.no_common_end P (inl refl) (inl refl) (at_point (weights h.share.on_PQ) (sym e)),
    (λ e. h.no_common_end P (inl refl) (inl refl) (at_point (weights h.share.on_RS) (sym e)), clash→lies h),
  ),
)

-- and only where all three points are in line
lies→in_line : {P A B : Point} → Lies A P B → plus P A B ≡ minus P A B
lies→in_line {P} {A} {B} l = let w = weights l.on in eq_of_mul-eq-mul_left l.q l.q≥1 _ _ (omega (
  arith,
  ap (λ (n : ℕ). n * (B.column * P.row)) w.sum,
  ap (λ (n : ℕ). n * (B.row * P.column)) w.sum,
  ap (λ (n : ℕ). n * B.row) w.in_column,
  ap (λ (n : ℕ). n * P.row) w.in_column,
  ap (λ (n : ℕ). n * P.column) w.in_row,
  ap (λ (n : ℕ). n * B.column) w.in_row,
))

pub clash→in_line : {P A B : Point} → Clash P A P B → cross P A B ≡ pos 0
clash→in_line {P} {A} {B} h = diff_zero _ (cross_diff P A B) (⊎_elim lies→in_line (λ l. omega (arith, lies→in_line l)) (clash→lies h))

-- ---- a node B on a line that it does not end, and a line from B
pub on_line→clash : {B C P Q : Point} → B ≢ P → B ≢ Q → Lies B P Q → Clash P Q B C
on_line→clash {B} {C} n m l = record {
  share = record { q = l.q; x = l.q * B.column; y = l.q * B.row; q≥1 = l.q≥1; on_PQ = l.on; on_RS = at_start B C l.q };
  no_common_end = λ E a b i. let e = one_point l.q≥1 (record { in_column = refl; in_row = refl }) i in
      ⊎_elim (λ k. n (e ∙ k)) (λ k. m (e ∙ k)) a;
}

-- ---- with no common end

pub no_common : {P Q R S : Point} → P ≢ R → P ≢ S → Q ≢ R → Q ≢ S → Share P Q R S → Clash P Q R S
no_common n₁ n₂ n₃ n₄ h = record {
  share = h;
  no_common_end = λ E a b i. ⊎_elim (λ p. ⊎_elim (λ r. n₁ (sym p ∙ r)) (λ s. n₂ (sym p ∙ s)) b) (λ p. ⊎_elim (λ r. n₃ (sym p ∙ r)) (λ s. n₄ (sym p ∙ s)) b) a;
}
