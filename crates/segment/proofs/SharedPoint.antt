-- Two segments share a point exactly where the test `meets` says so, for all natural coordinates. Rests on the laws of the cross product.
use mathlib.Core.Path.{◌≡◌, refl, ap}
use mathlib.Core.Logic.{◌≢◌, ◌⊎◌, inl, inr}
use mathlib.Core.Bool.{Bool, ◌&&◌}
use Prim.Native.Nat.{ℕ, ◌+◌, ◌*◌, ◌≤◌, ◌<◌, min, max}
use native.Mathlib.Nat.{mul-le-mul_left, le_of_mul-le-mul_left, le_dest, min-le_left, min-le_right, le-max_left, le-max_right}
use native.Mathlib.Decide.{dec_le, dec_lt, ℕ_discrete}
use native.Mathlib.Omega.{arith}
use lib.IntN.{ℤ, pos}
use lib.Signed.{le_z}
use Rattle.segment.specs.declared.Point.{Point}
use Rattle.segment.specs.Segment.{On, Share, Lies}
use Rattle.segment.specs.inner.Test.{overlap, spans, astride, transpose}
use Rattle.segment.proofs.Decides.{Decides, le_decides, and_decides, or_decides, same_meaning}
use Rattle.segment.proofs.Weights.{Weights, weights, on, on_turn, at_start}
use Rattle.segment.proofs.Difference.{Diff, diff_nonneg, diff_nonpos}
use Rattle.segment.proofs.CrossProduct.{plus, minus, cross_diff, linear, cramer_column, cramer_row}

-- the test of shared points
unfoldable pub meets : Point → Point → Point → Point → Bool
meets P Q R S = overlap P.row Q.row R.row S.row &&
    (overlap P.column Q.column R.column S.column && (astride le_z P Q R S && astride le_z R S P Q))

-- ---- the test over ℕ

abbrev pub Overlap : ℕ → ℕ → ℕ → ℕ → Type 0
Overlap a b x y = (min a b ≤ max x y) × (min x y ≤ max a b)

-- X and Y on the two sides of the line through A and B, by _≤_ or by _<_
abbrev pub Astride : (ℕ → ℕ → Type 0) → Point → Point → Point → Point → Type 0
Astride by A B X Y = (by (plus A B X) (minus A B X) × by (minus A B Y) (plus A B Y)) ⊎ (by (plus A B Y) (minus A B Y) × by (minus A B X) (plus A B X))

abbrev pub Meets : Point → Point → Point → Point → Type 0
Meets P Q R S = Overlap P.row Q.row R.row S.row ×
    (Overlap P.column Q.column R.column S.column × (Astride ◌≤◌ P Q R S × Astride ◌≤◌ R S P Q))

overlap_decides : (a b x y : ℕ) → Decides (overlap a b x y) (Overlap a b x y)
unfolding overlap
overlap_decides a b x y = and_decides (le_decides _ _) (le_decides _ _)

pub astride_decides : (b : ℤ → ℤ → Bool) (R : ℕ → ℕ → Type 0) → ((z : ℤ) (m n : ℕ) → Diff z m n → Decides (b z (pos 0)) (R m n)) →
    ((z : ℤ) (m n : ℕ) → Diff z m n → Decides (b (pos 0) z) (R n m)) → (A B X Y : Point) → Decides (astride b A B X Y) (Astride R A B X Y)
unfolding astride spans
astride_decides b R below above A B X Y =
    let x = cross_diff A B X in
    let y = cross_diff A B Y in
    or_decides (and_decides (below _ _ _ x) (above _ _ _ y)) (and_decides (below _ _ _ y) (above _ _ _ x))

meets_decides : (P Q R S : Point) → Decides (meets P Q R S) (Meets P Q R S)
unfolding meets
meets_decides P Q R S = and_decides (overlap_decides _ _ _ _) (and_decides (overlap_decides _ _ _ _) (and_decides (sides P Q R S) (sides R S P Q)))
  where
    sides : (A B X Y : Point) → Decides (astride le_z A B X Y) (Astride ◌≤◌ A B X Y)
    sides = astride_decides le_z ◌≤◌ (λ z m n. diff_nonpos z) (λ z m n. diff_nonneg z)

-- ---- symmetries of the meaning

abbrev pub share_exchange : {P Q R S : Point} → Share P Q R S → Share R S P Q
share_exchange h = record { q = h.q; x = h.x; y = h.y; q≥1 = h.q≥1; on_PQ = h.on_RS; on_RS = h.on_PQ }

abbrev pub share_turn : {P Q R S : Point} → Share P Q R S → Share P Q S R
share_turn h = record { q = h.q; x = h.x; y = h.y; q≥1 = h.q≥1; on_PQ = h.on_PQ; on_RS = on_turn h.on_RS }

-- rows for columns
pub on_transpose : (A B : Point) {q x y : ℕ} → On (transpose A) (transpose B) q x y → On A B q y x
on_transpose A B o = record { s = o.s; s≤q = o.s≤q; at_column = o.at_row; at_row = o.at_column }

abbrev pub share_transpose : (P Q R S : Point) → Share (transpose P) (transpose Q) (transpose R) (transpose S) → Share P Q R S
share_transpose P Q R S h = record { q = h.q; x = h.y; y = h.x; q≥1 = h.q≥1; on_PQ = on_transpose P Q h.on_PQ; on_RS = on_transpose R S h.on_RS }

-- ---- a shared point gives the test

-- a weighted sum of two numbers lies between them
mean : (a b x y u v t w q m : ℕ) → u + v ≡ q → t + w ≡ q → 1 ≤ q → m ≡ u * a + v * b → m ≡ t * x + w * y → min a b ≤ max x y
mean a b x y u v t w q m h k one e f = le_of_mul-le-mul_left {k = q} (omega (
  arith,
  mul-le-mul_left u (min-le_left a b),
  mul-le-mul_left v (min-le_right a b),
  mul-le-mul_left t (le-max_left x y),
  mul-le-mul_left w (le-max_right x y),
  ap (λ (n : ℕ). n * min a b) h,
  ap (λ (n : ℕ). n * max x y) k,
)) one

-- two weights, not both zero, do not balance two positive numbers
balance : (t w f g b d : ℕ) → 1 ≤ t + w → t * f + w * g ≡ t * b + w * d → b < f → d < g → ⊥
balance t w f g b d one e h k = omega (arith, mul-le-mul_left t h, mul-le-mul_left w k)

-- so where they balance f - b and g - d, the two are not of one sign
opposed : (t w f g b d : ℕ) → 1 ≤ t + w → t * f + w * g ≡ t * b + w * d → ((f ≤ b) × (d ≤ g)) ⊎ ((g ≤ d) × (b ≤ f))
opposed t w f g b d one e = go (dec_le f b) (dec_le d g)
  where
    go : Dec (f ≤ b) → Dec (d ≤ g) → ((f ≤ b) × (d ≤ g)) ⊎ ((g ≤ d) × (b ≤ f))
    go (yes h) (yes k) = inl (h, k)
    go (no h) k = inr (omega (arith, balance t w f g b d one e (omega arith)), omega arith)
    go (yes h) (no k) = inr (omega arith, omega (arith, balance w t d b g f (omega arith) (omega arith) (omega arith)))

pub share→meets : {P Q R S : Point} → Share P Q R S → Meets P Q R S
share→meets {P} {Q} {R} {S} h = let a = weights h.on_PQ in
    let b = weights h.on_RS in (
      (
        mean _ _ _ _ _ _ _ _ _ _ a.sum b.sum h.q≥1 a.in_row b.in_row,
        mean _ _ _ _ _ _ _ _ _ _ b.sum a.sum h.q≥1 b.in_row a.in_row,
      ),
      (
        (
          mean _ _ _ _ _ _ _ _ _ _ a.sum b.sum h.q≥1 a.in_column b.in_column,
          mean _ _ _ _ _ _ _ _ _ _ b.sum a.sum h.q≥1 b.in_column a.in_column,
        ),
        (
          opposed b.u b.v _ _ _ _ (omega (arith, h.q≥1)) (linear P Q R S a b),
          opposed a.u a.v _ _ _ _ (omega (arith, h.q≥1)) (linear R S P Q b a),
        ),
      ),
    )

-- ---- the test gives a shared point: where the segments cross

-- A shared point whose weights are the distances of the ends from the other line.
pub record Cut (P Q R S : Point) : Type 0 where
  pub q : ℕ
  pub x : ℕ
  pub y : ℕ
  pub on_PQ : Weights P Q q x y
  pub on_RS : Weights R S q x y
  pub R-off : plus P Q R + on_RS.v ≡ minus P Q R
  pub S-off : minus P Q S + on_RS.u ≡ plus P Q S
  pub P-off : minus R S P + on_PQ.v ≡ plus R S P
  pub Q-off : plus R S Q + on_PQ.u ≡ minus R S Q

pub cut : (P Q R S : Point) → plus P Q R ≤ minus P Q R → minus P Q S ≤ plus P Q S → minus R S P ≤ plus R S P → plus R S Q ≤ minus R S Q → Cut P Q R S
cut P Q R S s₁ s₂ s₃ s₄ = go (le_dest s₁) (le_dest s₂) (le_dest s₃) (le_dest s₄)
  where
    weigh : (f₁ b₁ f₂ b₂ f₃ b₃ f₄ b₄ p q r s a b e f : ℕ) → f₁ + b ≡ b₁ → b₂ + a ≡ f₂ → b₃ + e ≡ f₃ → f₄ + f ≡ b₄ →
        f₂ * r + b₁ * s + b₃ * q + f₄ * p ≡ b₂ * r + f₁ * s + f₃ * q + b₄ * p → a * r + b * s ≡ f * p + e * q
    weigh f₁ b₁ f₂ b₂ f₃ b₃ f₄ b₄ p q r s a b e f x₁ x₂ x₃ x₄ z =
        omega (arith, ap (λ (n : ℕ). n * s) x₁, ap (λ (n : ℕ). n * r) x₂, ap (λ (n : ℕ). n * q) x₃, ap (λ (n : ℕ). n * p) x₄)

    go : (b : ℕ) × (plus P Q R + b ≡ minus P Q R) → (a : ℕ) × (minus P Q S + a ≡ plus P Q S) → (e : ℕ) × (minus R S P + e ≡ plus R S P) →
        (f : ℕ) × (plus R S Q + f ≡ minus R S Q) → Cut P Q R S
    go (b, x₁) (a, x₂) (e, x₃) (f, x₄) = record {
      q = a + b;
      x = a * R.column + b * S.column;
      y = a * R.row + b * S.row;
      on_PQ = record {
        u = f;
        v = e;
        sum = omega arith;
        in_column = weigh _ _ _ _ _ _ _ _ _ _ _ _ a b e f x₁ x₂ x₃ x₄ (cramer_column P Q R S);
        in_row = weigh _ _ _ _ _ _ _ _ _ _ _ _ a b e f x₁ x₂ x₃ x₄ (cramer_row P Q R S);
      };
      on_RS = record { u = a; v = b; sum = refl; in_column = refl; in_row = refl };
      R-off = x₁;
      S-off = x₂;
      P-off = x₃;
      Q-off = x₄;
    }

crossing : (P Q R S : Point) → plus P Q R + minus P Q S < plus P Q S + minus P Q R → Cut P Q R S → Share P Q R S
crossing P Q R S d c = record {
  q = c.q;
  x = c.x;
  y = c.y;
  q≥1 = omega (arith, c.R-off, c.S-off, c.on_RS.sum);
  on_PQ = on c.on_PQ;
  on_RS = on c.on_RS;
}

-- ---- and where all four points are in line

-- X is in line with A B and between them by its column
touch : (A B X Y : Point) → A.column < B.column → A.column ≤ X.column → X.column ≤ B.column → plus A B X ≡ minus A B X → Share A B X Y
touch A B X Y l h k z = go (le_dest h) (le_dest k)
  where
    go : (v : ℕ) × (A.column + v ≡ X.column) → (u : ℕ) × (X.column + u ≡ B.column) → Share A B X Y
    go (v, e) (u, f) = record {
      q = u + v;
      x = (u + v) * X.column;
      y = (u + v) * X.row;
      q≥1 = omega arith;
      on_PQ = on (record {
        u = u;
        v = v;
        sum = refl;
        in_column = omega (arith, ap (λ (n : ℕ). n * u) e, ap (λ (n : ℕ). n * v) f);
        in_row = omega (arith, ap (λ (n : ℕ). n * B.row) e, ap (λ (n : ℕ). n * X.row) e, ap (λ (n : ℕ). n * X.row) f, ap (λ (n : ℕ). n * A.row) f);
      });
      on_RS = at_start X Y (u + v);
    }

-- whichever of A and B has the lesser column
touch_either : (A B X Y : Point) → A.column ≢ B.column → min A.column B.column ≤ X.column → X.column ≤ max A.column B.column →
    plus A B X ≡ minus A B X → Share A B X Y
touch_either A B X Y n h k z = go (dec_le A.column B.column)
  where
    go : Dec (A.column ≤ B.column) → Share A B X Y
    go (yes l) = touch A B X Y (omega arith) (omega arith) (omega arith) z
    go (no l) = share_exchange (share_turn (share_exchange (touch B A X Y (omega arith) (omega arith) (omega arith) (omega (arith, z)))))

-- all four are in line, the columns overlap, and a segment has two columns
record Line (P Q R S : Point) : Type 0 where
  z₁ : plus P Q R ≡ minus P Q R
  z₂ : plus P Q S ≡ minus P Q S
  z₃ : plus R S P ≡ minus R S P
  z₄ : plus R S Q ≡ minus R S Q
  low : min P.column Q.column ≤ max R.column S.column
  high : min R.column S.column ≤ max P.column Q.column
  wide : min P.column Q.column + min R.column S.column < max P.column Q.column + max R.column S.column

-- P Q starts first
first : (P Q R S : Point) → Line P Q R S → min P.column Q.column ≤ min R.column S.column → Share P Q R S
first P Q R S l h = go (ℕ_discrete P.column Q.column) (dec_le R.column S.column)
  where
    go : Dec (P.column ≡ Q.column) → Dec (R.column ≤ S.column) → Share P Q R S
    go (no n) (yes r) = touch_either P Q R S n (omega arith) (omega (arith, l.high)) l.z₁
    go (no n) (no r) = share_turn (touch_either P Q S R n (omega arith) (omega (arith, l.high)) l.z₂)
    go (yes e) r = share_exchange (touch_either R S P Q (omega (arith, l.wide)) (omega (arith, l.high)) (omega (arith, l.low)) l.z₃)

wide_line : (P Q R S : Point) → Line P Q R S → Share P Q R S
wide_line P Q R S l = go (dec_le (min P.column Q.column) (min R.column S.column))
  where
    go : Dec (min P.column Q.column ≤ min R.column S.column) → Share P Q R S
    go (yes h) = first P Q R S l h
    go (no h) = share_exchange (first R S P Q
        (record { z₁ = l.z₃; z₂ = l.z₄; z₃ = l.z₁; z₄ = l.z₂; low = l.high; high = l.low; wide = omega (arith, l.wide) }) (omega arith))

-- by columns, else by rows; else all four are one point
in_line : (P Q R S : Point) → plus P Q R ≡ minus P Q R → plus P Q S ≡ minus P Q S → plus R S P ≡ minus R S P → plus R S Q ≡ minus R S Q →
    Overlap P.row Q.row R.row S.row → Overlap P.column Q.column R.column S.column → Share P Q R S
in_line P Q R S z₁ z₂ z₃ z₄ n o = go (dec_lt _ _) (dec_lt _ _)
  where
    go : Dec (min P.column Q.column + min R.column S.column < max P.column Q.column + max R.column S.column) →
        Dec (min P.row Q.row + min R.row S.row < max P.row Q.row + max R.row S.row) → Share P Q R S
    go (yes w) k = wide_line P Q R S (record { z₁ = z₁; z₂ = z₂; z₃ = z₃; z₄ = z₄; low = o.0; high = o.1; wide = w })
    go (no w) (yes k) = share_transpose P Q R S (wide_line (transpose P) (transpose Q) (transpose R) (transpose S)
        (record { z₁ = omega (arith, z₁); z₂ = omega (arith, z₂); z₃ = omega (arith, z₃); z₄ = omega (arith, z₄); low = n.0; high = n.1; wide = k }))
    go (no w) (no k) = record {
      q = 1;
      x = P.column;
      y = P.row;
      q≥1 = omega arith;
      on_PQ = on (record { u = 1; v = 0; sum = omega arith; in_column = omega arith; in_row = omega arith });
      on_RS = on (record { u = 1; v = 0; sum = omega arith; in_column = omega (arith, o); in_row = omega (arith, n) });
    }

pub meets→share : (P Q R S : Point) → Meets P Q R S → Share P Q R S
meets→share P Q R S (n, (o, (a, b))) = go a b
  where
    less : (P Q R S : Point) → Overlap P.row Q.row R.row S.row → Overlap P.column Q.column R.column S.column →
        plus P Q R ≤ minus P Q R → minus P Q S ≤ plus P Q S → minus R S P ≤ plus R S P → plus R S Q ≤ minus R S Q → Share P Q R S
    less P Q R S n o s₁ s₂ s₃ s₄ = cases (dec_lt (plus P Q R + minus P Q S) (plus P Q S + minus P Q R))
      where
        cases : Dec (plus P Q R + minus P Q S < plus P Q S + minus P Q R) → Share P Q R S
        cases (yes d) = crossing P Q R S d (cut P Q R S s₁ s₂ s₃ s₄)
        cases (no d) = in_line P Q R S (omega arith) (omega arith) (omega arith) (omega arith) n o

    go : Astride ◌≤◌ P Q R S → Astride ◌≤◌ R S P Q → Share P Q R S
    go (inl x) (inl y) = in_line P Q R S (omega arith) (omega arith) (omega arith) (omega arith) n o
    go (inl x) (inr y) = less P Q R S n o x.0 x.1 y.1 y.0
    go (inr x) (inl y) = share_turn (less P Q S R (omega arith) (omega arith) x.0 x.1 (omega arith) (omega arith))
    go (inr x) (inr y) = in_line P Q R S (omega arith) (omega arith) (omega arith) (omega arith) n o

-- ---- the theorem

pub meets_decides_share : (P Q R S : Point) → Decides (meets P Q R S) (Share P Q R S)
meets_decides_share P Q R S = same_meaning (meets→share P Q R S, share→meets) (meets_decides P Q R S)

-- a segment of one point
pub share→lies : {B P Q : Point} → Share P Q B B → Lies B P Q
share→lies {B} h =
    let a = weights h.on_PQ in
    let b = weights h.on_RS in
    record {
      q = h.q;
      q≥1 = h.q≥1;
      on = on (record {
        u = a.u;
        v = a.v;
        sum = a.sum;
        in_column = omega (arith, ap (λ (n : ℕ). n * B.column) b.sum);
        in_row = omega (arith, ap (λ (n : ℕ). n * B.row) b.sum);
      });
    }

pub lies→share : {B P Q : Point} → Lies B P Q → Share P Q B B
lies→share {B} l = record { q = l.q; x = l.q * B.column; y = l.q * B.row; q≥1 = l.q≥1; on_PQ = l.on; on_RS = at_start B B l.q }

pub lies_decides : (B P Q : Point) → Decides (meets P Q B B) (Lies B P Q)
lies_decides B P Q = same_meaning (share→lies, lies→share) (meets_decides_share P Q B B)

-- segments whose rows are apart share no point
pub rows_apart : {P Q R S : Point} → max P.row Q.row < min R.row S.row → Share P Q R S → ⊥
rows_apart h s = let m = (share→meets s).0 in omega arith
