-- Two segments cross exactly where each divides the ends of the other, for all natural coordinates. Rests on SharedPoint and Clashing.
use mathlib.Core.Path.{◌≡◌}
use mathlib.Core.Logic.{◌↔◌, ◌≢◌, ◌⊎◌, inl, inr, ⊎_elim, ⊎_swap}
use mathlib.Core.Bool.{Bool, ◌&&◌}
use Prim.Native.Nat.{ℕ, ◌+◌, ◌*◌, ◌≤◌, ◌<◌}
use native.Mathlib.Nat.{mul-le-mul_left, eq_of_mul-eq-mul_left}
use native.Mathlib.Decide.{dec_lt}
use native.Mathlib.Omega.{arith}
use lib.Signed.{lt_z}
use Rattle.segment.specs.declared.Point.{Point}
use Rattle.segment.specs.Segment.{Share, Clash}
use Rattle.segment.specs.Meeting.{Inside, Parallel, Crosses}
use Rattle.segment.specs.inner.Test.{astride, transpose}
use Rattle.segment.proofs.Decides.{Decides, and_decides, same_meaning}
use Rattle.segment.proofs.Weights.{Weights, weights, on, turned}
use Rattle.segment.proofs.Difference.{diff_pos, diff_mul, diff_equal, diff_negative, diff_positive}
use Rattle.segment.proofs.CrossProduct.{plus, minus, linear}
use Rattle.segment.proofs.SharedPoint.{Astride, astride_decides, cut}
use Rattle.segment.proofs.Clashing.{no_common}

-- the test of crossings
unfoldable pub crosses : Point → Point → Point → Point → Bool
crosses P Q R S = astride lt_z P Q R S && astride lt_z R S P Q

-- ---- the test over ℕ

abbrev Parted : Point → Point → Point → Point → Type 0
Parted P Q R S = Astride ◌<◌ P Q R S × Astride ◌<◌ R S P Q

-- ---- a crossing gives the test

inside_weights : {P Q : Point} {q x y : ℕ} → Inside P Q q x y → (w : Weights P Q q x y) × (0 < w.u) × (0 < w.v)
inside_weights i = (weights i.on, omega (arith, i.before_end), i.after_start)

parallel : (P Q R S : Point) → Parallel P Q R S ↔ (plus P Q S + minus P Q R ≡ plus P Q R + minus P Q S)
parallel P Q R S =
    let e = diff_equal (diff_mul _ _ (diff_pos Q.column P.column) (diff_pos S.row R.row))
    (diff_mul _ _ (diff_pos Q.row P.row) (diff_pos S.column R.column)) in
    (λ h. omega (arith, e.0 h), λ h. e.1 (omega arith))

not_less : {d g : ℕ} → (d < g → ⊥) → g ≤ d
not_less n = omega arith

-- two positive weights that balance f - b and g - d: where the one is below zero the other is above
tipped : (t w f g b d : ℕ) → 0 < t → t * f + w * g ≡ t * b + w * d → f < b → d < g
tipped t w f g b d one e h = go (dec_lt d g)
  where
    go : Dec (d < g) → d < g
    go (yes k) = k
    go (no k) = absurd (omega (arith, mul-le-mul_left t h, mul-le-mul_left w (not_less k)))

-- .. and both are zero, or they are so
apart : (t w f g b d : ℕ) → 0 < t → 0 < w → t * f + w * g ≡ t * b + w * d → (f ≡ b → g ≡ d → ⊥) → ((f < b) × (d < g)) ⊎ ((g < d) × (b < f))
apart t w f g b d one two e n = go (dec_lt f b) (dec_lt g d)
  where
    go : Dec (f < b) → Dec (g < d) → ((f < b) × (d < g)) ⊎ ((g < d) × (b < f))
    go (yes h) k = inl (h, tipped t w f g b d one e h)
    go (no h) (yes k) = inr (k, tipped w t g f d b two (omega arith) k)
    go (no h) (no k) = let x = mul-le-mul_left t (not_less h) in
        let y = mul-le-mul_left w (not_less k) in
        absurd (n (eq_of_mul-eq-mul_left t one _ _ (omega arith)) (eq_of_mul-eq-mul_left w two _ _ (omega arith)))

crosses→parted : {P Q R S : Point} → Crosses P Q R S → Parted P Q R S
crosses→parted {P} {Q} {R} {S} h =
    let w = inside_weights h.inside_PQ in
    let z = inside_weights h.inside_RS in (
      apart z.0.u z.0.v _ _ _ _ z.1 z.2 (linear P Q R S w.0 z.0) (λ e f. h.not_parallel ((parallel P Q R S).1 (omega arith))),
      apart w.0.u w.0.v _ _ _ _ w.1 w.2 (linear R S P Q z.0 w.0) (λ e f. h.not_parallel ((parallel P Q R S).1 (omega arith))),
    )

-- ---- the test gives a crossing

inside : {P Q : Point} {q x y : ℕ} (w : Weights P Q q x y) → 0 < w.u → 0 < w.v → Inside P Q q x y
inside w h k = record { on = on w; after_start = k; before_end = omega (arith, w.sum) }

crossed : (P Q R S : Point) → plus P Q R < minus P Q R → minus P Q S < plus P Q S → minus R S P < plus R S P → plus R S Q < minus R S Q → Crosses P Q R S
crossed P Q R S s₁ s₂ s₃ s₄ = let c = cut P Q R S (omega arith) (omega arith) (omega arith) (omega arith) in record {
  q = c.q;
  x = c.x;
  y = c.y;
  inside_PQ = inside c.on_PQ (omega (arith, c.Q-off)) (omega (arith, c.P-off));
  inside_RS = inside c.on_RS (omega (arith, c.S-off)) (omega (arith, c.R-off));
  not_parallel = λ e. omega (arith, (parallel P Q R S).0 e);
}

-- ---- symmetries

inside_turn : {P Q : Point} {q x y : ℕ} → Inside P Q q x y → Inside Q P q x y
inside_turn i = let w = inside_weights i in inside (turned w.0) w.2 w.1

pub crosses_turn : {P Q R S : Point} → Crosses P Q R S → Crosses P Q S R
crosses_turn {P} {Q} {R} {S} h = record {
  q = h.q;
  x = h.x;
  y = h.y;
  inside_PQ = h.inside_PQ;
  inside_RS = inside_turn h.inside_RS;
  not_parallel = λ e. h.not_parallel ((parallel P Q R S).1 (omega (arith, (parallel P Q S R).0 e)));
}

pub crosses_exchange : {P Q R S : Point} → Crosses P Q R S → Crosses R S P Q
crosses_exchange {P} {Q} {R} {S} h = record {
  q = h.q;
  x = h.x;
  y = h.y;
  inside_PQ = h.inside_RS;
  inside_RS = h.inside_PQ;
  not_parallel = λ e. h.not_parallel ((parallel P Q R S).1 (omega (arith, (parallel R S P Q).0 e)));
}

inside_transpose : (P Q : Point) {q x y : ℕ} → Inside P Q q x y → Inside (transpose P) (transpose Q) q y x
inside_transpose P Q i = let w = inside_weights i in
    inside (record { u = w.0.u; v = w.0.v; sum = w.0.sum; in_column = w.0.in_row; in_row = w.0.in_column }) w.1 w.2

-- also backwards, since transpose (transpose P) is P
pub crosses_transpose : (P Q R S : Point) → Crosses P Q R S → Crosses (transpose P) (transpose Q) (transpose R) (transpose S)
crosses_transpose P Q R S h = record {
  q = h.q;
  x = h.y;
  y = h.x;
  inside_PQ = inside_transpose P Q h.inside_PQ;
  inside_RS = inside_transpose R S h.inside_RS;
  not_parallel = λ e. h.not_parallel ((parallel P Q R S).1 (omega (arith, (parallel (transpose P) (transpose Q) (transpose R) (transpose S)).0 e)));
}

-- ---- the theorem

parted→crosses : (P Q R S : Point) → Parted P Q R S → Crosses P Q R S
parted→crosses P Q R S (inl x, inl y) = absurd (omega arith)
parted→crosses P Q R S (inl x, inr y) = crossed P Q R S x.0 x.1 y.1 y.0
parted→crosses P Q R S (inr x, inl y) = crosses_turn (crossed P Q S R x.0 x.1 (omega arith) (omega arith))
parted→crosses P Q R S (inr x, inr y) = absurd (omega arith)

pub crosses_decides : (P Q R S : Point) → Decides (crosses P Q R S) (Crosses P Q R S)
unfolding crosses
crosses_decides P Q R S = same_meaning (parted→crosses P Q R S, crosses→parted) (and_decides (sides P Q R S) (sides R S P Q))
  where
    sides : (A B X Y : Point) → Decides (astride lt_z A B X Y) (Astride ◌<◌ A B X Y)
    sides = astride_decides lt_z ◌<◌ (λ z m n. diff_negative z) (λ z m n. diff_positive z)

-- ---- a crossing is a clash: it has no common end

pub crosses→share : {P Q R S : Point} → Crosses P Q R S → Share P Q R S
crosses→share h = record { q = h.q; x = h.x; y = h.y; q≥1 = omega (arith, h.inside_PQ.before_end); on_PQ = h.inside_PQ.on; on_RS = h.inside_RS.on }

-- neither end of R S is P, which is in line with P and Q
pub no_common_start : {P Q R S : Point} → Crosses P Q R S → (P ≢ R) × (P ≢ S)
no_common_start {P} {Q} {R} {S} h = (λ e. go R S (crosses→parted h).0 e, λ e. go S R (⊎_swap (crosses→parted h).0) e)
  where
    go : (R S : Point) → Astride ◌<◌ P Q R S → P ≡ R → ⊥
    go R S d e = ⊎_elim (λ z. omega (arith, rw (← e) at z.0)) (λ z. omega (arith, rw (← e) at z.1)) d

pub crosses→clash : {P Q R S : Point} → Crosses P Q R S → Clash P Q R S
crosses→clash h = let n = no_common_start h in
    let m = no_common_start (crosses_exchange (crosses_turn (crosses_exchange h))) in
    no_common n.0 n.1 m.0 m.1 (crosses→share h)

-- a segment of one point crosses none
pub point_crosses : {B R S : Point} → Crosses B B R S → ⊥
point_crosses {B} {R} {S} h = h.not_parallel ((parallel B B R S).1 (omega arith))
