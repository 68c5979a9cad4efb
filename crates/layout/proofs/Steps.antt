-- One spine node, with the drawing D of what hangs from it and the drawing N from the next spine node on: a lemma for each role (`step_knee_right`,
-- `step_knee_left`, `step_ordinary`, `step_switch`) keeps the whole untangled, with its points where the step before expects them. Rows do nearly all the
-- work; columns break the ties.
use mathlib.Core.Path.{◌≡◌, refl}
use Prim.Native.Nat.{ℕ, suc, ◌+◌, ◌*◌, ◌≤◌, ◌<◌, max}
use native.Mathlib.Nat.{mul-le-mul_left, mul-le-mul_right}
use native.Mathlib.Decide.{dec_lt}
use native.Mathlib.Omega.{arith}
use Rattle.segment.specs.declared.Point.{Point}
use Rattle.segment.specs.Segment.{at, Is}
use Rattle.segment.proofs.Weights.{Weights, at_point}
use Rattle.table.specs.Table.{Side, left, right}
use Rattle.layout.specs.Layout.{Layout, placed, width, flip}
use Rattle.layout.specs.Drawing.{join}
use Rattle.layout.proofs.Clean.{HasRoot, Kind, Piece, root, edge, below}
use Rattle.layout.proofs.Points.{falls, Along, PointOf, point_on, EdgeTo, Order, Apart, exchange, fork, point_rooted, UntangledAt, low_at, edge_at}
use Rattle.layout.proofs.Points.{under_at, order_at, InWindow}
use Rattle.layout.proofs.Motions.{flipped, untangled_flip, width_flip, root_flip}

-- ---- what is known of D and N

-- A hung drawing of width w and height h, with its left edge at column e and its top row at row t.
pub record HungRectangle (e t w h : ℕ) (D : Layout) : Type 0 where
  pub stands : UntangledAt (at e t) D
  pub wide : width D ≤ e + w
  pub some : HasRoot D → (1 ≤ w) × (1 ≤ h)
  pub within : {q x y : ℕ} → PointOf q x y D → InWindow e w t h q x y

-- What is drawn from an ordinary node or a switch in row r on; H is the lowest row used before it. The rows u to u + p − 1 are kept for what is pending:
-- above them columns from 1 on are used, in them only columns beyond W.
pub record Run (W H r p u : ℕ) (N : Layout) : Type 0 where
  pub stands : UntangledAt (at 1 r) N
  pub wide : width N ≤ W + 3
  pub below : H < u
  pub under : HasRoot N → r < u
  pub free : 1 ≤ p → {q x y : ℕ} → 1 ≤ q → PointOf q x y N → y < q * u → q ≤ x
  pub kept : 1 ≤ p → {q x y : ℕ} → 1 ≤ q → PointOf q x y N → q * u ≤ y → y + q ≤ q * (u + p) → q * W + q ≤ x

-- What is drawn from a knee in row r on: down to H, the lowest row used before it, only columns 0 and 1 are used.
pub record Knee (W H r : ℕ) (N : Layout) : Type 0 where
  pub stands : UntangledAt (at 0 r) N
  pub wide : width N ≤ W + 3
  pub low : {q x y : ℕ} → 1 ≤ q → PointOf q x y N → y ≤ q * H → x ≤ q

-- ---- joining D and N

-- A point of a node with two subtrees.
cases : {C : Type 0} {k : ℕ} {P : Point} {a b : Layout} {c : Kind} {q x y : ℕ} (p : Piece c (placed k P a b)) → Along p q x y →
    (Is P q x y → C) → (EdgeTo P q x y a → C) → (EdgeTo P q x y b → C) → (PointOf q x y a → C) → (PointOf q x y b → C) → C
cases root m i e f z w = i (at_point m refl)
cases (edge left h) m i e f z w = e (record { has = h; on = m })
cases (edge right h) m i e f z w = f (record { has = h; on = m })
cases (below left p) m i e f z w = z (point_on p m)
cases (below right p) m i e f z w = w (point_on p m)

join_cases : {C : Type 0} (k : ℕ) {P : Point} (s : Side) {D N : Layout} {q x y : ℕ} → PointOf q x y (join k P s D N) →
    (Is P q x y → C) → (EdgeTo P q x y D → C) → (EdgeTo P q x y N → C) → (PointOf q x y D → C) → (PointOf q x y N → C) → C
unfolding join
join_cases k left t i e f z w = cases t.piece t.on i e f z w
join_cases k right t i e f z w = cases t.piece t.on i f e w z

abbrev pub OrderOn : Side → Point → Layout → Layout → Type 0
OrderOn left P D N = Order P D N
OrderOn right P D N = Order P N D

joined : (k : ℕ) {P : Point} (s : Side) {A B : Point} {D N : Layout} → UntangledAt A D → UntangledAt B N → Apart P D N → OrderOn s P D N →
    UntangledAt P (join k P s D N)
unfolding join
joined k left d n j o = record { untangled = fork d.untangled n.untangled j o; root = refl }
joined k right d n j o = record { untangled = fork n.untangled d.untangled (exchange j) o; root = refl }

pub wide_join : (k : ℕ) (P : Point) (s : Side) (D N : Layout) → width (join k P s D N) ≡ max (suc P.column) (max (width D) (width N))
unfolding join width
wide_join k P left D N = refl
wide_join k P right D N = omega arith

-- ---- the four steps

-- An edge from column 0 to column 1 reaches column 1 in its last row.
reaches : {r s q x y : ℕ} → Weights (at 0 r) (at 1 s) q x y → q ≤ x → q * s ≤ y
reaches {s} {q} m h = let l : q ≤ m.v = omega (arith, m.in_column) in omega (arith, m.in_row, mul-le-mul_right s l)

-- Step 4 with the right child hung.
pub step_knee_right : (k : ℕ) {W H r w h u : ℕ} {D N : Layout} → r ≤ H → w ≤ W → HungRectangle 1 (H + 1) w h D → Run W (H + h) (H + h + 1) 0 u N →
    Knee W H r (join k (at 0 r) right D N)
unfolding join width
step_knee_right k {W} {H} {r} {w} {h} {u} {D} {N} le wW d n = record {
  stands = joined k right d.stands n.stands (record {
    low_a = low_at d.stands (omega arith);
    low_b = low_at n.stands (omega arith);
    apart = λ one s t. omega (arith, (d.within s).to_row, (under_at n.stands one t).rows);
    clear_a = λ {q} one s t. omega (
      arith,
      (falls (omega arith) (edge_at d.stands s)).above,
      (under_at n.stands one t).rows,
      mul-le-mul_left q (d.some s.has).1,
    );
    clear_b = λ one s t. omega (arith, reaches (edge_at n.stands s) (omega (arith, (d.within t).from_column)), (d.within t).to_row);
  }) (order_at (at 0 r) n.stands d.stands (λ i j. omega (arith, (d.some j).1)));
  wide = omega (arith, n.wide, d.wide);
  low = λ one t b. join_cases k right t
      (λ i. omega (arith, i.in_column))
      (λ s. let m = edge_at d.stands s in omega (arith, m.in_column, m.sum))
      (λ s. let m = edge_at n.stands s in omega (arith, m.in_column, m.sum))
      (λ s. absurd (omega (arith, (d.within s).from_row)))
      (λ s. absurd (omega (arith, (under_at n.stands one s).rows)));
}

-- Step 4 with the left child hung: it is pending, and goes to row u.
pub step_knee_left : (k : ℕ) {W H r w h u : ℕ} {D N : Layout} → r ≤ H → w ≤ W → HungRectangle 1 u w h D → Run W H (H + 1) h u N →
    Knee W H r (join k (at 0 r) left D N)
unfolding join width
step_knee_left k {W} {H} {r} {w} {h} {u} {D} {N} le wW d n = record {
  stands = joined k left d.stands n.stands (record {
    low_a = low_at d.stands (omega (arith, n.below));
    low_b = low_at n.stands (omega arith);
    apart = λ {q} one s t. let i = d.within s in
        omega (arith, i.to_column, mul-le-mul_left q wW, n.kept (d.some (point_rooted s)).1 one t i.from_row i.to_row);
    clear_a = λ {q} {x} {y} one s t. across one (edge_at d.stands s) (d.some s.has).0 (d.some s.has).1 t (dec_lt y (q * u));
    clear_b = λ {q} one s t. omega (arith, (falls (omega arith) (edge_at n.stands s)).above, (d.within t).from_row, mul-le-mul_left q (n.under s.has));
  }) (order_at (at 0 r) d.stands n.stands (λ i j. omega (arith, n.under j)));
  wide = omega (arith, n.wide, d.wide);
  low = λ {q} one t b. join_cases k left t
      (λ i. omega (arith, i.in_column))
      (λ s. let m = edge_at d.stands s in omega (arith, m.in_column, m.sum))
      (λ s. let m = edge_at n.stands s in omega (arith, m.in_column, m.sum))
      (λ s. absurd (omega (arith, (d.within s).from_row, mul-le-mul_left q n.below)))
      (λ s. absurd (omega (arith, (under_at n.stands one s).rows)));
}
  where
    -- the edge to the pending drawing, and N: above row u columns from 1 on are N's, and in row u columns beyond W
    across : {q x y : ℕ} → 1 ≤ q → Weights (at 0 r) (at 1 u) q x y → 1 ≤ w → 1 ≤ h → PointOf q x y N → Dec (y < q * u) → ⊥
    across one m w₁ h₁ t (yes l) = omega (arith, reaches m (n.free h₁ one t l))
    across {q} one m w₁ h₁ t (no l) =
        let f = falls (omega (arith, n.below)) m in
        omega (
          arith,
          m.in_column,
          m.sum,
          mul-le-mul_left q w₁,
          mul-le-mul_left q wW,
          n.kept h₁ one t (omega arith) (omega (arith, f.above, mul-le-mul_left q h₁)),
        )

-- Step 5, the right child hung, or none.
pub step_ordinary : (k : ℕ) (s : Side) {W H r p w h u : ℕ} {D N : Layout} → H ≤ r → w ≤ W → OrderOn s (at 1 r) D N → HungRectangle 2 (r + 1) w h D →
    Run W (r + h) (r + max 1 h) p u N →
    Run W H r p u (join k (at 1 r) s D N)
unfolding join width
step_ordinary k s {W} {H} {r} {p} {w} {h} {u} {D} {N} le wW o d n = record {
  stands = joined k s d.stands n.stands (record {
    low_a = low_at d.stands (omega arith);
    low_b = low_at n.stands (omega arith);
    apart = λ {q} one s t.
        let i = d.within s in
        omega (arith, i.from_column, (under_at n.stands one t).only (omega (arith, i.to_row, mul-le-mul_left q (biggest (d.some (point_rooted s)).1))));
    clear_a = λ {q} one s t.
        let f = falls (omega arith) (edge_at d.stands s) in
        let z = under_at n.stands one t in
        omega (arith, f.stop (omega (arith, z.rows, mul-le-mul_left q one_max)), z.only (omega (arith, f.above, mul-le-mul_left q one_max)));
    clear_b = λ one s t. let m = edge_at n.stands s in omega (arith, m.in_column, m.sum, (d.within t).from_column);
  }) o;
  wide = omega (arith, wide_join k (at 1 r) s D N, n.wide, d.wide);
  below = omega (arith, n.below);
  under = λ i. omega (arith, n.below);
  free = λ p₁ one t b. join_cases k s t
      (λ i. omega (arith, i.in_column))
      (λ e. let m = edge_at d.stands e in omega (arith, m.in_column, m.sum))
      (λ e. let m = edge_at n.stands e in omega (arith, m.in_column, m.sum))
      (λ z. omega (arith, (d.within z).from_column))
      (λ z. n.free p₁ one z b);
  kept = λ p₁ {q} one t b c. join_cases k s t
      (λ i. absurd (omega (arith, i.in_row, mul-le-mul_left q n.below)))
      (λ e. absurd (omega (arith, (falls (omega arith) (edge_at d.stands e)).above, mul-le-mul_left q n.below, mul-le-mul_left q (d.some e.has).1)))
      (λ e. absurd (omega (arith, (falls (omega arith) (edge_at n.stands e)).above, mul-le-mul_left q (n.under e.has))))
      (λ z. absurd (omega (arith, (d.within z).to_row, mul-le-mul_left q n.below)))
      (λ z. n.kept p₁ one z b c);
}
  where
    one_max : 1 ≤ max 1 h
    one_max = omega arith

    biggest : 1 ≤ h → h ≤ max 1 h
    biggest i = omega arith

-- Step 6. What follows is a drawing of the other hand, from a knee on.
pub step_switch : (k : ℕ) {W H r p w h : ℕ} {D N : Layout} → H ≤ r → w ≤ W → 1 ≤ h → HungRectangle 1 (r + 1) w h D → Knee W (r + h + p) (r + 1) N →
    Run W H r p (r + h + 1) (join k (at 1 r) left D (flip (W + 2) N))
unfolding join width
step_switch k {W} {H} {r} {p} {w} {h} {D} {N} le wW h₁ d n = record {
  stands = joined k left d.stands f (record {
    low_a = low_at d.stands (omega arith);
    low_b = low_at f (omega arith);
    apart = λ {q} one s t. let i = d.within s in
        omega (arith, i.to_column, mul-le-mul_left q wW, n.low one (flipped (W + 2) N fits t) (omega (arith, i.to_row)));
    clear_a = λ one s t. let m = edge_at d.stands s in
        omega (arith, m.in_column, m.sum, (under_at n.stands one (flipped (W + 2) N fits t)).only (falls (omega arith) m).above);
    clear_b = λ {q} one s t. let i = d.within t in omega (arith, (falls (omega arith) (edge_at f s)).stop i.from_row, i.to_column, mul-le-mul_left q wW);
  }) (order_at (at 1 r) d.stands f (λ i j. omega arith));
  wide = omega (arith, width_flip (W + 2) N, d.wide);
  below = omega arith;
  under = λ i. omega arith;
  free = λ p₁ {q} one t b. join_cases k left t
      (λ i. omega (arith, i.in_column))
      (λ e. let m = edge_at d.stands e in omega (arith, m.in_column, m.sum))
      (λ e. let m = edge_at f e in omega (arith, m.in_column, m.sum))
      (λ z. omega (arith, (d.within z).from_column))
      (λ z. omega (arith, n.low one (flipped (W + 2) N fits z) (omega (arith, mul-le-mul_left q p₁))));
  kept = λ p₁ {q} one t b c. join_cases k left t
      (λ i. absurd (omega (arith, i.in_row)))
      (λ e. absurd (omega (arith, (falls (omega arith) (edge_at d.stands e)).above, mul-le-mul_left q h₁)))
      (λ e. absurd (omega (arith, (falls (omega arith) (edge_at f e)).above, mul-le-mul_left q h₁)))
      (λ z. absurd (omega (arith, (d.within z).to_row)))
      (λ z. omega (arith, n.low one (flipped (W + 2) N fits z) (omega arith)));
}
  where
    fits : width N ≤ suc (W + 2)
    fits = omega (arith, n.wide)

    f : UntangledAt (at (W + 2) (r + 1)) (flip (W + 2) N)
    f = record { untangled = untangled_flip (W + 2) fits n.stands.untangled; root = root_flip (W + 2) (r + 1) N n.stands.root }
