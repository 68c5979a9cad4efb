-- The motions keep a drawing untangled (`untangled_shift`, `untangled_flip`): a point of the moved drawing is a point of the drawing, moved back
-- (`shifted`, `flipped`). A shifted drawing is within its rectangle (`shift_within`) and reaches its far edges (`edge_wide`, `height_below`).
use mathlib.Core.Path.{◌≡◌, refl, ap, ap₂}
use Prim.Native.Nat.{ℕ, suc, ◌+◌, ◌*◌, ◌-◌, ◌≤◌, max}
use native.Mathlib.Omega.{arith}
use Rattle.segment.specs.declared.Point.{Point}
use Rattle.segment.specs.Segment.{at}
use Rattle.segment.proofs.Weights.{Weights, weighed}
use Rattle.table.specs.Table.{left, right}
use Rattle.layout.specs.Layout.{Layout, blank, placed, width, height, shift, flip, RootAt}
use Rattle.layout.proofs.Clean.{HasRoot, a_root, Kind, Piece, root, edge, below, Node, top, point, Before}
use Rattle.layout.proofs.Points.{Along, PointOf, point_on, EdgeTo, point_edge, point_below, Lower, Order, exchange, Untangled, bare, fork, NodeInWindow}
use Rattle.layout.proofs.Points.{InWindow, point_within}

-- ---- shift

weights_shifted : {P Q : Point} {q x y : ℕ} (e t : ℕ) → Weights (at (e + P.column) (t + P.row)) (at (e + Q.column) (t + Q.row)) q x y →
    Weights P Q q (x - q * e) (y - q * t)
weights_shifted e t m = record {
  u = m.u;
  v = m.v;
  sum = m.sum;
  in_column = omega (arith, m.in_column, weighed m e);
  in_row = omega (arith, m.in_row, weighed m t);
}

edge_shifted : {P : Point} {q x y : ℕ} (e t : ℕ) (L : Layout) (h : HasRoot (shift e t L)) → Weights (at (e + P.column) (t + P.row)) (point (top h)) q x y →
    EdgeTo P q (x - q * e) (y - q * t) L
unfolding shift
edge_shifted e t blank h m = elim h [ ]
edge_shifted e t (placed k Q a b) a_root m = record { has = a_root; on = weights_shifted e t m }

piece_shifted : {c : Kind} {q x y : ℕ} (e t : ℕ) (L : Layout) (p : Piece c (shift e t L)) → Along p q x y → PointOf q (x - q * e) (y - q * t) L
unfolding shift
piece_shifted e t blank p m = elim p [ ]
piece_shifted e t (placed k P a b) root m = point_on root (weights_shifted e t m)
piece_shifted e t (placed k P a b) (edge left h) m = point_edge left (edge_shifted e t a h m)
piece_shifted e t (placed k P a b) (edge right h) m = point_edge right (edge_shifted e t b h m)
piece_shifted e t (placed k P a b) (below left p) m = point_below left (piece_shifted e t a p m)
piece_shifted e t (placed k P a b) (below right p) m = point_below right (piece_shifted e t b p m)

pub shifted : {q x y : ℕ} (e t : ℕ) (L : Layout) → PointOf q x y (shift e t L) → PointOf q (x - q * e) (y - q * t) L
shifted e t L z = piece_shifted e t L z.piece z.on

low_shift : (e t m : ℕ) (L : Layout) → Lower m L → Lower (t + m) (shift e t L)
unfolding shift
low_shift e t m blank h = tt
low_shift e t m (placed k Q a b) h = omega arith

order_shift : (e t : ℕ) (P : Point) (a b : Layout) → Order P a b → Order (at (e + P.column) (t + P.row)) (shift e t a) (shift e t b)
unfolding shift
order_shift e t P blank b h = tt
order_shift e t P (placed i A a a') blank h = tt
order_shift e t P (placed i A a a') (placed j B b b') h = omega arith

pub untangled_shift : (e t : ℕ) {L : Layout} → Untangled L → Untangled (shift e t L)
unfolding shift
untangled_shift e t bare = bare
untangled_shift e t (fork {P} {a} {b} c d j o) = fork (untangled_shift e t c) (untangled_shift e t d) (record {
  low_a = low_shift e t P.row a j.low_a;
  low_b = low_shift e t P.row b j.low_b;
  apart = λ one h i. j.apart one (shifted e t a h) (shifted e t b i);
  clear_a = λ one h i. j.clear_a one (edge_shifted e t a h.has h.on) (shifted e t b i);
  clear_b = λ one h i. j.clear_b one (edge_shifted e t b h.has h.on) (shifted e t a i);
}) (order_shift e t P a b o)

node_within : (e w t h : ℕ) (L : Layout) → width L ≤ w → height L ≤ h → (n : Node (shift e t L)) → NodeInWindow e w t h n
unfolding shift width height
node_within e w t h blank i j n = elim n [ ]
node_within e w t h (placed k P a b) i j root = omega arith
node_within e w t h (placed k P a b) i j (below left n) = node_within e w t h a (omega arith) (omega arith) n
node_within e w t h (placed k P a b) i j (below right n) = node_within e w t h b (omega arith) (omega arith) n

-- A drawing with its left edge at column e and its top row at row t.
pub shift_within : (e t : ℕ) {q x y : ℕ} (L : Layout) → PointOf q x y (shift e t L) → InWindow e (width L) t (height L) q x y
shift_within e t L z = point_within e (width L) t (height L) (node_within e (width L) t (height L) L (omega arith) (omega arith)) z

-- The farther of two, from e on, where e is reached anyway.
farther : (e a b a' b' : ℕ) → max e a' ≡ e + a → max e b' ≡ e + b → max e (max a' b') ≡ e + max a b
farther e a b a' b' h i = omega arith

-- A drawing whose edge is at column e, and a node left of it.
pub edge_wide : (e t : ℕ) (L : Layout) → max e (width (shift e t L)) ≡ e + width L
unfolding shift width
edge_wide e t blank = omega arith
edge_wide e t (placed k P a b) = omega (arith, farther e (width a) (width b) _ _ (edge_wide e t a) (edge_wide e t b))

-- A drawing that keeps its columns is as wide.
pub width_home : (t : ℕ) (L : Layout) → width (shift 0 t L) ≡ width L
width_home t L = omega (arith, edge_wide 0 t L)

-- A drawing whose top row is row t, and a node above it.
pub height_below : (e t : ℕ) (L : Layout) → max t (height (shift e t L)) ≡ t + height L
unfolding shift height
height_below e t blank = omega arith
height_below e t (placed k P a b) = omega (arith, farther t (height a) (height b) _ _ (height_below e t a) (height_below e t b))

pub same_node : {k c c' r r' : ℕ} {x x' y y' : Layout} → c ≡ c' → r ≡ r' → x ≡ x' → y ≡ y' → placed k (at c r) x y ≡ placed k (at c' r') x' y'
same_node c r x y = cc

pub shift_none : (L : Layout) → shift 0 0 L ≡ L
unfolding shift
shift_none blank = refl
shift_none (placed k P a b) = same_node (omega arith) (omega arith) (shift_none a) (shift_none b)

pub root_shift : (e t : ℕ) (L : Layout) → RootAt (at 0 0) L → RootAt (at e t) (shift e t L)
unfolding shift
root_shift e t blank h = tt
root_shift e t (placed k P a b) h = ap₂ at (omega (arith, ap (λ (Q : Point). Q.column) h)) (omega (arith, ap (λ (Q : Point). Q.row) h))

-- ---- flip

module _ (e : ℕ) where
  weights_flipped : {P Q : Point} {q x y : ℕ} → P.column ≤ e → Q.column ≤ e → Weights (at (e - P.column) P.row) (at (e - Q.column) Q.row) q x y →
      Weights P Q q (q * e - x) y
  weights_flipped {P} {Q} h k m =
      let f : e - P.column + P.column ≡ e = omega arith in
      let g : e - Q.column + Q.column ≡ e = omega arith in
      record {
        u = m.u;
        v = m.v;
        sum = m.sum;
        in_column = omega (arith, m.in_column, weighed m e, ap (λ (n : ℕ). m.u * n) f, ap (λ (n : ℕ). m.v * n) g);
        in_row = m.in_row;
      }

  edge_flipped : {P : Point} {q x y : ℕ} → P.column ≤ e → (L : Layout) → width L ≤ suc e → (h : HasRoot (flip e L)) →
      Weights (at (e - P.column) P.row) (point (top h)) q x y → EdgeTo P q (q * e - x) y L
  unfolding flip width
  edge_flipped h blank w h' m = elim h' [ ]
  edge_flipped h (placed k Q a b) w a_root m = record { has = a_root; on = weights_flipped h (omega arith) m }

  piece_flipped : {c : Kind} {q x y : ℕ} (L : Layout) → width L ≤ suc e → (p : Piece c (flip e L)) → Along p q x y → PointOf q (q * e - x) y L
  unfolding flip width
  piece_flipped blank w p m = elim p [ ]
  piece_flipped (placed k P a b) w root m = point_on root (weights_flipped (omega arith) (omega arith) m)
  piece_flipped (placed k P a b) w (edge left h) m = point_edge right (edge_flipped (omega arith) b (omega arith) h m)
  piece_flipped (placed k P a b) w (edge right h) m = point_edge left (edge_flipped (omega arith) a (omega arith) h m)
  piece_flipped (placed k P a b) w (below left p) m = point_below right (piece_flipped b (omega arith) p m)
  piece_flipped (placed k P a b) w (below right p) m = point_below left (piece_flipped a (omega arith) p m)

  pub flipped : {q x y : ℕ} (L : Layout) → width L ≤ suc e → PointOf q x y (flip e L) → PointOf q (q * e - x) y L
  flipped L w z = piece_flipped L w z.piece z.on

  low_flip : (m : ℕ) (L : Layout) → Lower m L → Lower m (flip e L)
  unfolding flip
  low_flip m blank h = tt
  low_flip m (placed k Q a b) h = h

  order_flip : (P : Point) (a b : Layout) → P.column ≤ e → width a ≤ suc e → width b ≤ suc e → Order P a b →
      Order (at (e - P.column) P.row) (flip e b) (flip e a)
  unfolding flip width
  order_flip P blank blank h i j z = tt
  order_flip P blank (placed k B b b') h i j z = tt
  order_flip P (placed k A a a') blank h i j z = tt
  order_flip P (placed k A a a') (placed l B b b') h i j z =
      turn P.column A.column B.column _ _ _ P.row A.row B.row (omega arith) (omega arith) (omega arith) z
    where
      turn : (p a b p' a' b' p₂ a₂ b₂ : ℕ) → p + p' ≡ e → a + a' ≡ e → b + b' ≡ e → Before (at p p₂) (at a a₂) (at b b₂) →
          Before (at p' p₂) (at b' b₂) (at a' a₂)
      turn p a b p' a' b' p₂ a₂ b₂ f g h z = omega (
        arith,
        ap (λ (n : ℕ). n * a₂) f,
        ap (λ (n : ℕ). n * b₂) f,
        ap (λ (n : ℕ). n * b₂) g,
        ap (λ (n : ℕ). n * p₂) g,
        ap (λ (n : ℕ). n * p₂) h,
        ap (λ (n : ℕ). n * a₂) h,
      )

  pub untangled_flip : {L : Layout} → width L ≤ suc e → Untangled L → Untangled (flip e L)
  unfolding flip width
  untangled_flip w bare = bare
  untangled_flip w (fork {P} {a} {b} c d j o) =
      let wa : width a ≤ suc e = omega arith in
      let wb : width b ≤ suc e = omega arith in
      let wp : P.column ≤ e = omega arith in
      fork (untangled_flip wb d) (untangled_flip wa c) (exchange (record {
        low_a = low_flip P.row a j.low_a;
        low_b = low_flip P.row b j.low_b;
        apart = λ one h i. j.apart one (flipped a wa h) (flipped b wb i);
        clear_a = λ one h i. j.clear_a one (edge_flipped wp a wa h.has h.on) (flipped b wb i);
        clear_b = λ one h i. j.clear_b one (edge_flipped wp b wb h.has h.on) (flipped a wa i);
      })) (order_flip P a b wp wa wb o)

  pub width_flip : (L : Layout) → width (flip e L) ≤ suc e
  unfolding flip width
  width_flip blank = omega arith
  width_flip (placed k P a b) = omega (arith, width_flip a, width_flip b)

  pub height_flip : (L : Layout) → height (flip e L) ≡ height L
  unfolding flip height
  height_flip blank = refl
  height_flip (placed k P a b) = omega (arith, height_flip a, height_flip b)

  pub root_flip : (r : ℕ) (L : Layout) → RootAt (at 0 r) L → RootAt (at e r) (flip e L)
  unfolding flip
  root_flip r blank h = tt
  root_flip r (placed k P a b) h = ap₂ at (omega (arith, ap (λ (Q : Point). Q.column) h)) (ap (λ (Q : Point). Q.row) h)
