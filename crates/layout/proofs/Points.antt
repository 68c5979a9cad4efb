-- The points of a drawing, and `Untangled`: the form of 21 to 25 in which the argument goes, by induction over the layout.
-- An untangled drawing has its root alone in its top row (`under_top`), and a drawing's points are in the rectangle of its nodes (`point_within`). Rests on the
-- weights of a point of a segment.
use mathlib.Core.Path.{◌≡◌, ap, subst, ◌∙◌}
use Prim.Native.Nat.{ℕ, suc, ◌+◌, ◌*◌, ◌≤◌, ◌<◌}
use native.Mathlib.Nat.{mul-le-mul_left}
use native.Mathlib.Omega.{arith}
use Rattle.segment.specs.declared.Point.{Point}
use Rattle.segment.proofs.Weights.{Weights, turned, weighed, at_end}
use Rattle.table.specs.Table.{Side, left, right}
use Rattle.layout.specs.Layout.{Layout, blank, placed, height, RootAt}
use Rattle.layout.proofs.Clean.{on_side, HasRoot, a_root, Kind, Piece, root, edge, below, Node, top, point, parent, child, Before}

-- ---- points of a segment

-- A point of a segment that falls is between the rows of its ends, and in the row of an end only at that end.
pub record Falls (P Q : Point) (q x y : ℕ) : Type 0 where
  pub over : q * P.row ≤ y
  pub above : y ≤ q * Q.row
  pub start : y ≤ q * P.row → x ≡ q * P.column
  pub stop : q * Q.row ≤ y → x ≡ q * Q.column

pub falls : {P Q : Point} {q x y : ℕ} → P.row < Q.row → Weights P Q q x y → Falls P Q q x y
falls {P} {Q} h m = record {
  over = omega (arith, mul-le-mul_left m.v h, m.in_row, weighed m P.row);
  above = omega (arith, mul-le-mul_left m.u h, m.in_row, weighed m Q.row);
  start = λ l. (at_end m (omega (arith, mul-le-mul_left m.v h, m.in_row, weighed m P.row))).in_column;
  stop = λ l. (at_end (turned m) (omega (arith, mul-le-mul_left m.u h, m.in_row, weighed m Q.row))).in_column;
}

-- ---- points of a drawing

abbrev pub Along : {c : Kind} {L : Layout} → Piece c L → (q x y : ℕ) → Type 0
Along p q x y = Weights (point (parent p)) (point (child p)) q x y

-- (x, y) / q is a point of the drawing.
pub record PointOf (q x y : ℕ) (L : Layout) : Type 0 where
  pub kind : Kind
  pub piece : Piece kind L
  pub on : Along piece q x y

abbrev pub point_on : {c : Kind} {q x y : ℕ} {L : Layout} (p : Piece c L) → Along p q x y → PointOf q x y L
point_on {c} p m = record { kind = c; piece = p; on = m }

pub rooted_high : {L : Layout} → HasRoot L → 1 ≤ height L
unfolding height
rooted_high a_root = omega arith

piece_rooted : {c : Kind} {L : Layout} → Piece c L → HasRoot L
piece_rooted root = a_root
piece_rooted (edge s h) = a_root
piece_rooted (below s p) = a_root

pub point_rooted : {q x y : ℕ} {L : Layout} → PointOf q x y L → HasRoot L
point_rooted t = piece_rooted t.piece

-- (x, y) / q is a point of the edge from P to the root of a drawing.
pub record EdgeTo (P : Point) (q x y : ℕ) (L : Layout) : Type 0 where
  pub has : HasRoot L
  pub on : Weights P (point (top has)) q x y

pub point_edge : {k : ℕ} {P : Point} {q x y : ℕ} {a b : Layout} (s : Side) → EdgeTo P q x y (on_side s a b) → PointOf q x y (placed k P a b)
point_edge s e = point_on (edge s e.has) e.on

pub point_below : {k : ℕ} {P : Point} {q x y : ℕ} {a b : Layout} (s : Side) → PointOf q x y (on_side s a b) → PointOf q x y (placed k P a b)
point_below s t = point_on (below s t.piece) t.on

-- The root, if there is one, is lower than row m; is at Q.
abbrev pub Lower : ℕ → Layout → Type 0
Lower m blank = Unit {0}
Lower m (placed k P a b) = m < P.row

-- ---- untangled drawings

-- 24: the left child before the right one.
abbrev pub Order : Point → Layout → Layout → Type 0
Order P blank b = Unit {0}
Order P (placed i A a a') blank = Unit {0}
Order P (placed i A a a') (placed j B b b') = Before P A B

-- The drawings of the two subtrees of a node at P are below it and apart, and the edge to each is clear of the other.
pub record Apart (P : Point) (a b : Layout) : Type 0 where
  pub low_a : Lower P.row a
  pub low_b : Lower P.row b
  pub apart : {q x y : ℕ} → 1 ≤ q → PointOf q x y a → PointOf q x y b → ⊥
  pub clear_a : {q x y : ℕ} → 1 ≤ q → EdgeTo P q x y a → PointOf q x y b → ⊥
  pub clear_b : {q x y : ℕ} → 1 ≤ q → EdgeTo P q x y b → PointOf q x y a → ⊥

pub exchange : {P : Point} {a b : Layout} → Apart P a b → Apart P b a
exchange j = record { low_a = j.low_b; low_b = j.low_a; apart = λ one s t. j.apart one t s; clear_a = j.clear_b; clear_b = j.clear_a }

pub data Untangled : Layout → Type 0 where
  bare : Untangled blank
  fork : {k : ℕ} {P : Point} {a b : Layout} → Untangled a → Untangled b → Apart P a b → Order P a b → Untangled (placed k P a b)

-- What holds of both subtrees, of the one on a side.
pub low : {P : Point} {a b : Layout} → Apart P a b → (s : Side) → Lower P.row (on_side s a b)
low j left = j.low_a
low j right = j.low_b

pub untangled : {a b : Layout} → Untangled a → Untangled b → (s : Side) → Untangled (on_side s a b)
untangled c d left = c
untangled c d right = d

-- ---- the top row of an untangled drawing

lower_all : {L : Layout} → Untangled L → {m : ℕ} → Lower m L → (n : Node L) → m < (point n).row
lower_all bare h n = elim n [ ]
lower_all (fork c d j o) h root = h
lower_all (fork {P} c d j o) h (below s n) = omega (arith, lower_all (untangled c d s) {m = P.row} (low j s) n)

pub deep : {q x y : ℕ} {L : Layout} → Untangled L → (m : ℕ) → Lower m L → PointOf q x y L → q * m + q ≤ y
deep c m h t = omega (
  arith,
  t.on.in_row,
  mul-le-mul_left t.on.u (lower_all c h (parent t.piece)),
  mul-le-mul_left t.on.v (lower_all c h (child t.piece)),
  weighed t.on (suc m),
)

pub low_top : {L : Layout} {m : ℕ} → Lower m L → (h : HasRoot L) → m < (point (top h)).row
low_top l a_root = l

-- (x, y) / q is not above the row of P, and in that row only at P.
pub record Under (P : Point) (q x y : ℕ) : Type 0 where
  pub rows : q * P.row ≤ y
  pub only : y ≤ q * P.row → x ≡ q * P.column

under_piece : {L : Layout} {c : Kind} {q x y : ℕ} → Untangled L → (h : HasRoot L) → 1 ≤ q → (p : Piece c L) → Along p q x y → Under (point (top h)) q x y
under_piece bare h one p m = elim h [ ]
under_piece (fork {P} c d j o) a_root one root m =
    record { rows = omega (arith, m.in_row, weighed m P.row); only = λ l. m.in_column ∙ weighed m P.column }
under_piece (fork c d j o) a_root one (edge s h) m = let f = falls (low_top (low j s) h) m in record { rows = f.over; only = f.start }
under_piece (fork {P} c d j o) a_root one (below s p) m = let h = deep (untangled c d s) P.row (low j s) (point_on p m) in
    record { rows = omega arith; only = λ l. absurd (omega arith) }

-- The top row holds the root alone.
pub under_top : {L : Layout} {q x y : ℕ} → Untangled L → (h : HasRoot L) → 1 ≤ q → PointOf q x y L → Under (point (top h)) q x y
under_top c h one t = under_piece c h one t.piece t.on

-- ---- a root whose place is known

-- Untangled, with its root, if there is one, at Q.
pub record UntangledAt (Q : Point) (L : Layout) : Type 0 where
  pub untangled : Untangled L
  pub root : RootAt Q L

top_at : {L : Layout} (Q : Point) → RootAt Q L → (h : HasRoot L) → point (top h) ≡ Q
top_at Q e a_root = e

pub low_at : {L : Layout} {m : ℕ} {Q : Point} → UntangledAt Q L → m < Q.row → Lower m L
low_at {L} {m} {Q} z l = go L z.root
  where
    go : (L : Layout) → RootAt Q L → Lower m L
    go blank h = tt
    go (placed k P a b) h = omega (arith, ap (λ (R : Point). R.row) h)

pub edge_at : {L : Layout} {P Q : Point} {q x y : ℕ} → UntangledAt Q L → EdgeTo P q x y L → Weights P Q q x y
edge_at {P} {Q} {q} {x} {y} z e = subst (λ (R : Point). Weights P R q x y) (top_at Q z.root e.has) e.on

pub under_at : {L : Layout} {Q : Point} {q x y : ℕ} → UntangledAt Q L → 1 ≤ q → PointOf q x y L → Under Q q x y
under_at {Q} {q} {x} {y} z one t = let r = point_rooted t in subst (λ (R : Point). Under R q x y) (top_at Q z.root r) (under_top z.untangled r one t)

pub order_at : (P : Point) {A B : Point} {a b : Layout} → UntangledAt A a → UntangledAt B b → (HasRoot a → HasRoot b → Before P A B) → Order P a b
order_at P {A} {B} {a} {b} z w t = go a b z.root w.root t
  where
    go : (a b : Layout) → RootAt A a → RootAt B b → (HasRoot a → HasRoot b → Before P A B) → Order P a b
    go blank b h i t = tt
    go (placed k R a a') blank h i t = tt
    go (placed k R a a') (placed l S b b') h i t = rw (h, i) (t a_root a_root)

-- ---- rectangles

-- (x, y) / q is in the w columns from e on and in the h rows from t on.
pub record InWindow (e w t h q x y : ℕ) : Type 0 where
  pub from_column : q * e ≤ x
  pub to_column : x + q ≤ q * (e + w)
  pub from_row : q * t ≤ y
  pub to_row : y + q ≤ q * (t + h)

abbrev pub NodeInWindow : (e w t h : ℕ) {L : Layout} → Node L → Type 0
NodeInWindow e w t h n = InWindow e w t h 1 (point n).column (point n).row

-- A drawing's points are in the rectangle that its nodes are in.
pub point_within : (e w t h : ℕ) {q x y : ℕ} {L : Layout} → ((n : Node L) → NodeInWindow e w t h n) → PointOf q x y L → InWindow e w t h q x y
point_within e w t h {q} {x} {y} all z = go (all (parent z.piece)) (all (child z.piece)) z.on
  where
    go : {P Q : Point} → InWindow e w t h 1 P.column P.row → InWindow e w t h 1 Q.column Q.row → Weights P Q q x y → InWindow e w t h q x y
    go i j m = record {
      from_column = omega (arith, m.in_column, mul-le-mul_left m.u i.from_column, mul-le-mul_left m.v j.from_column, weighed m e);
      to_column = omega (arith, m.in_column, m.sum, mul-le-mul_left m.u i.to_column, mul-le-mul_left m.v j.to_column, weighed m (e + w));
      from_row = omega (arith, m.in_row, mul-le-mul_left m.u i.from_row, mul-le-mul_left m.v j.from_row, weighed m t);
      to_row = omega (arith, m.in_row, m.sum, mul-le-mul_left m.u i.to_row, mul-le-mul_left m.v j.to_row, weighed m (t + h));
    }
