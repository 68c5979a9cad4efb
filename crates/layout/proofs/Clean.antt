-- The conditions 21 to 25 (document 01, "What the sheet check says"; document 02, Paper 7) over a layout: the record `Clean`.
-- Nodes and edges go by the way to them from the root, not by their records.
use mathlib.Core.Path.{◌≡◌}
use mathlib.Core.Logic.{◌⊎◌, ◌≢◌}
use Prim.Native.Nat.{ℕ, ◌+◌, ◌*◌, ◌<◌}
use Rattle.segment.specs.declared.Point.{Point}
use Rattle.segment.specs.Segment.{Share, Is, Lies}
use Rattle.table.specs.Table.{Side, left, right}
use Rattle.layout.specs.Layout.{Layout, placed}

-- The subtree on a side.
abbrev pub on_side : Side → Layout → Layout → Layout
on_side left a b = a
on_side right a b = b

-- A layout that has a root.
pub data HasRoot : Layout → Type 0 where
  a_root : {k : ℕ} {P : Point} {a b : Layout} → HasRoot (placed k P a b)

-- Nodes and edges are compared with each other: they are the two kinds of pieces of a layout.
pub data Kind : Type 0 where
  a_node an_edge : Kind

-- The root, its edge to the child on a side, or a piece of the subtree on a side.
pub data Piece : Kind → Layout → Type 0 where
  root : {k : ℕ} {P : Point} {a b : Layout} → Piece a_node (placed k P a b)
  edge : {k : ℕ} {P : Point} {a b : Layout} (s : Side) → HasRoot (on_side s a b) → Piece an_edge (placed k P a b)
  below : {c : Kind} {k : ℕ} {P : Point} {a b : Layout} (s : Side) → Piece c (on_side s a b) → Piece c (placed k P a b)

abbrev pub Node : Layout → Type 0
Node L = Piece a_node L

abbrev pub Edge : Layout → Type 0
Edge L = Piece an_edge L

-- The root of a layout that has one.
abbrev pub top : {L : Layout} → HasRoot L → Node L
top a_root = root

-- A node's point and its record.
abbrev pub point : {L : Layout} → Node L → Point
point (root {P}) = P
point (below s n) = point n

abbrev pub record_of : {L : Layout} → Node L → ℕ
record_of (root {k}) = k
record_of (below s n) = record_of n

-- The two ends of an edge. Those of a node are the node itself.
abbrev pub parent : {c : Kind} {L : Layout} → Piece c L → Node L
parent root = root
parent (edge s h) = root
parent (below s p) = below s (parent p)

abbrev pub child : {c : Kind} {L : Layout} → Piece c L → Node L
child root = root
child (edge s h) = below s (top h)
child (below s p) = below s (child p)

-- The side on which an edge's child is.
abbrev pub side : {L : Layout} → Edge L → Side
side (edge s h) = s
side (below s l) = side l

abbrev pub Ends : {c : Kind} {L : Layout} → Node L → Piece c L → Type 0
Ends n p = (n ≡ parent p) ⊎ (n ≡ child p)

-- The edges share a point.
abbrev pub ShareEdges : {L : Layout} → Edge L → Edge L → Type 0
ShareEdges l m = Share (point (parent l)) (point (child l)) (point (parent m)) (point (child m))

-- The cross product of A − P and B − P, 24's a·d − b·c, is below zero. Over ℕ: what is taken away stands on the other side.
abbrev pub Before : Point → Point → Point → Type 0
Before P A B = P.column * A.row + A.column * B.row + B.column * P.row < P.row * A.column + A.row * B.column + B.row * P.column

pub record Clean (L : Layout) : Type 0 where
  -- 21
  pub distinct : (n m : Node L) → point n ≡ point m → n ≡ m
  -- more than 22 asks: never level
  pub lower : (l : Edge L) → (point (parent l)).row < (point (child l)).row
  -- 23 and 25
  pub planar : (l m : Edge L) → l ≢ m → (h : ShareEdges l m) → (n : Node L) × Ends n l × Ends n m × Is (point n) h.q h.x h.y
  pub clear : (n : Node L) (l : Edge L) → Lies (point n) (point (parent l)) (point (child l)) → Ends n l
  -- 24
  pub ordered : (l m : Edge L) → parent l ≡ parent m → side l ≡ left → side m ≡ right → Before (point (parent l)) (point (child l)) (point (child m))
