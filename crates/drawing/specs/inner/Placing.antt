-- Placing, for the contracts of the drawer's inner functions: what is asked before a subtree is drawn, and what is left of a spine on the way. Nothing here
-- need be believed: the drawer's contract does not cite it.
use Rattle.std.specs.Prelude.{◌≡◌, List, [], ◌∷◌, ℕ, ◌+◌, ◌≤◌, ◌<◌, length, get_or}
use Rattle.table.specs.Lists.{count}
use Rattle.table.specs.Table.{Side}
use Rattle.table.specs.Tree.{Tree, none, size, nodes, tree_at}
use Rattle.table.specs.Trees.{roots, trees}
use Rattle.layout.specs.Spine.{SpineNode, Role, knee, ordinary, switch}
use Rattle.layout.specs.Drawing.{Rest}
use Rattle.layout.specs.Trees.{draw_trees, width_of, height_of}
use Rattle.layout.specs.inner.Held.{inwards, hung_on, height_on, width_on, spine_on, lay, bottom, Inside, Rooms}
use Rattle.roles.specs.inner.Sized.{Named}
use Rattle.roles.specs.Chosen.{side_of}
use Rattle.roles.specs.declared.sides.Side.{Side as CodeSide}
use Rattle.roles.specs.inner.Prepared.{Prepared, Along}
use Rattle.drawing.specs.declared.place.Walk.{Walk}
use Rattle.drawing.specs.declared.spines.Spines.{Spines}
use Rattle.drawing.specs.Answer.{store, store_all}

-- The subtree at record k can be drawn on the side s, its edge c columns inwards from the edge e of a hand, from its top row on: it is measured, and its
-- columns and rows are 16-bit numbers.
pub record Drawable (t roles widest : List ℕ) (s : Side) (k e c top : ℕ) : Type 0 where
  pub named : Named t k
  pub prepared : Prepared roles widest s (tree_at t k)
  pub columns : Inside 65536 s e (c + width_on s (tree_at t k))
  pub rows : top + height_on s (tree_at t k) ≤ 65536

-- It is drawn: the placements, and the first row below.
pub record SubtreeDrawn (t : List ℕ) (s : Side) (k e top : ℕ) (p : List ℕ) (below : ℕ) (p' : List ℕ) : Type 0 where
  pub ends : below ≡ top + height_on s (tree_at t k)
  pub stored : p' ≡ store (hung_on s e top (tree_at t k)) p

-- ---- what is left of a spine, from a node of the hand a and the role o on, in row r; H is the lowest row used before it

-- Before a knee nothing is pending.
unfoldable pub kept : Role → List SpineNode → Tree → Tree
kept o [] Q = Q
kept knee (l ∷ ls) Q = none
kept ordinary (l ∷ ls) Q = Q
kept switch (l ∷ ls) Q = Q

-- The placements when all of it is drawn, and Q, which is pending.
unfoldable pub finish : (a : Side) (e : ℕ) → Tree → Rest → List ℕ → List ℕ
finish a e Q n p = store (hung_on a (inwards a e 1) n.under Q) (store n.drawn p)

unfoldable pub finished : (W : ℕ) (a : Side) (e : ℕ) → Role → (H r : ℕ) → Tree → List SpineNode → List ℕ → List ℕ
finished W a e o H r Q ls p = finish a e (kept o ls Q) (lay a e (inwards a e (W + 2)) o H r (height_on a Q) ls) p

-- Drawing can go on: all is measured, and there are columns and rows for it.
pub record Ready (roles widest : List ℕ) (W : ℕ) (a : Side) (e : ℕ) (o : Role) (H r : ℕ) (Q : Tree) (ls : List SpineNode) : Type 0 where
  pub prepared : Prepared roles widest a Q
  pub along : Along roles widest a o ls
  pub spare : Inside 65536 a e (1 + width_on a Q)
  pub rooms : Rooms 65536 W a e (inwards a e (W + 2)) o ls
  pub rows : bottom a o H r (height_on a Q) ls ≤ 65536

-- ---- the same, of a walk

-- The walk at another node of its spine.
abbrev pub walk_to : Walk → (at row lowest pending : ℕ) → CodeSide → ℕ → Walk
walk_to w at row lowest pending hand edge =
    record { at = at; row = row; lowest = lowest; pending = pending; hand = hand; edge = edge; widest = w.widest; side = w.side }

-- The hand that it is on, the spine from its node on, the first row below all that is left, and the placements when that is drawn.
abbrev pub hand_at : Walk → Side
hand_at w = side_of w.hand

abbrev pub spine_from : List ℕ → Walk → List SpineNode
spine_from t w = spine_on (side_of w.side) (tree_at t w.at)

abbrev pub row_below : List ℕ → Role → Walk → ℕ
row_below t o w = bottom (hand_at w) o w.lowest w.row (height_on (hand_at w) (tree_at t w.pending)) (spine_from t w)

abbrev pub remaining : List ℕ → Role → Walk → List ℕ → List ℕ
remaining t o w p = finished w.widest (hand_at w) w.edge o w.lowest w.row (tree_at t w.pending) (spine_from t w) p

-- Drawing can go on: its node and the pending child are chained records or zero, their subtrees have no record twice, and there is room.
pub record Going (t roles widest : List ℕ) (o : Role) (w : Walk) : Type 0 where
  pub named : Named t w.at
  pub named_pending : Named t w.pending
  pub once : (k : ℕ) → count k (nodes (tree_at t w.pending)) + count k (nodes (tree_at t w.at)) ≤ 1
  pub ready : Ready roles widest w.widest (hand_at w) w.edge o w.lowest w.row (tree_at t w.pending) (spine_from t w)

-- How many nodes are not placed yet.
abbrev pub unplaced : List ℕ → Walk → ℕ
unplaced t w = size (tree_at t w.at) + size (tree_at t w.pending)

-- One node further: what is left gives the same placements and ends in the same row, and is less.
pub record Stepped (t roles widest : List ℕ) (o : Role) (w : Walk) (p : List ℕ) (w' : Walk) (p' : List ℕ) : Type 0 where
  pub role : Role
  pub going : Going t roles widest role w'
  pub same : remaining t role w' p' ≡ remaining t o w p
  pub as_deep : row_below t role w' ≡ row_below t o w
  pub fewer : unplaced t w' < unplaced t w
  pub shorter : size (tree_at t w'.at) < size (tree_at t w.at)

-- Nothing but the points differs, and as many points are lent.
pub record Kept (before after : Spines) : Type 0 where
  pub table : after.subtrees.table.now ≡ before.subtrees.table.now
  pub roles : after.roles.now ≡ before.roles.now
  pub widest : after.widest.now ≡ before.widest.now
  pub same : after.points.ghost_name ≡ before.points.ghost_name
  pub long : length after.points.now ≡ length before.points.now

-- ---- several trees

-- The roots lead the order.
pub record Led (t order : List ℕ) : Type 0 where
  pub long : length (roots t) ≤ length order
  pub led : (i : ℕ) → i < length (roots t) → get_or order i 0 ≡ get_or (roots t) i 0

-- All trees are drawn: how wide they are, the first row below, and the placements.
pub record TreesDrawn (t p : List ℕ) (wide below : ℕ) (p' : List ℕ) : Type 0 where
  pub width : wide ≡ width_of (draw_trees (trees t))
  pub height : below ≡ height_of (draw_trees (trees t))
  pub stored : p' ≡ store_all (draw_trees (trees t)) p
