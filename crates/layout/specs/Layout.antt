-- Layouts: a tree with a point at each node, their extents and motions (document 01, "Words of the sheet" and steps 3 and 7).
use Rattle.std.specs.Prelude.{◌≡◌, ℕ, suc, ◌+◌, ◌-◌, max}
use Rattle.segment.specs.declared.Point.{Point}
use Rattle.segment.specs.Segment.{at}
use Rattle.table.specs.Tree.{Tree, none, node}

-- "A plan gives each box a column .. and a row": columns count from the edge that holds the drawing, rows from its top.
pub data Layout : Type 0 where
  blank : Layout
  placed : ℕ → Point → Layout → Layout → Layout

-- "Width is the greatest column of a box plus 1", "0 for an empty tree"
unfoldable pub width : Layout → ℕ
width blank = 0
width (placed k P a b) = max (suc P.column) (max (width a) (width b))

-- "height the greatest row plus 1"
unfoldable pub height : Layout → ℕ
height blank = 0
height (placed k P a b) = max (suc P.row) (max (height a) (height b))

-- Its root, if there is one, is at Q.
abbrev pub RootAt : Point → Layout → Type 0
RootAt Q blank = Unit {0}
RootAt Q (placed k P a b) = P ≡ Q

-- The drawing with its left edge at column e and its top row at row t. Sums only.
unfoldable pub shift : ℕ → ℕ → Layout → Layout
shift e t blank = blank
shift e t (placed k P a b) = placed k (at (e + P.column) (t + P.row)) (shift e t a) (shift e t b)

-- "flipped left to right" (step 3), "left and right exchanged and column k read as" e − k (step 7). The difference never cuts off: what the steps flip at
-- W + 2 is at most W + 3 wide (`FlipsWhole`, promises).
unfoldable pub flip : ℕ → Layout → Layout
flip e blank = blank
flip e (placed k P a b) = placed k (at (e - P.column) P.row) (flip e b) (flip e a)

-- "the mirror image" of a tree (step 3)
unfoldable pub mirror : Tree → Tree
mirror none = none
mirror (node k a b) = node k (mirror b) (mirror a)
