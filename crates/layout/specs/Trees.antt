-- Several trees, one under the other (document 02, Paper 8).
use Rattle.std.specs.Prelude.{List, [], ◌∷◌, ℕ, ◌+◌, max}
use Rattle.table.specs.Tree.{Tree}
use Rattle.layout.specs.Layout.{Layout, width, height, shift}
use Rattle.layout.specs.Drawing.{draw}

-- Each tree "set with its root at column 0 in the row under the tree before": their drawings, the first with its top at row r. In a drawing the root is at
-- column 0 in the top row (`RootsBelow`, promises).
unfoldable pub draw_from : ℕ → List Tree → List Layout
draw_from r [] = []
draw_from r (a ∷ ts) = shift 0 r (draw a) ∷ draw_from (r + height (draw a)) ts

-- The drawing of the trees of a table.
abbrev pub draw_trees : List Tree → List Layout
draw_trees ts = draw_from 0 ts

-- "Width is the greatest column of a box plus 1", "height the greatest row plus 1", of all of them
unfoldable pub width_of : List Layout → ℕ
width_of [] = 0
width_of (L ∷ Ls) = max (width L) (width_of Ls)

unfoldable pub height_of : List Layout → ℕ
height_of [] = 0
height_of (L ∷ Ls) = max (height L) (height_of Ls)
