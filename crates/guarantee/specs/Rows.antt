-- No gaps, no shared rows (document 02, Paper 9), for the bytes t and the placements p: what an accepted plan keeps, in the placements as the drawer left them.
use Rattle.std.specs.Prelude.{◌≡◌, List, ℕ, ◌<◌, T}
use Rattle.table.specs.Lists.{member}
use Rattle.table.specs.Table.{Chained}
use Rattle.table.specs.Tree.{Tree, tree_at}
use Rattle.table.specs.Trees.{roots}
use Rattle.layout.specs.Rectangle.{DrawnIn, OccupiesRow, SpinesApart, Beneath}
use Rattle.drawing.specs.Answer.{drawn_of, placed_in}
use Rattle.placements.specs.Placements.{point_of}

-- "For every spine in a plain plan": of each tree, with k for its root
abbrev pub NoSharedRows : (t p : List ℕ) → Type 0
NoSharedRows t p = (k : ℕ) → T (member k (roots t)) → SpinesApart (point_of (placed_in t p)) (tree_at t k)

-- "When I cover a branch with a ruler I want nothing of its neighbour beneath it": with U for the branch, of the tree with the root k, and b for any
-- chained node in its rows
abbrev pub UnderRuler : (t p : List ℕ) → Type 0
UnderRuler t p =
    (k b : ℕ) (U : Tree) → T (member k (roots t)) → Chained t b → DrawnIn (tree_at t k) U →
    OccupiesRow (point_of (placed_in t p)) U (point_of (placed_in t p) b).row → Beneath (tree_at t k) b U

-- A chained node is in row x.
pub record RowHeld (t p : List ℕ) (x : ℕ) : Type 0 where
  pub k : ℕ
  pub chained : Chained t k
  pub row : (point_of (placed_in t p) k).row ≡ x

-- "Every row from 0 to the height less 1 holds a box."
abbrev pub NoGaps : (t p : List ℕ) → Type 0
NoGaps t p = (x : ℕ) → x < (drawn_of t p).plan.height → RowHeld t p x
