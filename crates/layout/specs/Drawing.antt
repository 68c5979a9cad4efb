-- The drawing: steps 3 to 8 of document 01, "The drawing steps" (document 004, Steps 3 to 6). Placing is handed the roles and chooses none.
use Rattle.std.specs.Prelude.{List, [], ◌∷◌, map, ℕ, zero, suc, ◌+◌, max}
use Rattle.segment.specs.declared.Point.{Point}
use Rattle.segment.specs.Segment.{at}
use Rattle.table.specs.Table.{Side, left, right}
use Rattle.table.specs.Tree.{Tree, size}
use Rattle.layout.specs.Layout.{Layout, blank, placed, width, height, shift, flip}
use Rattle.layout.specs.Spine.{Role, knee, ordinary, switch, hangs, spine, Assigned, assigned, roles}

-- A spine node with its role, and with what hangs from it drawn.
pub data Part : Type 0 where
  part : Role → ℕ → Side → Layout → Part

-- Step 3: what hangs from a spine node is drawn, by d.
unfoldable pub hang : (Tree → Layout) → Assigned → Part
hang d (assigned o (hangs k s t)) = part o k s (d t)

-- "W is the greatest width among the drawings of all hung subtrees of this spine, 0 if there are none"
unfoldable pub widest : List Part → ℕ
widest [] = 0
widest (part o k s D ∷ ps) = max (width D) (widest ps)

-- A spine node at P: the drawing D of its child off the spine, on the side s, and the layout N from the next spine node on, on the other.
unfoldable pub join : ℕ → Point → Side → Layout → Layout → Layout
join k P left D N = placed k P D N
join k P right D N = placed k P N D

-- What is drawn from a spine node on, and the top row of the drawing that is pending at the knee before it.
pub record Rest : Type 0 where
  pub drawn : Layout
  pub under : ℕ

-- Steps 4 to 8, for a spine node in row r, in the columns of its hand: a knee is in column 0, the others in column 1. H is the lowest row used before it,
-- p the height of what is pending.
unfoldable pub place : (W H r p : ℕ) → List Part → Rest
-- Step 8: the spine has ended; what is pending goes at row H + 1.
place W H r p [] = record { drawn = blank; under = H + 1 }
-- Step 4, the right child hung (or none): its drawing at row H + 1, left edge at column 1; the next node one row below it. H' is document 01's H at the knee,
-- whose own row counts.
place W H r p (part knee k right D ∷ ps) =
    let H' : ℕ = max H r in
    let n : Rest = place W (H' + height D) (H' + height D + 1) 0 ps in
    record { drawn = placed k (at 0 r) n.drawn (shift 1 (H' + 1) D); under = n.under }
-- Step 4, the left child hung (or none): the next node in row H + 1, the left child pending.
place W H r p (part knee k left D ∷ ps) =
    let H' : ℕ = max H r in
    let n : Rest = place W H' (H' + 1) (height D) ps in
    record { drawn = placed k (at 0 r) (shift 1 n.under D) n.drawn; under = n.under }
-- Step 5: the drawing at row r + 1, left edge at column 2; the next node on its bottom row, or in row r + 1. In a run r is the lowest row used so far.
place W H r p (part ordinary k s D ∷ ps) =
    let n : Rest = place W (r + height D) (r + max 1 (height D)) p ps in
    record { drawn = join k (at 1 r) s (shift 2 (r + 1) D) n.drawn; under = n.under }
-- Step 6: the drawing at row r + 1, left edge at column 1; the pending one directly under it; the next node in row r + 1, a knee of the other hand, whose
-- columns k are W + 2 − k here (step 7).
place W H r p (part switch k s D ∷ ps) =
    let n : Rest = place W (r + height D + p) (r + 1) 0 ps in
    record { drawn = join k (at 1 r) s (shift 1 (r + 1) D) (flip (W + 2) n.drawn); under = r + height D + 1 }

-- All the steps, with d for the hung subtrees. Step 1: the first node is in row 0.
unfoldable pub steps : (Tree → Layout) → Tree → Layout
steps d t = let ps : List Part = map (hang d) (roles (spine t)) in (place (widest ps) 0 0 0 ps).drawn

-- Step 3: "drawn by these same steps"; n bounds the size of the tree, which falls from a tree to its hung subtrees. The bound is never felt: `draw t` is
-- `steps draw t`, for every tree (`DrawnBySteps`, promises).
unfoldable pub drawing : ℕ → Tree → Layout
drawing zero t = blank
drawing (suc n) t = steps (drawing n) t

-- The drawing of a tree.
unfoldable pub draw : Tree → Layout
draw t = drawing (size t) t
