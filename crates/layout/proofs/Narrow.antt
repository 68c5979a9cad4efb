-- What is drawn from a spine node on is at most W + 3 wide, whatever the rows (`place_narrow`): so what a switch flips at W + 2 has no column beyond, and the
-- difference in `flip` cuts nothing off. Rests on Motions.
use mathlib.Core.List.{List, [], ◌∷◌}
use Prim.Native.Nat.{ℕ, ◌+◌, ◌≤◌, max}
use native.Mathlib.Omega.{arith}
use Rattle.segment.specs.Segment.{at}
use Rattle.table.specs.Table.{Side, left, right}
use Rattle.layout.specs.Layout.{Layout, blank, placed, width, height, flip}
use Rattle.layout.specs.Spine.{knee, ordinary, switch}
use Rattle.layout.specs.Drawing.{Part, part, widest, join, place}
use Rattle.layout.proofs.Motions.{edge_wide}

flip_wide : (e : ℕ) (L : Layout) → width (flip e L) ≤ e + 1
unfolding flip width
flip_wide e blank = omega arith
flip_wide e (placed k P a b) = omega (arith, flip_wide e a, flip_wide e b)

join_wide : (k m c r : ℕ) (s : Side) (D N : Layout) → c + 1 ≤ m → width D ≤ m → width N ≤ m → width (join k (at c r) s D N) ≤ m
unfolding join width
join_wide k m c r left D N h d n = omega arith
join_wide k m c r right D N h d n = omega arith

pub place_narrow : (W H r p : ℕ) (ps : List Part) → widest ps ≤ W → width (place W H r p ps).drawn ≤ W + 3
unfolding place widest width
place_narrow W H r p [] h = omega arith
place_narrow W H r p (part knee k right D ∷ ps) h =
    let H' : ℕ = max H r in
    omega (arith, place_narrow W (H' + height D) (H' + height D + 1) 0 ps (omega arith), edge_wide 1 (H' + 1) D)
place_narrow W H r p (part knee k left D ∷ ps) h =
    let H' : ℕ = max H r in
    let n = place W H' (H' + 1) (height D) ps in
    omega (arith, place_narrow W H' (H' + 1) (height D) ps (omega arith), edge_wide 1 n.under D)
place_narrow W H r p (part ordinary k s D ∷ ps) h =
    let n = place_narrow W (r + height D) (r + max 1 (height D)) p ps (omega arith) in
    join_wide k (W + 3) 1 r s _ _ (omega arith) (omega (arith, edge_wide 2 (r + 1) D)) n
place_narrow W H r p (part switch k s D ∷ ps) h =
    let n = place W (r + height D + p) (r + 1) 0 ps in
    join_wide k (W + 3) 1 r s _ _ (omega arith) (omega (arith, edge_wide 1 (r + 1) D)) (omega (arith, flip_wide (W + 2) n.drawn))
