-- Along a spine, from its end to its start: what the steps place is untangled (`along`), given as much of the hung drawings (`Drawn`) and the roles of
-- steps 1 and 2 (`Proper`).
use mathlib.Core.Path.{◌≡◌}
use mathlib.Core.List.{List, [], ◌∷◌}
use Prim.Native.Nat.{ℕ, suc, ◌+◌, ◌*◌, ◌^◌, ◌≤◌, ◌<◌, max}
use native.Mathlib.Nat.{mul-le-mul_left}
use native.Mathlib.Omega.{arith}
use Rattle.segment.specs.Segment.{at}
use Rattle.table.specs.Table.{Side, left, right}
use Rattle.table.specs.Tree.{Tree, size}
use Rattle.layout.specs.Layout.{Layout, blank, placed, width, height, shift}
use Rattle.layout.specs.Spine.{knee, ordinary, switch}
use Rattle.layout.specs.Drawing.{Part, part, join, place}
use Rattle.layout.proofs.Clean.{HasRoot, a_root}
use Rattle.layout.proofs.Points.{PointOf, bare, UntangledAt, order_at, point_rooted, rooted_high}
use Rattle.layout.proofs.Motions.{untangled_shift, shift_within, edge_wide, root_shift}
use Rattle.layout.proofs.Rows.{shape, count, HoldsRow}
use Rattle.layout.proofs.Steps.{HungRectangle, Run, Knee, OrderOn, step_knee_right, step_knee_left, step_ordinary, step_switch}

-- What is proved of the drawing D of a tree S.
pub record Drawn (S : Tree) (D : Layout) : Type 0 where
  pub same : shape D ≡ S
  pub stands : UntangledAt (at 0 0) D
  pub narrow : (k : ℕ) → size S < 2 ^ suc k → width D ≤ 3 * k + 1
  pub short : height D ≤ count D
  pub filled : (j : ℕ) → j < height D → HoldsRow D j

-- ---- spines

-- After a switch, and at the start, comes a knee; otherwise a run goes on.
pub data Stretch : Type 0 where
  turn run : Stretch

-- Where something hangs from an ordinary node, it hangs on the right.
pub data Beside : Side → Layout → Type 0 where
  on_right : {D : Layout} → Beside right D
  nothing : Beside left blank

-- The roles are those of steps 1 and 2, and the hung drawings are at most W wide.
pub data Proper (W : ℕ) : Stretch → List Part → Type 0 where
  ended : {z : Stretch} → Proper W z []
  a_knee : {k : ℕ} {s : Side} {S : Tree} {D : Layout} {ps : List Part} → Drawn S D → width D ≤ W → Proper W run ps → Proper W turn (part knee k s D ∷ ps)
  an_ordinary : {k : ℕ} {s : Side} {S : Tree} {D : Layout} {ps : List Part} → Drawn S D → width D ≤ W → Beside s D → Proper W run ps →
      Proper W run (part ordinary k s D ∷ ps)
  a_switch : {k : ℕ} {S : Tree} {D : Layout} {ps : List Part} → Drawn S D → width D ≤ W → HasRoot D → Proper W turn ps →
      Proper W run (part switch k left D ∷ ps)

-- A knee is in a row used before; another node is in the lowest row used before, or in the next.
abbrev pub Reached : Stretch → (H r : ℕ) → Type 0
Reached turn H r = r ≤ H
Reached run H r = (H ≤ r) × (r ≤ H + 1)

-- ---- the hung drawings

some : (e t : ℕ) (D : Layout) → HasRoot (shift e t D) → (1 ≤ width D) × (1 ≤ height D)
unfolding shift height width
some e t blank h = elim h [ ]
some e t (placed k P a b) a_root = (omega arith, omega arith)

hung : (e t : ℕ) {S : Tree} {D : Layout} → Drawn S D → HungRectangle e t (width D) (height D) (shift e t D)
hung e t {D} g = record {
  stands = record { untangled = untangled_shift e t g.stands.untangled; root = root_shift e t D g.stands.root };
  wide = omega (arith, edge_wide e t D);
  some = some e t D;
  within = λ z. shift_within e t D z;
}

-- ---- the induction

abbrev Placed : Stretch → (W H r p u : ℕ) → Layout → Type 0
Placed turn W H r p u N = Knee W H r N
Placed run W H r p u N = Run W H r p u N

no_point : {q x y : ℕ} → PointOf q x y blank → ⊥
unfolding height
no_point t = omega (arith, rooted_high (point_rooted t))

nothing_left : (z : Stretch) (W H r p : ℕ) → Placed z W H r p (H + 1) blank
unfolding width height
nothing_left turn W H r p = record { stands = record { untangled = bare; root = tt }; wide = omega arith; low = λ one t. absurd (no_point t) }
nothing_left run W H r p = record {
  stands = record { untangled = bare; root = tt };
  wide = omega arith;
  below = omega arith;
  under = λ h. absurd (omega (arith, rooted_high h));
  free = λ i one t. absurd (no_point t);
  kept = λ i one t. absurd (no_point t);
}

weaker : {W H H' r : ℕ} {N : Layout} → H ≤ H' → Knee W H' r N → Knee W H r N
weaker h n = record { stands = n.stands; wide = n.wide; low = λ {q} one t l. n.low one t (omega (arith, mul-le-mul_left q h)) }

-- The left child of an ordinary node before its right one.
beside : (r m : ℕ) {S : Tree} {s : Side} {D N : Layout} → Drawn S D → Beside s D → UntangledAt (at 1 (r + max 1 m)) N → OrderOn s (at 1 r) (shift 2 (r + 1) D) N
unfolding shift
beside r m g on_right n = order_at (at 1 r) n (hung 2 (r + 1) g).stands (λ i j. omega arith)
beside r m g nothing n = tt

pub along : (W H r p : ℕ) {z : Stretch} {ps : List Part} → Proper W z ps → Reached z H r → Placed z W H r p (place W H r p ps).under (place W H r p ps).drawn
unfolding place join
along W H r p (ended {z}) le = nothing_left z W H r p
along W H r p (an_ordinary {k} {s} {D} g w b c) le =
    let n = along W (r + height D) (r + max 1 (height D)) p c (omega arith, omega arith) in
    step_ordinary k s le.0 w (beside r _ g b n.stands) (hung 2 (r + 1) g) n
along W H r p (a_switch {k} {D} g w h c) le =
    step_switch k le.0 w (rooted_high h) (hung 1 (r + 1) g) (along W (r + height D + p) (r + 1) 0 c (omega (arith, rooted_high h)))
along W H r p (a_knee {k} {s = right} {D} g w c) le = let H' = max H r in
    weaker (omega arith) (step_knee_right k (omega arith) w (hung 1 (H' + 1) g) (along W (H' + height D) (H' + height D + 1) 0 c (omega arith, omega arith)))
along W H r p (a_knee {k} {s = left} {D} g w c) le = let H' = max H r in
    weaker (omega arith) (step_knee_left k (omega arith) w (hung 1 _ g) (along W H' (H' + 1) (height D) c (omega arith, omega arith)))
