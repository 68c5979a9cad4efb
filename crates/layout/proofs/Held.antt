-- The drawing as a program makes it is the drawing: a subtree on a side (`hung_law`), and the whole tree is one that is held by its left edge at column 0
-- (`hung_shift`). The first row below it is counted along the spine (`bottom_law`), and every column that is needed on the way is there (`rooms_law`).
use mathlib.Core.Path.{◌≡◌, refl, ap, sym, ◌∙◌}
use mathlib.Core.List.{List, [], ◌∷◌, map}
use Prim.Native.Nat.{ℕ, suc, ◌+◌, ◌≤◌, max}
use native.Mathlib.Omega.{arith}
use Rattle.segment.specs.Segment.{at}
use Rattle.table.specs.Table.{Side, left, right}
use Rattle.table.specs.Tree.{Tree, size}
use Rattle.layout.specs.Layout.{Layout, blank, placed, width, height, shift, flip}
use Rattle.layout.specs.Spine.{SpineNode, hangs, Role, knee, ordinary, switch, opposite, seen, role_after, hand_after, assigned, roles_after, facing}
use Rattle.layout.specs.Drawing.{Part, part, hang, widest, join, place, draw}
use Rattle.layout.specs.inner.Held.{inwards, put, hung_on, height_on, width_on, spine_on, role_next, far, lay, roles_from, widest_on, bottom}
use Rattle.layout.specs.inner.Held.{Frame, Fit, Exact, Inside, GoesOn, Rooms, no_rooms, knee_room, ordinary_room, switch_room}
use Rattle.layout.proofs.Motions.{edge_wide}
use Rattle.layout.proofs.Rows.{shape, count, size_facing}
use Rattle.layout.proofs.Steps.{wide_join}
use Rattle.layout.proofs.Heights.{last}
use Rattle.layout.proofs.Spines.{place_wide, spine_tree, Light, light_end, light_node, size_seen, Goes, goes_on, parts, light_on, knee_wide}
use Rattle.layout.proofs.Whole.{draw_rows}
use Rattle.layout.proofs.Theorem.{promise}
use Rattle.layout.proofs.Sides.{side_on, parts_on, parts_on_lem, draw_on, put_flip, held, held_join, put_held}

-- ---- a spine as it stands, and its parts

-- From a spine node of the hand a and the role o on: the parts of the nodes. The hand a sees what hangs on the side h.
data Told : Side → Role → List SpineNode → List Part → Type 0 where
  ended : {a : Side} {o : Role} → Told a o [] []
  told : {a h : Side} {o : Role} {k : ℕ} {S : Tree} {ls : List SpineNode} {ps : List Part} → Goes o ls →
      Told (hand_after o a) (role_next (hand_after o a) o ls) ls ps →
      Told a o (hangs k (side_on a h) S ∷ ls) (part o k h (draw (facing a S)) ∷ ps)

tell_one : (a : Side) (o : Role) (l : SpineNode) {ls : List SpineNode} {ps : List Part} → Goes o ls →
    Told (hand_after o a) (role_next (hand_after o a) o ls) ls ps →
    Told a o (l ∷ ls) (hang draw (assigned o (seen a l)) ∷ ps)
unfolding hang seen side_on facing opposite
tell_one left o (hangs k s S) g z = told g z
tell_one right o (hangs k left S) g z = told {h = right} g z
tell_one right o (hangs k right S) g z = told {h = left} g z

tell : {n : ℕ} (s : Side) (o : Role) {ls : List SpineNode} → Light n ls → Told (hand_after o s) (role_next (hand_after o s) o ls) ls (parts draw s o ls)
unfolding roles_after role_next
tell s o light_end = ended
tell s o (light_node {l} {ls} f g i) =
    let s' = hand_after o s in
    let o' = role_after o (seen s' l) in
    tell_one s' o' l (goes_on o (seen s' l) ls (omega (arith, size_seen s' l))) (tell s' o' i)

told_on : {n : ℕ} (s : Side) {ls : List SpineNode} → Light n ls → Told s knee ls (map (hang draw) (roles_from s knee ls))
unfolding roles_from hand_after
told_on s light_end = ended
told_on s (light_node {l} f g i) = tell_one s knee l tt (tell s knee i)

-- ---- rows and columns along a spine

pub inside_less : (B : ℕ) (a : Side) (e : ℕ) {v w : ℕ} → v ≤ w → Inside B a e w → Inside B a e v
inside_less B left e i h = omega arith
inside_less B right e i h = (omega arith, omega arith)

-- ---- the frame holds what is drawn

-- After a switch the spine goes on.
some_left : (ls : List SpineNode) → 1 ≤ size (spine_tree ls) → GoesOn ls
unfolding spine_tree size
some_left [] g = absurd (omega arith)
some_left (l ∷ ls) g = tt

-- After a switch comes a knee, so that the flipped rest is as wide as the frame.
told_wide : (W H r p : ℕ) {a : Side} {ls : List SpineNode} {ps : List Part} → 1 ≤ size (spine_tree ls) → Told a (role_next a switch ls) ls ps →
    W + 3 ≤ width (flip (W + 2) (place W H r p ps).drawn)
unfolding role_next role_after spine_tree size
told_wide W H r p g ended = absurd (omega arith)
told_wide W H r p g (told {a} {h} {k} {S} {ps} i z) = omega (arith, knee_wide W H r p k h (draw (facing a S)) ps)

-- The other hand's edge, where the frame is among the columns; the frame from there.
exact : (B W : ℕ) (a : Side) (e f : ℕ) → Frame a e f (W + 2) → Inside B a e (W + 3) → Exact a e f (W + 2)
exact B W left e f fr i = fr
exact B W right e f fr i = fr (omega arith)

frame_back : (W : ℕ) (a : Side) (e f : ℕ) → Exact a e f (W + 2) → Frame (opposite a) f e (W + 2)
unfolding opposite
frame_back W left e f x = λ i. x
frame_back W right e f x = x

inside_back : (B W : ℕ) (a : Side) (e f : ℕ) → Exact a e f (W + 2) → Inside B a e (W + 3) → Inside B (opposite a) f (W + 3)
unfolding opposite
inside_back B W left e f x i = (omega arith, omega arith)
inside_back B W right e f x i = omega arith

-- ---- laying is placing, held by the hand's edge

record Laid (B W t : ℕ) (a : Side) (e f : ℕ) (o : Role) (H' r' p : ℕ) (ls : List SpineNode) (H r : ℕ) (ps : List Part) : Type 0 where
  drawn : (lay a e f o H' r' p ls).drawn ≡ put a e t (place W H r p ps).drawn
  under : (lay a e f o H' r' p ls).under ≡ t + (place W H r p ps).under
  lowest : bottom a o H' r' p ls ≡ t + suc (last H r p ps)
  rooms : Rooms B W a e f o ls

edge_column : (a : Side) (e : ℕ) → e ≡ inwards a e 0
unfolding inwards
edge_column left e = omega arith
edge_column right e = omega arith

-- A child is on the far side if the hand sees it on the right.
far_seen : (a h : Side) → far a (side_on a h) ≡ far left h
unfolding far side_on opposite
far_seen left h = refl
far_seen right left = refl
far_seen right right = refl

module _ (B W t : ℕ) where
  laid : (a : Side) (e f w : ℕ) → Frame a e f (W + 2) → Inside B a e w → {o : Role} {ls : List SpineNode} {ps : List Part} → Told a o ls ps →
      (H H' r r' p : ℕ) → H' ≡ t + H → r' ≡ t + r →
      widest ps ≤ W → width (place W H r p ps).drawn ≤ w → Laid B W t a e f o H' r' p ls H r ps
  unfolding lay bottom last height_on width_on place put join far hand_after opposite widest width
  laid a e f w fr i ended H H' r r' p h j l m = record { drawn = refl; under = omega arith; lowest = omega arith; rooms = no_rooms }
  laid a e f w fr i (told {h = c} {o = ordinary} {k} {S} {ps} g z) H H' r r' p h j l m =
      let D = draw (facing a S) in
      let N = (place W (r + height D) (r + max 1 (height D)) p ps).drawn in
      let v = wide_join k (at 1 r) c (shift 2 (r + 1) D) N in
      let n = laid a e f w fr i z (r + height D) (r' + height D) (r + max 1 (height D)) (r' + max 1 (height D)) p (omega arith) (omega arith) (omega arith)
      (omega (arith, v)) in
      record {
        drawn = held_join a e t k 1 r 2 (r + 1) c S N refl j (omega arith) n.drawn;
        under = n.under;
        lowest = n.lowest;
        rooms = ordinary_room (inside_less B a e {v = 2 + width D} (omega (arith, v, edge_wide 2 (r + 1) D)) i) n.rooms;
      }
  laid a e f w fr i (told {h = c} {o = switch} {k} {S} {ps} g z) H H' r r' p h j l m =
      let D = draw (facing a S) in
      let N = (place W (r + height D + p) (r + 1) 0 ps).drawn in
      let v = wide_join k (at 1 r) c (shift 1 (r + 1) D) (flip (W + 2) N) in
      let i' = inside_less B a e {v = W + 3} (omega (arith, v, told_wide W (r + height D + p) (r + 1) 0 g z)) i in
      let x = exact B W a e f fr i' in
      let w_d : width_on a S ≤ W = omega arith in
      let wN = place_wide W ps (omega arith) (r + height D + p) (r + 1) 0 in
      let n = laid (opposite a) f e (W + 3) (frame_back W a e f x) (inside_back B W a e f x i') z
      (r + height D + p) (r' + height D + p) (r + 1) (r' + 1) 0 (omega arith) (omega arith) (omega arith) wN in
      record {
        drawn = held_join a e t k 1 r 1 (r + 1) c S (flip (W + 2) N) refl j (omega arith) (n.drawn ∙ sym (put_flip a e f (W + 2) t x N (omega arith)));
        under = omega arith;
        lowest = n.lowest;
        rooms = switch_room (some_left _ g) w_d i' x n.rooms;
      }
  laid a e f w fr i (told {h = left} {o = knee} {k} {S} {ps} g z) H H' r r' p h j l m =
      let D = draw (facing a S) in
      let N = place W (max H r) (max H r + 1) (height D) ps in
      let n = laid a e f w fr i z (max H r) (max H' r') (max H r + 1) (max H' r' + 1) (height D) (omega arith) (omega arith) (omega arith) (omega arith) in
      record {
        drawn = rw (far_seen a left, lay) (held_join a e t k 0 r 1 N.under left S N.drawn (edge_column a e) j n.under n.drawn);
        under = rw (far_seen a left, lay) n.under;
        lowest = rw (far_seen a left, bottom) n.lowest;
        rooms = knee_room (inside_less B a e {v = 1 + width D} (omega (arith, edge_wide 1 N.under D)) i) n.rooms;
      }
  laid a e f w fr i (told {h = right} {o = knee} {k} {S} {ps} g z) H H' r r' p h j l m =
      let D = draw (facing a S) in
      let N = place W (max H r + height D) (max H r + height D + 1) 0 ps in
      let n = laid a e f w fr i z (max H r + height D) (max H' r' + height D) (max H r + height D + 1) (max H' r' + height D + 1) 0
      (omega arith) (omega arith) (omega arith) (omega arith) in
      record {
        drawn = rw (far_seen a right, lay) (held_join a e t k 0 r 1 (max H r + 1) right S N.drawn (edge_column a e) j (omega arith) n.drawn);
        under = rw (far_seen a right, lay) n.under;
        lowest = rw (far_seen a right, bottom) n.lowest;
        rooms = knee_room (inside_less B a e {v = 1 + width D} (omega (arith, edge_wide 1 (max H r + 1) D)) i) n.rooms;
      }

-- ---- the laws

-- The spine of S, drawn on the side s from the row t on.
module _ (B : ℕ) (s : Side) (e f t : ℕ) (S : Tree) (fr : Frame s e f (widest_on s S + 2)) (i : Inside B s e (width_on s S)) where
  all_laid : Laid B (widest_on s S) t s e f knee t t 0 (spine_on s S) 0 0 (parts_on s S)
  unfolding widest_on width_on
  all_laid = laid B (widest_on s S) t s e f (width_on s S) fr i (told_on s (light_on (size S) s S (omega arith))) 0 t 0 t 0
      (omega arith) (omega arith) (omega arith) (omega (arith, ap width (draw_on s S)))

  pub rooms_law : Rooms B (widest_on s S) s e f knee (spine_on s S)
  rooms_law = all_laid.rooms

-- What hangs from a node fits, and is inside, where it is held.
pub hung_inside : (B : ℕ) (a : Side) (e c w : ℕ) → Inside B a e (c + w) → Inside B a (inwards a e c) w
unfolding inwards
hung_inside B left e c w i = omega arith
hung_inside B right e c w i = (omega arith, omega arith)

pub inside_fits : (B : ℕ) (a : Side) (e : ℕ) (L : Layout) → Inside B a e (width L) → Fit a e L
inside_fits B left e L i = tt
inside_fits B right e L i = i.0

some_inside : (s : Side) (e : ℕ) (L : Layout) → Fit s e L → Inside (e + suc (width L)) s e (width L)
some_inside left e L h = omega arith
some_inside right e L h = (h, omega arith)

pub frame_from : (s : Side) (e w : ℕ) → Frame s e (inwards s e w) w
unfolding inwards
frame_from left e w = refl
frame_from right e w = λ h. omega arith

pub hung_law : (s : Side) (e f t : ℕ) (S : Tree) → Frame s e f (widest_on s S + 2) → Fit s e (draw (facing s S)) →
    hung_on s e t S ≡ (lay s e f knee t t 0 (spine_on s S)).drawn
unfolding hung_on widest_on width_on
hung_law s e f t S fr fit = ap (put s e t) (draw_on s S) ∙
    sym (all_laid (e + suc (width (draw (facing s S)))) s e f t S fr (some_inside s e (draw (facing s S)) fit)).drawn

-- The whole tree is held by its left edge at column 0, from row r on.
pub hung_shift : (r : ℕ) (t : Tree) → hung_on left 0 r t ≡ shift 0 r (draw t)
unfolding hung_on facing held
hung_shift r t = put_held left 0 r (draw t)

pub height_size : (s : Side) (S : Tree) → height_on s S ≤ size S
unfolding height_on
height_size s S = omega (arith, (promise (facing s S)).short, size_facing s S)

fits_itself : (s : Side) (L : Layout) → Fit s (width L) L
fits_itself left L = tt
fits_itself right L = omega arith

some_height : (L : Layout) → 1 ≤ count L → 1 ≤ height L
unfolding shape size height
some_height blank h = omega arith
some_height (placed k P a b) h = omega arith

-- The first row below the drawing of a tree on a side, from the row t on.
pub bottom_law : (s : Side) (t : ℕ) (S : Tree) → 1 ≤ size S → bottom s knee t t 0 (spine_on s S) ≡ t + height_on s S
unfolding height_on width_on
bottom_law s t S h =
    let D = draw (facing s S) in
    let r = draw_rows (facing s S) in
    let n = all_laid (width D + suc (width D)) s (width D) (inwards s (width D) (widest_on s S + 2)) t S (frame_from s (width D) (widest_on s S + 2))
    (some_inside s (width D) D (fits_itself s D)) in
    let c = some_height D (omega (arith, ap size (promise (facing s S)).same, size_facing s S)) in
    omega (arith, n.lowest, ap (last 0 0 0) (parts_on_lem s S), r.fits, r.least (height D) (omega arith) c)
