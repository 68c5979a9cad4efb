-- THE LAW "no shared rows" (document 02, Paper 9), for every spine of a drawing (`every_spine`) and of the drawings of several trees (`each_tree`): the
-- spine of a whole tree, and that of each subtree that hangs from a spine node, at any depth. Rests on Apart, which has it for one spine, and on the
-- theorem on a drawing.
use mathlib.Core.Path.{◌≡◌, sym, subst}
use mathlib.Core.List.{List, [], ◌∷◌, map}
use Prim.Native.Nat.{ℕ, ◌+◌, ◌≤◌}
use native.Mathlib.Omega.{arith}
use Rattle.segment.specs.declared.Point.{Point}
use Rattle.table.specs.Table.{Side, left, right}
use Rattle.table.specs.Tree.{Tree, size}
use Rattle.layout.specs.Layout.{Layout, height, shift}
use Rattle.layout.specs.Spine.{spine, Role, knee, ordinary, switch, Assigned, roles}
use Rattle.layout.specs.Drawing.{Part, part, hang, widest, join, place, steps, draw}
use Rattle.layout.specs.Trees.{draw_from}
use Rattle.layout.specs.Rectangle.{Hangs, here, further, DrawnIn, whole, hung, OccupiesRow, InRectangle, SpinesApart}
use Rattle.layout.proofs.Rows.{shape}
use Rattle.layout.proofs.Along.{turn, Proper}
use Rattle.layout.proofs.Spines.{light_spine, first_knee, proper, Framed, place_wide}
use Rattle.layout.proofs.Whole.{drawn, draw_law}
use Rattle.layout.proofs.Stacked.{Among, there, AgreesAll}
use Rattle.layout.proofs.Shown.{Shown, agrees_shown, shown_shift, shown_flip, join_shown}
use Rattle.layout.proofs.Apart.{PartOf, first_part, later_part, SpineApart, spread}

-- ---- what hangs from a spine is shown where the spine is

-- A plan shows a layout, wherever it is.
pub data ShownIn (plan : ℕ → Point) (L : Layout) : Type 0 where
  shown_at : {s : Side} {a b u : ℕ} → Shown plan s a b u L → ShownIn plan L

-- .. what is placed from a spine node on.
data PlacedIn (plan : ℕ → Point) (W : ℕ) (ps : List Part) : Type 0 where
  placed_at : (H r p : ℕ) → ShownIn plan (place W H r p ps).drawn → PlacedIn plan W ps

-- The first part of a spine, and the others.
first_shown : {plan : ℕ → Point} {s : Side} {a b u : ℕ} (W : ℕ) (o : Role) (k : ℕ) (h : Side) (D : Layout) (ps : List Part) → Framed W ps → (H r p : ℕ) →
    Shown plan s a b u (place W H r p (part o k h D ∷ ps)).drawn → ShownIn plan D × PlacedIn plan W ps
unfolding place join
first_shown W knee k left D ps w H r p sh = let z = join_shown left sh in (shown_at (shown_shift _ _ D z.hung), placed_at _ _ _ (shown_at z.rest))
first_shown W knee k right D ps w H r p sh = let z = join_shown right sh in (shown_at (shown_shift _ _ D z.hung), placed_at _ _ _ (shown_at z.rest))
first_shown W ordinary k h D ps w H r p sh = let z = join_shown h sh in (shown_at (shown_shift _ _ D z.hung), placed_at _ _ _ (shown_at z.rest))
first_shown W switch k h D ps w H r p sh =
    let z = join_shown h sh in
    (shown_at (shown_shift _ _ D z.hung), placed_at _ _ _ (shown_at (shown_flip (W + 2) _ (omega (arith, w (r + height D + p) (r + 1) 0)) z.rest)))

part_shown : {plan : ℕ → Point} {k : ℕ} {D : Layout} (W : ℕ) {ps : List Part} → widest ps ≤ W → PartOf k D ps → PlacedIn plan W ps → ShownIn plan D
unfolding widest
part_shown {D} W w (first_part {o} {s} {ps}) (placed_at H r p (shown_at sh)) = (first_shown W o _ s D ps (place_wide W ps (omega arith)) H r p sh).0
part_shown W w (later_part {q = part o j h E} {ps} d) (placed_at H r p (shown_at sh)) =
    part_shown W (omega arith) d (first_shown W o j h E ps (place_wide W ps (omega arith)) H r p sh).1

-- ---- one spine

-- The parts of the spine of S.
abbrev spine_parts : Tree → List Part
spine_parts S = map (hang draw) (roles (spine S))

hangs_part : {k : ℕ} {U : Tree} {ls : List Assigned} → Hangs k U ls → PartOf k (draw U) (map (hang draw) ls)
unfolding hang
hangs_part here = first_part
hangs_part (further h) = later_part (hangs_part h)

spine_proper : (S : Tree) → Proper (widest (spine_parts S)) turn (spine_parts S)
spine_proper S = subst (λ (ls : List Assigned). Proper (widest (map (hang draw) ls)) turn (map (hang draw) ls)) (sym (first_knee (spine S)))
    (proper (size S) _ draw (λ U h. drawn U) right switch (light_spine (size S) S (omega arith)) (omega arith))

module _ {plan : ℕ → Point} (S : Tree) where
  from_row_0 : ShownIn plan (draw S) → ShownIn plan (place (widest (spine_parts S)) 0 0 0 (spine_parts S)).drawn
  unfolding steps
  from_row_0 h = subst (ShownIn plan) (draw_law S) h

  hung_shown : {k : ℕ} {U : Tree} → ShownIn plan (draw S) → Hangs k U (roles (spine S)) → ShownIn plan (draw U)
  hung_shown h i = part_shown (widest (spine_parts S)) (omega arith) (hangs_part i) (placed_at 0 0 0 (from_row_0 h))

  spine_apart : ShownIn plan (draw S) → SpineApart plan (spine_parts S)
  spine_apart h = go (from_row_0 h)
    where
      go : ShownIn plan (place (widest (spine_parts S)) 0 0 0 (spine_parts S)).drawn → SpineApart plan (spine_parts S)
      go (shown_at {s} {a} {b} {u} sh) = (spread (widest (spine_parts S)) (spine_proper S) (omega arith) plan s a b u 0 0 0 (omega arith) sh).law

-- ---- every spine

-- The drawing of U has the nodes of U.
pub of_drawing : (A : Tree → Type 0) (U : Tree) → A U → A (shape (draw U))
of_drawing A U = subst A (sym (drawn U).same)

module _ {plan : ℕ → Point} (a : Tree) (h : ShownIn plan (draw a)) where
  drawn_shown : {S : Tree} → DrawnIn a S → ShownIn plan (draw S)
  drawn_shown whole = h
  drawn_shown (hung {S} d i) = hung_shown S (drawn_shown d) i

  pub every_spine : SpinesApart plan a
  every_spine = record { apart = apart; outside = outside }
    where
      apart : {S U U' : Tree} {k m x : ℕ} → DrawnIn a S → Hangs k U (roles (spine S)) → Hangs m U' (roles (spine S)) → OccupiesRow plan U x →
          OccupiesRow plan U' x → k ≡ m
      apart {S} {U} {U'} {x} d i j y z =
          (spine_apart S (drawn_shown d)).apart (hangs_part i) (hangs_part j) (of_drawing (λ X. OccupiesRow plan X x) U y)
          (of_drawing (λ X. OccupiesRow plan X x) U' z)

      outside : {S U U' : Tree} {k m : ℕ} → DrawnIn a S → Hangs k U (roles (spine S)) → Hangs m U' (roles (spine S)) → InRectangle plan U' (plan k) → ⊥
      outside {S} {U'} {k} d i j z = (spine_apart S (drawn_shown d)).outside (hangs_part i) (hangs_part j) (of_drawing (λ X. InRectangle plan X (plan k)) U' z)

-- ---- several trees

pub each_tree : {plan : ℕ → Point} (ts : List Tree) (r : ℕ) → AgreesAll plan (draw_from r ts) → (a : Tree) → Among (λ b. b ≡ a) ts → SpinesApart plan a
unfolding draw_from
each_tree [] r fit a h = elim h [ ]
each_tree {plan} (b ∷ ts) r fit a (Among.here e) =
    subst (SpinesApart plan) e (every_spine b (shown_at (shown_shift 0 r (draw b) (agrees_shown plan (shift 0 r (draw b)) fit.0))))
each_tree (b ∷ ts) r fit a (there i) = each_tree ts (r + height (draw b)) fit.1 a i
