-- The tree of what is laid along a spine: its layout has the spine's records. Rests on the laws of the drawing.
use mathlib.Core.Path.{◌≡◌, refl, ap, ap₂, ◌∙◌}
use mathlib.Core.List.{List, [], ◌∷◌}
use Prim.Native.Nat.{ℕ, ◌+◌, ◌≤◌, ◌<◌}
use native.Mathlib.Omega.{arith}
use Rattle.segment.specs.declared.Point.{Point}
use Rattle.table.specs.Table.{Side, left, right}
use Rattle.table.specs.Lists.{count}
use Rattle.table.specs.Tree.{Tree, size, nodes}
use Rattle.layout.specs.Layout.{Layout, blank, placed, width}
use Rattle.layout.specs.Spine.{SpineNode, hangs, Role, knee, ordinary, switch, opposite, facing}
use Rattle.layout.specs.Drawing.{join, draw}
use Rattle.layout.specs.inner.Held.{hung_on, width_on, far, lay}
use Rattle.layout.proofs.Rows.{shape, size_facing}
use Rattle.layout.proofs.Spines.{over, spine_tree, shape_join}
use Rattle.layout.proofs.Theorem.{promise}
use Rattle.layout.proofs.Sides.{shape_hung}

-- No record is in both trees.
abbrev pub Disjoint : Tree → Tree → Type 0
Disjoint A B = (k : ℕ) → count k (nodes A) + count k (nodes B) ≤ 1

-- ---- shapes

wide : (L : Layout) → 0 < size (shape L) → 1 ≤ width L
unfolding shape size width
wide blank h = absurd (omega arith)
wide (placed k P a b) h = omega arith

shape_step : (k : ℕ) (P : Point) (s a : Side) (e t : ℕ) (S R : Tree) (N : Layout) → shape N ≡ R → shape (join k P s (hung_on a e t S) N) ≡ over (hangs k s S) R
shape_step k P s a e t S R N h = shape_join k P s (hung_on a e t S) N ∙ ap₂ (λ (T M : Tree). over (hangs k s T) M) (shape_hung a e t S) h

pub shape_lay : (a : Side) (e f : ℕ) (o : Role) (H r p : ℕ) (ls : List SpineNode) → shape (lay a e f o H r p ls).drawn ≡ spine_tree ls
unfolding lay far spine_tree shape
shape_lay a e f o H r p [] = refl
shape_lay left e f knee H r p (hangs k left S ∷ ls) = shape_step k _ left left _ _ S _ _ (shape_lay left e f _ _ _ _ ls)
shape_lay left e f knee H r p (hangs k right S ∷ ls) = shape_step k _ right left _ _ S _ _ (shape_lay left e f _ _ _ _ ls)
shape_lay right e f knee H r p (hangs k left S ∷ ls) = shape_step k _ left right _ _ S _ _ (shape_lay right e f _ _ _ _ ls)
shape_lay right e f knee H r p (hangs k right S ∷ ls) = shape_step k _ right right _ _ S _ _ (shape_lay right e f _ _ _ _ ls)
shape_lay a e f ordinary H r p (hangs k s S ∷ ls) = shape_step k _ s a _ _ S _ _ (shape_lay a e f _ _ _ _ ls)
shape_lay a e f switch H r p (hangs k s S ∷ ls) = shape_step k _ s a _ _ S _ _ (shape_lay (opposite a) f e _ _ _ _ ls)

-- A drawing of a node is not blank.
pub width_node : (s : Side) (T : Tree) → 0 < size T → 1 ≤ width_on s T
unfolding width_on
width_node s T h = wide (draw (facing s T)) (omega (arith, ap size (promise (facing s T)).same, size_facing s T))
