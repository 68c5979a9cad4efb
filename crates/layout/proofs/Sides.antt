-- A drawing on a side, from the tree as it stands: its roles (`roles_on`), its parts (`parts_on_lem`, `draw_on`), and its records and links (`shape_hung`). A
-- drawing held by its right edge is that of the mirror image, flipped and shifted (`put_held`).
use mathlib.Core.Path.{◌≡◌, refl, ap, sym, ◌∙◌, ap₂}
use mathlib.Core.List.{List, [], ◌∷◌, map}
use Prim.Native.Nat.{ℕ, suc, ◌+◌, ◌≤◌}
use native.Mathlib.Omega.{arith}
use Rattle.segment.specs.Segment.{at}
use Rattle.table.specs.Table.{Side, left, right}
use Rattle.table.specs.Tree.{Tree, none, node, size}
use Rattle.layout.specs.Layout.{Layout, blank, placed, width, shift, flip, mirror, height}
use Rattle.layout.specs.Spine.{SpineNode, hangs, spine, Role, knee, ordinary, switch, opposite, seen, role_after, hand_after, Assigned, assigned}
use Rattle.layout.specs.Spine.{roles_after, roles, facing}
use Rattle.layout.specs.Drawing.{Part, hang, join, draw, drawing}
use Rattle.layout.specs.inner.Held.{inwards, put, hung_on, spine_on, roles_from, Exact, height_on, width_on}
use Rattle.layout.proofs.Motions.{same_node}
use Rattle.layout.proofs.Rows.{mirror_twice, shape, facing_twice}
use Rattle.layout.proofs.Spines.{parts, spine_on_lem, first_knee}
use Rattle.layout.proofs.Whole.{drawn, whole, draw_parts}

-- ---- the spine and its roles, from the tree as it stands

-- A side as another one sees it.
unfoldable pub side_on : Side → Side → Side
side_on left s = s
side_on right s = opposite s

seen_twice : (u s : Side) (l : SpineNode) → seen s (seen u l) ≡ seen (side_on u s) l
unfolding seen side_on opposite
seen_twice left s l = refl
seen_twice right left l = refl
seen_twice right right (hangs k left t) = ap (hangs k left) (mirror_twice t)
seen_twice right right (hangs k right t) = ap (hangs k right) (mirror_twice t)

hand_on : (u : Side) (o : Role) (s : Side) → side_on u (hand_after o s) ≡ hand_after o (side_on u s)
unfolding side_on hand_after
hand_on left o s = refl
hand_on right knee s = refl
hand_on right ordinary s = refl
hand_on right switch s = refl

roles_seen : (u s : Side) (o : Role) (ls : List SpineNode) → roles_after s o (map (seen u) ls) ≡ roles_after (side_on u s) o ls
unfolding roles_after
roles_seen u s o [] = refl
roles_seen u s o (l ∷ ls) =
    heads (seen_twice u (hand_after o s) l ∙ ap (λ (z : Side). seen z l) (hand_on u o s))
    (λ o'. roles_seen u (hand_after o s) o' ls ∙ ap (λ (z : Side). roles_after z o' ls) (hand_on u o s))
  where
    heads : {m n : SpineNode} → m ≡ n → ((o' : Role) → roles_after (hand_after o s) o' (map (seen u) ls) ≡ roles_after (hand_after o (side_on u s)) o' ls) →
        ◌≡◌ {A = List Assigned} (assigned (role_after o m) m ∷ roles_after (hand_after o s) (role_after o m) (map (seen u) ls))
        (assigned (role_after o n) n ∷ roles_after (hand_after o (side_on u s)) (role_after o n) ls)
    heads {n} e h = rw e (ap (λ (rs : List Assigned). assigned (role_after o n) n ∷ rs) (h (role_after o n)))

side_right : (s : Side) → side_on s right ≡ opposite s
unfolding side_on opposite
side_right left = refl
side_right right = refl

-- The first node is a knee of the drawing's side, as after a switch of the other hand.
pub first_on : (s : Side) (ls : List SpineNode) → roles_after (opposite s) switch ls ≡ roles_from s knee ls
unfolding roles_after roles_from hand_after role_after opposite
first_on s [] = refl
first_on left (l ∷ ls) = refl
first_on right (l ∷ ls) = refl

-- The roles of a spine on a side are those of the spine that the side sees.
pub roles_on : (s : Side) (S : Tree) → roles (spine (facing s S)) ≡ roles_from s knee (spine_on s S)
roles_on s S =
    first_knee (spine (facing s S))
    ∙ (ap (roles_after right switch) (spine_on_lem s S) ∙
    (roles_seen s right switch (spine_on s S) ∙ (ap (λ (z : Side). roles_after z switch (spine_on s S)) (side_right s) ∙ first_on s (spine_on s S))))

-- The parts of a drawing on a side, and the drawing from them.
abbrev pub parts_on : Side → Tree → List Part
parts_on s S = map (hang draw) (roles_from s knee (spine_on s S))

pub parts_on_lem : (s : Side) (S : Tree) → parts draw right switch (spine (facing s S)) ≡ parts_on s S
parts_on_lem s S = ap (map (hang draw)) (sym (first_knee (spine (facing s S))) ∙ roles_on s S)

pub draw_on : (s : Side) (S : Tree) → draw (facing s S) ≡ whole (parts_on s S)
draw_on s S = draw_parts (facing s S) ∙ ap whole (parts_on_lem s S)

-- ---- layouts held by an edge

put_shift : (s : Side) (e t i j : ℕ) (L : Layout) → put s e t (shift i j L) ≡ put s (inwards s e i) (t + j) L
unfolding put shift inwards
put_shift s e t i j blank = refl
put_shift left e t i j (placed k P a b) = same_node (omega arith) (omega arith) (put_shift left e t i j a) (put_shift left e t i j b)
put_shift right e t i j (placed k P a b) = same_node (omega arith) (omega arith) (put_shift right e t i j b) (put_shift right e t i j a)

pub put_flip : (s : Side) (e f w t : ℕ) → Exact s e f w → (L : Layout) → width L ≤ suc w → put s e t (flip w L) ≡ put (opposite s) f t L
unfolding put flip opposite width
put_flip left e f w t h blank i = refl
put_flip right e f w t h blank i = refl
put_flip left e f w t h (placed k P a b) i = same_node (omega arith) refl (put_flip left e f w t h b (omega arith)) (put_flip left e f w t h a (omega arith))
put_flip right e f w t h (placed k P a b) i = same_node (omega arith) refl (put_flip right e f w t h a (omega arith)) (put_flip right e f w t h b (omega arith))

-- The motions that hold a layout: on the left it is shifted, on the right flipped and shifted.
unfoldable pub held : Side → ℕ → ℕ → Layout → Layout
held left e t L = shift e t L
held right e t L = shift 0 t (flip e L)

pub put_held : (s : Side) (e t : ℕ) (L : Layout) → put s e t L ≡ held s e t L
unfolding put held shift flip
put_held left e t blank = refl
put_held right e t blank = refl
put_held left e t (placed k P a b) = same_node refl refl (put_held left e t a) (put_held left e t b)
put_held right e t (placed k P a b) = same_node (omega arith) refl (put_held right e t b) (put_held right e t a)

put_join : (s : Side) (e t k c r : ℕ) (h : Side) (D N : Layout) →
    put s e t (join k (at c r) h D N) ≡ join k (at (inwards s e c) (t + r)) (side_on s h) (put s e t D) (put s e t N)
unfolding put join inwards side_on opposite
put_join left e t k c r left D N = refl
put_join left e t k c r right D N = refl
put_join right e t k c r left D N = refl
put_join right e t k c r right D N = refl

-- A spine node of the hand s, with what hangs from it and with the rest.
pub held_join : (s : Side) (e t k c r i u : ℕ) (h : Side) (S : Tree) (N : Layout) {c' r' u' : ℕ} {n : Layout} → c' ≡ inwards s e c → r' ≡ t + r → u' ≡ t + u →
    n ≡ put s e t N →
    join k (at c' r') (side_on s h) (hung_on s (inwards s e i) u' S) n ≡ put s e t (join k (at c r) h (shift i u (draw (facing s S))) N)
unfolding hung_on
held_join s e t k c r i u h S N ec er eu en = cc (put_join s e t k c r h (shift i u (draw (facing s S))) N, put_shift s e t i u (draw (facing s S)))

-- ---- subtrees hung on a side

shape_put : (s : Side) (e t : ℕ) (L : Layout) → shape (put s e t L) ≡ facing s (shape L)
unfolding shape put facing mirror
shape_put left e t blank = refl
shape_put right e t blank = refl
shape_put left e t (placed k P a b) = ap₂ (node k) (shape_put left e t a) (shape_put left e t b)
shape_put right e t (placed k P a b) = ap₂ (node k) (shape_put right e t b) (shape_put right e t a)

-- The same records and links.
pub shape_hung : (s : Side) (e t : ℕ) (S : Tree) → shape (hung_on s e t S) ≡ S
unfolding hung_on
shape_hung s e t S = shape_put s e t (draw (facing s S)) ∙ (ap (facing s) (drawn (facing s S)).same ∙ facing_twice s S)

-- Nothing hung.
pub hung_none : (s : Side) (e t : ℕ) → hung_on s e t none ≡ blank
unfolding hung_on put facing mirror draw drawing size
hung_none left e t = refl
hung_none right e t = refl

pub height_none : (s : Side) → height_on s none ≡ 0
unfolding height_on facing mirror draw drawing size height
height_none left = refl
height_none right = refl

pub width_none : (s : Side) → width_on s none ≡ 0
unfolding width_on facing mirror draw drawing size width
width_none left = refl
width_none right = refl
