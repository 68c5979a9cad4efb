-- The spine of a tree, as it stands and as a side sees it (`spine_either`, `spine_on_lem`). From the spine to what hangs from it: a hung subtree has less than
-- half of the nodes (`light_spine`), the roles are proper (`proper`), and what is placed has the spine's tree (`shaped`).
use mathlib.Core.Path.{◌≡◌, refl, ap, ap₂, ◌∙◌}
use mathlib.Core.Bool.{Bool, true, false}
use mathlib.Core.List.{List, [], ◌∷◌, map, map-id}
use mathlib.Core.Logic.{◌⊎◌, inl, inr, ⊎_elim}
use Prim.Native.Nat.{ℕ, suc, ◌+◌, ◌*◌, ◌≤◌, ◌<◌, max}
use native.Mathlib.Decide.{dec_le}
use native.Mathlib.Omega.{arith}
use lib.Dec.{leb}
use borrow.Author.Tests.{le-leb, lt-leb}
use Rattle.segment.specs.declared.Point.{Point}
use Rattle.segment.specs.Segment.{at}
use Rattle.table.specs.Table.{Side, left, right}
use Rattle.table.specs.Lists.{count}
use Rattle.table.specs.Tree.{Tree, none, node, nodes, size}
use Rattle.table.proofs.Lists.{same}
use Rattle.table.proofs.Chain.{count_node}
use Rattle.layout.specs.Layout.{Layout, blank, placed, width, mirror, height, shift, flip}
use Rattle.layout.specs.Spine.{SpineNode, hangs, spine, Role, knee, ordinary, switch, opposite, seen, run_role, role_after, hand_after, assigned, roles_after}
use Rattle.layout.specs.Spine.{roles, facing}
use Rattle.layout.specs.Drawing.{Part, part, hang, widest, join, place}
use Rattle.layout.specs.inner.Held.{spine_on}
use Rattle.layout.proofs.Clean.{HasRoot, a_root}
use Rattle.layout.proofs.Motions.{width_flip, edge_wide}
use Rattle.layout.proofs.Rows.{shape, mirror_twice, size_mirror, shape_shift, shape_flip}
use Rattle.layout.proofs.Steps.{wide_join}
use Rattle.layout.proofs.Along.{Drawn, Stretch, turn, run, Beside, on_right, nothing, Proper, ended, a_knee, an_ordinary, a_switch}

-- ---- spine nodes

abbrev pub hung_tree : SpineNode → Tree
hung_tree (hangs k s t) = t

-- A spine node over the tree of the next one.
unfoldable pub over : SpineNode → Tree → Tree
over (hangs k left t) n = node k t n
over (hangs k right t) n = node k n t

-- The tree whose spine it is.
unfoldable pub spine_tree : List SpineNode → Tree
spine_tree [] = none
spine_tree (l ∷ ls) = over l (spine_tree ls)

-- A hung subtree has less than half of the n nodes, and no more than the rest of the spine.
pub data Light (n : ℕ) : List SpineNode → Type 0 where
  light_end : Light n []
  light_node : {l : SpineNode} {ls : List SpineNode} → 2 * size (hung_tree l) + 1 ≤ n → size (hung_tree l) ≤ size (spine_tree ls) → Light n ls →
      Light n (l ∷ ls)

-- The spine as a side sees it, from the tree as it stands.
by_test : (s : Side) (c : Bool) (l m : SpineNode) {x y : List SpineNode} (x' y' : List SpineNode) → x ≡ map (seen s) x' → y ≡ map (seen s) y' →
    ◌≡◌ {A = List SpineNode} (elim c [ true ↦ seen s l ∷ x | false ↦ seen s m ∷ y ]) (map (seen s) (elim c [ true ↦ l ∷ x' | false ↦ m ∷ y' ]))
by_test s true l m x' y' h i = ap (λ (ls : List SpineNode). seen s l ∷ ls) h
by_test s false l m x' y' h i = ap (λ (ls : List SpineNode). seen s m ∷ ls) i

pub spine_on_lem : (s : Side) (t : Tree) → spine (facing s t) ≡ map (seen s) (spine_on s t)
unfolding spine spine_on facing mirror seen opposite
spine_on_lem left none = refl
spine_on_lem right none = refl
spine_on_lem left (node k a b) = by_test left (leb (size b) (size a)) (hangs k right b) (hangs k left a) (spine_on left a) (spine_on left b)
    (spine_on_lem left a) (spine_on_lem left b)
spine_on_lem right (node k a b) = rw (size_mirror a, size_mirror b, spine)
    (by_test right (leb (size a) (size b)) (hangs k left a) (hangs k right b) (spine_on right b) (spine_on right a)
    (spine_on_lem right b) (spine_on_lem right a))

spine_here : (t : Tree) → spine t ≡ spine_on left t
unfolding facing seen
spine_here t = spine_on_lem left t ∙ map-id (spine_on left t)

-- From a node it goes on in one of the two subtrees, which is no smaller than the other.
pub spine_either : (s : Side) (k : ℕ) (a b : Tree) →
    ((size b ≤ size a) × (spine_on s (node k a b) ≡ hangs k right b ∷ spine_on s a)) ⊎
    ((size a ≤ size b) × (spine_on s (node k a b) ≡ hangs k left a ∷ spine_on s b))
unfolding spine_on
spine_either left k a b = elim (dec_le (size b) (size a)) [
  | yes h ↦ inl (h, rw (le-leb (size b) (size a) h, spine_on))
  | no h ↦ inr (omega arith, rw (lt-leb (size b) (size a) (omega arith), spine_on))
]
spine_either right k a b = elim (dec_le (size a) (size b)) [
  | yes h ↦ inr (h, rw (le-leb (size a) (size b) h, spine_on))
  | no h ↦ inl (omega arith, rw (lt-leb (size a) (size b) (omega arith), spine_on))
]

pub tree_spine : (s : Side) (t : Tree) → spine_tree (spine_on s t) ≡ t
unfolding spine_tree over spine_on
tree_spine s none = refl
tree_spine s (node k a b) = ⊎_elim (λ e. ap spine_tree e.1 ∙ ap (λ (n : Tree). node k n b) (tree_spine s a))
    (λ e. ap spine_tree e.1 ∙ ap (node k a) (tree_spine s b)) (spine_either s k a b)

pub spine_whole : (t : Tree) → spine_tree (spine t) ≡ t
spine_whole t = ap spine_tree (spine_here t) ∙ tree_spine left t

pub light_on : (n : ℕ) (s : Side) (t : Tree) → size t ≤ n → Light n (spine_on s t)
unfolding spine_on size
light_on n s none h = light_end
light_on n s (node k a b) h = ⊎_elim
    (λ e. rw e.1 (light_node {l = hangs k right b} {ls = spine_on s a} (omega (arith, e.0)) (omega (arith, e.0, ap size (tree_spine s a)))
    (light_on n s a (omega arith))))
    (λ e. rw e.1 (light_node {l = hangs k left a} {ls = spine_on s b} (omega (arith, e.0)) (omega (arith, e.0, ap size (tree_spine s b)))
    (light_on n s b (omega arith))))
    (spine_either s k a b)

pub light_spine : (n : ℕ) (t : Tree) → size t ≤ n → Light n (spine t)
light_spine n t h = rw (spine_here t) (light_on n left t h)

pub size_seen : (s : Side) (l : SpineNode) → size (hung_tree (seen s l)) ≡ size (hung_tree l)
unfolding seen
size_seen left l = refl
size_seen right (hangs k s t) = omega (arith, size_mirror t)

pub size_over : (l : SpineNode) (t : Tree) → size (over l t) ≡ suc (size (hung_tree l) + size t)
unfolding over size
size_over (hangs k left u) t = refl
size_over (hangs k right u) t = omega arith

pub count_over : (x j : ℕ) (s : Side) (t n : Tree) → count x (nodes (over (hangs j s t) n)) ≡ same x j + (count x (nodes t) + count x (nodes n))
unfolding over
count_over x j left t n = count_node x j t n
count_over x j right t n = omega (arith, count_node x j n t)

-- A switch is followed by a node, since what hangs from it has no more nodes than the rest of the spine.
abbrev pub Goes : Role → List SpineNode → Type 0
Goes knee ls = Unit {0}
Goes ordinary ls = Unit {0}
Goes switch ls = 1 ≤ size (spine_tree ls)

goes_run : (l : SpineNode) (ls : List SpineNode) → size (hung_tree l) ≤ size (spine_tree ls) → Goes (run_role l) ls
unfolding run_role size
goes_run (hangs k left none) ls h = tt
goes_run (hangs k left (node i a b)) ls h = omega arith
goes_run (hangs k right t) ls h = tt

pub goes_on : (o : Role) (l : SpineNode) (ls : List SpineNode) → size (hung_tree l) ≤ size (spine_tree ls) → Goes (role_after o l) ls
unfolding role_after
goes_on knee l ls h = goes_run l ls h
goes_on ordinary l ls h = goes_run l ls h
goes_on switch l ls h = tt

-- ---- the roles

-- The parts that follow a node of role o on the hand s.
abbrev pub parts : (Tree → Layout) → Side → Role → List SpineNode → List Part
parts d s o ls = map (hang d) (roles_after s o ls)

-- The first node has the role, and the hand, that it would have after a switch on the right hand.
pub first_knee : (ls : List SpineNode) → roles ls ≡ roles_after right switch ls
unfolding roles roles_after role_after hand_after opposite seen
first_knee [] = refl
first_knee (l ∷ ls) = refl

abbrev pub after : Role → Stretch
after knee = run
after ordinary = run
after switch = turn

beside : (D : Layout) → shape D ≡ none → Beside left D
unfolding shape
beside blank e = nothing
beside (placed k P a b) e = absurd (let z : ◌≡◌ {A = ℕ} 0 1 = cc in omega arith)

has_root : (D : Layout) {k : ℕ} {a b : Tree} → shape D ≡ node k a b → HasRoot D
unfolding shape
has_root blank e = absurd (let z : ◌≡◌ {A = ℕ} 0 1 = cc in omega arith)
has_root (placed k P a b) e = a_root

proper_run : (W : ℕ) (d : Tree → Layout) (l : SpineNode) {ps : List Part} → Drawn (hung_tree l) (d (hung_tree l)) → width (d (hung_tree l)) ≤ W →
    Proper W (after (run_role l)) ps →
    Proper W run (hang d (assigned (run_role l) l) ∷ ps)
unfolding hang run_role
proper_run W d (hangs k left none) g w c = an_ordinary g w (beside _ g.same) c
proper_run W d (hangs k left (node i a b)) g w c = a_switch g w (has_root _ g.same) c
proper_run W d (hangs k right t) g w c = an_ordinary g w on_right c

proper_one : (W : ℕ) (d : Tree → Layout) (o : Role) (l : SpineNode) {ps : List Part} → Drawn (hung_tree l) (d (hung_tree l)) → width (d (hung_tree l)) ≤ W →
    Proper W (after (role_after o l)) ps →
    Proper W (after o) (hang d (assigned (role_after o l) l) ∷ ps)
unfolding role_after hang
proper_one W d knee l g w c = proper_run W d l g w c
proper_one W d ordinary l g w c = proper_run W d l g w c
proper_one W d switch (hangs k s t) g w c = a_knee g w c

-- W, one node at a time.
pub widest_one : (d : Tree → Layout) (o : Role) (l : SpineNode) (ps : List Part) →
    widest (hang d (assigned o l) ∷ ps) ≡ max (width (d (hung_tree l))) (widest ps)
unfolding hang widest
widest_one d o (hangs k s t) ps = refl

-- A knee is in column 0, so what follows a switch goes to the frame's other edge.
pub knee_wide : (W H r p k : ℕ) (s : Side) (D : Layout) (ps : List Part) → width (flip (W + 2) (place W H r p (part knee k s D ∷ ps)).drawn) ≡ W + 3
unfolding place flip width
knee_wide W H r p k left D ps =
    let n = place W (max H r) (max H r + 1) (height D) ps in
    omega (arith, width_flip (W + 2) (shift 1 n.under D), width_flip (W + 2) n.drawn)
knee_wide W H r p k right D ps =
    omega (arith, width_flip (W + 2) (place W (max H r + height D) (max H r + height D + 1) 0 ps).drawn, width_flip (W + 2) (shift 1 (max H r + 1) D))

-- A node in a column below B, with a drawing and a rest that end before B.
wide_part : (k : ℕ) (P : Point) (s : Side) (e t B : ℕ) (D N : Layout) → P.column < B → e + width D ≤ B → width N ≤ B → width (join k P s (shift e t D) N) ≤ B
wide_part k P s e t B D N h i j = omega (arith, wide_join k P s (shift e t D) N, edge_wide e t D)

-- The frame holds what is placed, wherever it is.
abbrev pub Framed : ℕ → List Part → Type 0
Framed W ps = (H r p : ℕ) → width (place W H r p ps).drawn ≤ W + 3

framed_part : (W : ℕ) (o : Role) (k : ℕ) (s : Side) (D : Layout) (ps : List Part) → width D ≤ W → Framed W ps → Framed W (part o k s D ∷ ps)
unfolding place join
framed_part W knee k left D ps w n H r p = wide_part k (at 0 r) left 1 _ (W + 3) D _ (omega arith) (omega arith) (n _ _ _)
framed_part W knee k right D ps w n H r p = wide_part k (at 0 r) right 1 _ (W + 3) D _ (omega arith) (omega arith) (n _ _ _)
framed_part W ordinary k s D ps w n H r p = wide_part k (at 1 r) s 2 _ (W + 3) D _ (omega arith) (omega arith) (n _ _ _)
framed_part W switch k s D ps w n H r p =
    let N = (place W (r + height D + p) (r + 1) 0 ps).drawn in
    wide_part k (at 1 r) s 1 _ (W + 3) D (flip (W + 2) N) (omega arith) (omega arith) (omega (arith, width_flip (W + 2) N))

pub place_wide : (W : ℕ) (ps : List Part) → widest ps ≤ W → Framed W ps
unfolding place widest width
place_wide W [] w = λ H r p. omega arith
place_wide W (part o k s D ∷ ps) w = framed_part W o k s D ps (omega arith) (place_wide W ps (omega arith))

-- ---- the tree

pub shape_join : (k : ℕ) (P : Point) (s : Side) (D N : Layout) → shape (join k P s D N) ≡ over (hangs k s (shape D)) (shape N)
unfolding join shape over
shape_join k P left D N = refl
shape_join k P right D N = refl

-- A node with what hangs from it, over the rest; the rest after a switch is flipped.
shape_one : (W : ℕ) (o : Role) (k : ℕ) (s : Side) (D : Layout) (ps : List Part) (N : Tree) → ((H r p : ℕ) → shape (place W H r p ps).drawn ≡ N) →
    (H r p : ℕ) → shape (place W H r p (part o k s D ∷ ps)).drawn ≡ over (hangs k s (shape D)) (facing (hand_after o left) N)
unfolding place join shape over facing hand_after opposite
shape_one W knee k left D ps N h H r p = ap₂ (node k) (shape_shift _ _ _) (h _ _ _)
shape_one W knee k right D ps N h H r p = ap₂ (node k) (h _ _ _) (shape_shift _ _ _)
shape_one W ordinary k s D ps N h H r p = shape_join k _ s _ _ ∙ ap₂ (λ (S M : Tree). over (hangs k s S) M) (shape_shift _ _ _) (h _ _ _)
shape_one W switch k s D ps N h H r p =
    shape_join k _ s _ _ ∙ ap₂ (λ (S M : Tree). over (hangs k s S) M) (shape_shift _ _ _) (shape_flip _ _ ∙ ap mirror (h _ _ _))

facing_after : (o : Role) (s : Side) (t : Tree) → facing (hand_after o left) (facing (hand_after o s) t) ≡ facing s t
unfolding facing hand_after opposite
facing_after knee s t = refl
facing_after ordinary s t = refl
facing_after switch left t = mirror_twice t
facing_after switch right t = refl

over_facing : (s : Side) (l : SpineNode) (t : Tree) → over (seen s l) (facing s t) ≡ facing s (over l t)
unfolding over seen facing opposite mirror
over_facing left l t = refl
over_facing right (hangs k left u) t = refl
over_facing right (hangs k right u) t = refl

facing_none : (s : Side) → none ≡ facing s none
unfolding facing mirror
facing_none left = refl
facing_none right = refl

-- ---- along the roles

module _ (n W : ℕ) (d : Tree → Layout) (hd : (S : Tree) → 2 * size S + 1 ≤ n → Drawn S (d S)) where
  -- What hangs from a node, as its hand sees it, is drawn.
  drawn_seen : (s : Side) (l : SpineNode) → 2 * size (hung_tree l) + 1 ≤ n → Drawn (hung_tree (seen s l)) (d (hung_tree (seen s l)))
  drawn_seen s l f = hd _ (omega (arith, size_seen s l))

  pub proper : (s : Side) (o : Role) {ls : List SpineNode} → Light n ls → widest (parts d s o ls) ≤ W → Proper W (after o) (parts d s o ls)
  unfolding roles_after
  proper s o light_end w = ended
  proper s o (light_node {l} {ls} f g i) w =
      let s' = hand_after o s in
      let o' = role_after o (seen s' l) in
      let e = widest_one d o' (seen s' l) (parts d s' o' ls) in
      proper_one W d o (seen s' l) (drawn_seen s' l f) (omega arith) (proper s' o' i (omega arith))

  pub widest_at_most : (B : ℕ) → ((S : Tree) → 2 * size S + 1 ≤ n → width (d S) ≤ B) → (s : Side) (o : Role) {ls : List SpineNode} → Light n ls →
      widest (parts d s o ls) ≤ B
  unfolding roles_after widest
  widest_at_most B h s o light_end = omega arith
  widest_at_most B h s o (light_node {l} {ls} f g i) =
      let s' = hand_after o s in
      let o' = role_after o (seen s' l) in
      omega (arith, widest_one d o' (seen s' l) (parts d s' o' ls), h (hung_tree (seen s' l)) (omega (arith, size_seen s' l)), widest_at_most B h s' o' i)

  shaped_one : (o : Role) (l : SpineNode) (ps : List Part) (N : Tree) → Drawn (hung_tree l) (d (hung_tree l)) →
      ((H r p : ℕ) → shape (place W H r p ps).drawn ≡ N) →
      (H r p : ℕ) → shape (place W H r p (hang d (assigned o l) ∷ ps)).drawn ≡ over l (facing (hand_after o left) N)
  unfolding hang
  shaped_one o (hangs k s t) ps N g h H r p =
      shape_one W o k s (d t) ps N h H r p ∙ ap (λ (S : Tree). over (hangs k s S) (facing (hand_after o left) N)) g.same

  pub shaped : (s : Side) (o : Role) {ls : List SpineNode} → Light n ls → (H r p : ℕ) →
      shape (place W H r p (parts d s o ls)).drawn ≡ facing (hand_after o s) (spine_tree ls)
  unfolding shape place roles_after spine_tree
  shaped s o light_end H r p = facing_none (hand_after o s)
  shaped s o (light_node {l} {ls} f g i) H r p =
      let s' = hand_after o s in
      let o' = role_after o (seen s' l) in
      shaped_one o' (seen s' l) (parts d s' o' ls) _ (drawn_seen s' l f) (shaped s' o' i) H r p
      ∙ (ap (over (seen s' l)) (facing_after o' s' (spine_tree ls)) ∙ over_facing s' l (spine_tree ls))
