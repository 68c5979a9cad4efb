-- From one spine to the whole tree: what is proved of every drawing (`drawn`), and that a drawing is that of its own steps (`draw_law`, `draw_parts`): the
-- bound on the size is gone.
use mathlib.Core.Path.{◌≡◌, refl, ap, ap₂, sym, subst, ◌∙◌}
use mathlib.Core.List.{List, ◌∷◌, map}
use Prim.Native.Nat.{ℕ, zero, suc, ◌+◌, ◌*◌, ◌^◌, ◌≤◌, ◌<◌}
use native.Mathlib.Nat.{pow-suc}
use native.Mathlib.Omega.{arith}
use Rattle.segment.specs.declared.Point.{Point}
use Rattle.segment.specs.Segment.{at}
use Rattle.table.specs.Table.{Side, right}
use Rattle.table.specs.Tree.{Tree, none, node, size}
use Rattle.layout.specs.Layout.{Layout, blank, placed, width, height, RootAt}
use Rattle.layout.specs.Spine.{SpineNode, hangs, spine, Role, switch, opposite, seen, role_after, hand_after, Assigned, assigned, roles_after, roles, facing}
use Rattle.layout.specs.Drawing.{Part, part, hang, widest, place, steps, drawing, draw}
use Rattle.layout.proofs.Clean.{root}
use Rattle.layout.proofs.Points.{bare}
use Rattle.layout.proofs.Rows.{shape, count, HoldsRow}
use Rattle.layout.proofs.Steps.{Knee}
use Rattle.layout.proofs.Along.{Drawn, turn, Proper, along}
use Rattle.layout.proofs.Heights.{last, TurnRows, rows}
use Rattle.layout.proofs.Spines.{hung_tree, Light, light_end, light_node, light_spine, size_seen, parts, first_knee, proper, widest_at_most, shaped}
use Rattle.layout.proofs.Spines.{spine_whole}

-- ---- one spine

no_node : (L : Layout) → count L ≤ 0 → width L ≤ 0
unfolding shape size width
no_node blank h = omega arith
no_node (placed k P a b) h = absurd (omega arith)

one_node : (L : Layout) → RootAt (at 0 0) L → count L ≤ 1 → width L ≤ 1
unfolding shape size width
one_node blank h i = omega arith
one_node (placed k P a b) h i = omega (arith, ap (λ (Q : Point). Q.column) h, no_node a (omega arith), no_node b (omega arith))

top_row : (L : Layout) → RootAt (at 0 0) L → 0 < height L → HoldsRow L 0
unfolding height
top_row blank h i = absurd (omega arith)
top_row (placed k P a b) h i = (root, ap (λ (Q : Point). Q.row) h)

few_rows : (L : Layout) {b : ℕ} → TurnRows 0 b L → height L ≤ count L
unfolding height shape size
few_rows blank h = omega arith
few_rows (placed k P a b) h = omega (arith, h.fits, h.few)

-- The parts of a spine, placed.
abbrev pub whole : List Part → Layout
whole ps = (place (widest ps) 0 0 0 ps).drawn

module _ (d : Tree → Layout) (t : Tree) (hd : (S : Tree) → 2 * size S + 1 ≤ size t → Drawn S (d S)) where
  abbrev ps : List Part
  ps = parts d right switch (spine t)

  light : Light (size t) (spine t)
  light = light_spine (size t) t (omega arith)

  roles_proper : Proper (widest ps) turn ps
  roles_proper = proper (size t) (widest ps) d hd right switch light (omega arith)

  pub parts_rows : TurnRows 0 (last 0 0 0 ps) (whole ps)
  parts_rows = rows (widest ps) 0 0 0 roles_proper (omega arith) refl

  pub parts_drawn : Drawn t (whole ps)
  unfolding facing hand_after opposite
  parts_drawn = record { same = same; stands = kn.stands; narrow = narrow; short = few_rows N parts_rows; filled = filled }
    where
      W : ℕ
      W = widest ps

      N : Layout
      N = whole ps

      kn : Knee W 0 0 N
      kn = along W 0 0 0 roles_proper (omega arith)

      same : shape N ≡ t
      same = shaped (size t) W d hd right switch light 0 0 0 ∙ spine_whole t

      filled : (j : ℕ) → j < height N → HoldsRow N j
      filled zero h = top_row N kn.stands.root h
      filled (suc j) h = parts_rows.filled (suc j) (omega arith) (omega (arith, parts_rows.fits))

      narrow : (k : ℕ) → size t < 2 ^ suc k → width N ≤ 3 * k + 1
      narrow zero h = one_node N kn.stands.root (omega (arith, ap size same))
      narrow (suc k) h =
          let w : W ≤ 3 * k + 1 = widest_at_most (size t) W d hd (3 * k + 1) (λ S i. (hd S i).narrow k (omega (arith, pow-suc 2 (suc k)))) right switch light in
          omega (arith, kn.wide)

steps_drawn : (d : Tree → Layout) (t : Tree) → ((S : Tree) → 2 * size S + 1 ≤ size t → Drawn S (d S)) → Drawn t (steps d t)
unfolding steps
steps_drawn d t hd = subst (λ (rs : List Assigned). Drawn t (whole (map (hang d) rs))) (sym (first_knee (spine t))) (parts_drawn d t hd)

-- ---- the whole tree

drawing_drawn : (n : ℕ) (t : Tree) → size t ≤ n → Drawn t (drawing n t)
unfolding drawing size height shape width
drawing_drawn zero none h = record {
  same = refl;
  stands = record { untangled = bare; root = tt };
  narrow = λ k i. omega arith;
  short = omega arith;
  filled = λ j i. absurd (omega arith);
}
drawing_drawn zero (node k a b) h = absurd (omega arith)
drawing_drawn (suc n) t h = steps_drawn (drawing n) t (λ S i. drawing_drawn n S (omega arith))

pub drawn : (t : Tree) → Drawn t (draw t)
unfolding draw
drawn t = drawing_drawn (size t) t (omega arith)

-- ---- the drawing is that of its own steps

module _ (n : ℕ) (d e : Tree → Layout) (h : (S : Tree) → 2 * size S + 1 ≤ n → d S ≡ e S) where
  hang_same : (o : Role) (l : SpineNode) → 2 * size (hung_tree l) + 1 ≤ n → hang d (assigned o l) ≡ hang e (assigned o l)
  unfolding hang
  hang_same o (hangs k s t) f = ap (part o k s) (h t f)

  parts_same : (s : Side) (o : Role) {ls : List SpineNode} → Light n ls → parts d s o ls ≡ parts e s o ls
  unfolding roles_after
  parts_same s o light_end = refl
  parts_same s o (light_node {l} f g i) =
      let s' = hand_after o s in
      let o' = role_after o (seen s' l) in
      ap₂ ◌∷◌ (hang_same o' (seen s' l) (omega (arith, size_seen s' l))) (parts_same s' o' i)

steps_same : (d e : Tree → Layout) (t : Tree) → ((S : Tree) → 2 * size S + 1 ≤ size t → d S ≡ e S) → steps d t ≡ steps e t
unfolding steps
steps_same d e t h = subst (λ (rs : List Assigned). whole (map (hang d) rs) ≡ whole (map (hang e) rs)) (sym (first_knee (spine t)))
    (ap whole (parts_same (size t) d e h right switch (light_spine (size t) t (omega arith))))

enough : (n m : ℕ) (t : Tree) → size t ≤ n → size t ≤ m → drawing n t ≡ drawing m t
unfolding drawing steps spine roles place size
enough zero zero t h i = refl
enough zero (suc m) none h i = refl
enough zero (suc m) (node k a b) h i = absurd (omega arith)
enough (suc n) zero none h i = refl
enough (suc n) zero (node k a b) h i = absurd (omega arith)
enough (suc n) (suc m) t h i = steps_same (drawing n) (drawing m) t (λ S j. enough n m S (omega arith) (omega arith))

pub draw_law : (t : Tree) → draw t ≡ steps draw t
unfolding draw drawing steps spine roles place size
draw_law none = refl
draw_law (node k a b) = steps_same (drawing (size a + size b)) draw (node k a b) (λ S j. enough (size a + size b) (size S) S (omega arith) (omega arith))

-- The same, from the parts of its spine.
pub draw_parts : (t : Tree) → draw t ≡ whole (parts draw right switch (spine t))
unfolding steps
draw_parts t = draw_law t ∙ ap (λ (rs : List Assigned). whole (map (hang draw) rs)) (first_knee (spine t))

-- The rows of a drawing, by the parts of its spine.
pub draw_rows : (t : Tree) → TurnRows 0 (last 0 0 0 (parts draw right switch (spine t))) (draw t)
draw_rows t = subst (TurnRows 0 (last 0 0 0 (parts draw right switch (spine t)))) (sym (draw_parts t)) (parts_rows draw t (λ S h. drawn S))
