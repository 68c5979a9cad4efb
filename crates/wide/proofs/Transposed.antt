-- Transposed layouts, one or several: the extents are exchanged (`width_transposed`, `height_transposed`, `width_turned`, `height_turned`), the records are
-- the same (`times_turned`), and the placements of an accepted table's drawings, exchanged, are those of the drawings transposed (`turned_stored`); the
-- root of each is in row 0 (`wide_rooted`). Rests on the laws of `store` and `store_all`, of exchanged placements and of an accepted table.
use mathlib.Core.Path.{◌≡◌, refl, sym, ap, ap₂, ◌∙◌}
use mathlib.Core.Logic.{inl, inr}
use mathlib.Core.Bool.{Bool, true, false}
use mathlib.Core.List.{List, [], ◌∷◌, map}
use Prim.Native.Nat.{ℕ, ◌+◌, ◌*◌, ◌≤◌, ◌<◌}
use native.Mathlib.Omega.{arith}
use lib.ListN.{length}
use Rattle.segment.specs.declared.Point.{Point}
use Rattle.segment.specs.Segment.{at}
use Rattle.segment.specs.inner.Test.{transpose}
use Rattle.table.specs.Lists.{member, count}
use Rattle.table.specs.Table.{records, chain}
use Rattle.table.specs.Tree.{Tree, node, nodes}
use Rattle.table.specs.Trees.{trees, nodes_of}
use Rattle.table.specs.Refusal.{fault}
use Rattle.table.proofs.Lists.{T_true, T_false, Alike, alike, member_count, member_none}
use Rattle.table.proofs.Accepted.{chain_within, chain_distinct, nodes_chain}
use Rattle.layout.specs.Layout.{Layout, blank, placed, width, height, shift, RootAt}
use Rattle.layout.specs.Drawing.{draw}
use Rattle.layout.specs.Trees.{draw_trees, width_of, height_of}
use Rattle.layout.proofs.Rows.{shape}
use Rattle.layout.proofs.Stacked.{rooted_below}
use Rattle.drawing.specs.Answer.{store, store_all}
use Rattle.placements.specs.Placements.{point_of}
use Rattle.placements.proofs.Points.{pair, pair_length, pair_point, pair_other, same_points}
use Rattle.drawing.proofs.StoredPoints.{times, times_placed, store_length}
use Rattle.drawing.proofs.StoredTrees.{times_in, times_trees, stored_length, stored_point_kept}
use Rattle.mirror.specs.Exchanged.{exchange_point, each, exchanged_placements}
use Rattle.mirror.proofs.Placements.{points_long, points_exchanged, points_other}
use Rattle.wide.specs.Wide.{transposed}

pub width_transposed : (L : Layout) → width (transposed L) ≡ height L
unfolding width height transposed
width_transposed blank = refl
width_transposed (placed k P a b) = rw (width_transposed a, width_transposed b)

pub height_transposed : (L : Layout) → height (transposed L) ≡ width L
unfolding width height transposed
height_transposed blank = refl
height_transposed (placed k P a b) = rw (height_transposed a, height_transposed b)

shape_transposed : (L : Layout) → shape (transposed L) ≡ shape L
unfolding shape transposed
shape_transposed blank = refl
shape_transposed (placed k P a b) = ap₂ (node k) (shape_transposed a) (shape_transposed b)

-- The points of the placements q are those of p, transposed, at the record k.
abbrev Turned : ℕ → List ℕ → List ℕ → Type 0
Turned k p q = point_of q k ≡ transpose (point_of p k)

-- Storing a layout and its transposition turns the point of each of its records, and leaves any other turned.
store_turned : (k : ℕ) (L : Layout) (p q : List ℕ) → length q ≡ length p → 2 * k + 1 < length p → (times k L ≡ 0 → Turned k p q) →
    Turned k (store L p) (store (transposed L) q)
unfolding store transposed count nodes shape
store_turned k blank p q long room h = h refl
store_turned k (placed j P a b) p q long room h =
    store_turned k b _ _ (store_length (transposed a) _ ∙ (pairs ∙ sym (store_length a _))) (rw (store_length a (pair p j P)) within)
    (λ none-b. store_turned k a (pair p j P) (pair q j (transpose P)) pairs within (λ none-a. here (alike k j) none-a none-b))
  where
    pairs : length (pair q j (transpose P)) ≡ length (pair p j P)
    pairs = pair_length q j (transpose P) ∙ (long ∙ sym (pair_length p j P))

    within : 2 * k + 1 < length (pair p j P)
    within = rw (pair_length p j P) room

    here : Alike k j → times k a ≡ 0 → times k b ≡ 0 → Turned k (pair p j P) (pair q j (transpose P))
    here (inl e) x y = rw e.0 (pair_point q j (transpose P) (omega (arith, room, long, e.0)) ∙
        ap transpose (sym (pair_point p j P (omega (arith, room, e.0)))))
    here (inr n) x y = pair_other q j k (transpose P) n.0 ∙
        (h (omega (arith, times_placed k j P a b, n.1, x, y)) ∙ ap transpose (sym (pair_other p j k P n.0)))

-- ---- several layouts

pub width_turned : (Ls : List Layout) → width_of (map transposed Ls) ≡ height_of Ls
unfolding width_of height_of
width_turned [] = refl
width_turned (L ∷ Ls) = rw (width_transposed L, width_turned Ls)

pub height_turned : (Ls : List Layout) → height_of (map transposed Ls) ≡ width_of Ls
unfolding width_of height_of
height_turned [] = refl
height_turned (L ∷ Ls) = rw (height_transposed L, height_turned Ls)

pub times_turned : (k : ℕ) (Ls : List Layout) → times_in k (map transposed Ls) ≡ times_in k Ls
unfolding times_in
times_turned k [] = refl
times_turned k (L ∷ Ls) = omega (arith, ap (λ (T : Tree). count k (nodes T)) (shape_transposed L), times_turned k Ls)

all_turned : (k : ℕ) (Ls : List Layout) (p q : List ℕ) → length q ≡ length p → 2 * k + 1 < length p → (times_in k Ls ≡ 0 → Turned k p q) →
    Turned k (store_all Ls p) (store_all (map transposed Ls) q)
unfolding store_all times_in
all_turned k [] p q long room h = h refl
all_turned k (L ∷ Ls) p q long room h =
    all_turned k Ls (store L p) (store (transposed L) q) (store_length (transposed L) q ∙ (long ∙ sym (store_length L p))) (rw (store_length L p) room)
    (λ none. store_turned k L p q long room (λ z. h (omega arith)))

-- The drawings of an accepted table: their placements exchanged are those of the drawings transposed.
module _ (t p : List ℕ) (ok : fault t ≡ 0) (long : 2 * records t ≤ length p) where
  abbrev layouts : List Layout
  layouts = draw_trees (trees t)

  turned_at : (k : ℕ) (b : Bool) → member k (chain t) ≡ b →
      point_of (each exchange_point (chain t) (store_all layouts p)) k ≡ point_of (store_all (map transposed layouts) p) k
  turned_at k true e =
      let c = (T_true (member k (chain t))).1 e in
      let room : 2 * k + 1 < length p = omega (arith, long, (chain_within t ok k c).1) in
      let some = (member_count k (nodes_of (trees t))).0 ((nodes_chain t ok k).1 c) in
      points_exchanged (chain t) (store_all layouts p) k (chain_distinct t ok) c (rw (stored_length layouts p) room) ∙
      sym (all_turned k layouts p p refl room (λ z. absurd (omega (arith, some, z, times_trees k 0 (trees t)))))
  turned_at k false e =
      let n = (T_false (member k (chain t))).1 e in
      let none : times_in k layouts ≡ 0 = times_trees k 0 (trees t) ∙
      (member_none k (nodes_of (trees t))).0 ((T_false (member k (nodes_of (trees t)))).0 (λ h. n ((nodes_chain t ok k).0 h))) in
      points_other (chain t) (store_all layouts p) k n ∙
      (stored_point_kept layouts p k none ∙ sym (stored_point_kept (map transposed layouts) p k (times_turned k layouts ∙ none)))

  pub turned_stored : exchanged_placements t (store_all layouts p) ≡ store_all (map transposed layouts) p
  unfolding exchanged_placements
  turned_stored = same_points _ _ (points_long (chain t) _ ∙ (stored_length layouts p ∙ sym (stored_length (map transposed layouts) p)))
      (λ k. turned_at k (member k (chain t)) refl)

-- The root of what is drawn from row r on is in row 0 and column r.
root_turned : (Q : Point) (L : Layout) → RootAt Q L → RootAt (transpose Q) (transposed L)
unfolding transposed
root_turned Q blank e = tt
root_turned Q (placed k P a b) e = ap transpose e

pub wide_rooted : (r : ℕ) (a : Tree) → RootAt (at r 0) (transposed (shift 0 r (draw a)))
wide_rooted r a = root_turned (at 0 r) (shift 0 r (draw a)) (rooted_below r a)
