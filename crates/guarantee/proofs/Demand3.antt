-- Demand 3 over the definitions: `kept`, for all bytes and placements. Rests on the laws of trees drawn one under the other and on those of an accepted table.
use mathlib.Core.Path.{◌≡◌, refl, sym, ap, subst, ◌∙◌}
use mathlib.Core.Logic.{inl, inr}
use mathlib.Core.List.{List, [], ◌∷◌}
use Prim.Native.Nat.{ℕ, zero, suc, ◌+◌, ◌*◌, ◌≤◌, ◌<◌}
use native.Mathlib.Omega.{arith}
use lib.ListN.{length}
use Rattle.segment.proofs.CrossProduct.{cross_negative}
use Rattle.table.specs.Table.{chain}
use Rattle.table.specs.Tree.{Tree, none, size}
use Rattle.table.specs.Trees.{trees, nodes_of}
use Rattle.table.specs.Refusal.{fault, refusal}
use Rattle.table.proofs.Accepted.{refusal_none, records_bounds, chain_within, chain_length, nodes_distinct, nodes_length}
use Rattle.table.proofs.Lists.{repeats_count}
use Rattle.layout.specs.Layout.{width, shift}
use Rattle.layout.specs.Drawing.{drawing, draw}
use Rattle.layout.specs.Trees.{draw_from, draw_trees, width_of}
use Rattle.layout.proofs.Stacked.{AgreesAll, CheckedAll, trees_checked, trees_narrow, trees_short}
use Rattle.drawing.specs.Answer.{plan_of, drawn_of, placed_in}
use Rattle.drawing.specs.Answer.{Drawn}
use Rattle.drawing.proofs.Elsewhere.{as_many, drawn_chained}
use Rattle.drawing.proofs.StoredTrees.{times_in, times_trees, stored_points}
use Rattle.drawing.proofs.Whole.{no_trees}
use Rattle.drawing.proofs.Answered.{Accepted, accepted, drawn_refusal}
use Rattle.placements.specs.Placements.{point_of}
use Rattle.verdict.specs.Conditions.{SamePoint, ChildAbove, Clashing, OutOfOrder}
use Rattle.verdict.specs.Verdict.{FirstOf, conditions, Verdict}
use Rattle.verdict.proofs.Clashes.{cross→clash}
use Rattle.width.specs.Allowed.{floor_log2, allowed_width}
use Rattle.width.proofs.FloorLog2.{floor_bounds, allowed_some}
use Rattle.guarantee.specs.Demand.{Kept}
use Rattle.guarantee.proofs.TreeNodes.{chained_node, line_child}

-- ---- from the conditions over the trees to the conditions over the table

module _ (t p : List ℕ) (ok : fault t ≡ 0) (z : CheckedAll (trees t) (point_of p)) where
  not_same : SamePoint t p → ⊥
  not_same h = z.distinct h.k h.m (chained_node t ok h.k h.chained_k) (chained_node t ok h.m h.chained_m) h.two h.same

  none_above : ChildAbove t p → ⊥
  none_above h = let l = z.lower h.k h.c h.s (line_child t ok h.line) in omega (arith, l, h.above)

  no_clash : Clashing t p → ⊥
  no_clash (inl h) =
      let w = h.two in
      let (b, e, f, i) = z.planar w.k w.c w.m w.d w.s w.s' (line_child t ok w.line) (line_child t ok w.line') w.different w.so in
      h.elsewhere b e f i
  no_clash (inr h) = h.no_end (z.clear h.b h.k h.c h.s (chained_node t ok h.b h.chained) (line_child t ok h.line) h.lies)

  in_order_lem : OutOfOrder t p → ⊥
  in_order_lem h = h.not_ordered (inl ((cross_negative _ _ _).1
      (z.ordered h.k h.a h.b (line_child t ok h.left_line) (line_child t ok h.right_line))))

  good : FirstOf (conditions t p) 0
  good = inr (not_same, inr (none_above, inr (λ h. no_clash (cross→clash h), inr (no_clash, inr (in_order_lem, refl)))))

-- ---- the points of the drawings are read back

-- The placements as the drawer left them give each node of the drawings its point.
pub agrees : (t p : List ℕ) → refusal t (length p) ≡ 0 → AgreesAll (point_of (placed_in t p)) (draw_trees (trees t))
agrees t p none_refused = subst (λ (q : List ℕ). AgreesAll (point_of q) (draw_trees (trees t))) (sym (accepted t p none_refused).after)
    (stored_points (draw_trees (trees t)) p once room)
  where
    ok : fault t ≡ 0
    ok = ((refusal_none t (length p)).0 none_refused).0

    once : (k : ℕ) → times_in k (draw_trees (trees t)) ≤ 1
    once k = omega (arith, times_trees k 0 (trees t), (repeats_count (nodes_of (trees t))).0 (nodes_distinct t ok) k)

    room : (k : ℕ) → 1 ≤ times_in k (draw_trees (trees t)) → 2 * k + 1 < length p
    room k h = omega (arith, ((refusal_none t (length p)).0 none_refused).1, (chain_within t ok k (drawn_chained t ok k h)).1)

-- ---- width

no_width : width_of (draw_trees (none ∷ [])) ≡ 0
unfolding draw_from width_of shift draw drawing size width
no_width = refl

narrow : (t : List ℕ) → fault t ≡ 0 → width_of (draw_trees (trees t)) ≤ allowed_width (length (chain t))
narrow t ok = go (length (chain t)) refl (omega (arith, chain_length t ok, (records_bounds t ok).1))
  where
    go : (n : ℕ) → length (chain t) ≡ n → n ≤ 4096 → width_of (draw_trees (trees t)) ≤ allowed_width n
    go zero e most = omega (arith, no_width, ap (λ (ts : List Tree). width_of (draw_trees ts)) (no_trees t ok e))
    go (suc m) e most = rw (allowed_some (suc m) (omega arith) most)
        (trees_narrow (trees t) 0 (floor_log2 (suc m)) (omega (arith, e, nodes_length t ok, (floor_bounds (suc m) (omega arith)).high)))

-- ---- demand 3

pub kept : (t p : List ℕ) → (drawn_of t p).refusal ≡ 0 → Kept t p
unfolding plan_of
kept t p e = record {
  good = left_good;
  narrow = subst (λ (d : Drawn). d.plan.width ≤ allowed_width (length (chain t))) (sym a.drawn) (narrow t ok);
  short = subst (λ (d : Drawn). d.plan.height ≤ length (chain t)) (sym a.drawn) (omega (arith, trees_short (trees t) 0, nodes_length t ok));
}
  where
    none_refused : refusal t (length p) ≡ 0
    none_refused = sym (drawn_refusal t p) ∙ e

    a : Accepted t p
    a = accepted t p none_refused

    ok : fault t ≡ 0
    ok = ((refusal_none t (length p)).0 none_refused).0

    -- the check of the placements as the drawer left them
    left_good : Verdict t (placed_in t p) 0
    left_good = inr (rw (as_many t p) none_refused, good t (placed_in t p) ok (trees_checked (trees t) 0 (point_of (placed_in t p)) (agrees t p none_refused)))
