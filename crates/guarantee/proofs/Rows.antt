-- No gaps, no shared rows, for all bytes and placements that the drawer accepts: `no_shared_rows`, `under_ruler`, `no_gaps`. Rests on the laws of the drawings
-- (`each_tree`, `ruler_trees`, `rows_held`) and on their points being read back (`agrees`).
use mathlib.Core.Path.{◌≡◌, refl, sym, ap, ◌∙◌}
use mathlib.Core.List.{List, [], ◌∷◌}
use Prim.Native.Nat.{ℕ, ◌≤◌}
use native.Mathlib.Omega.{arith}
use lib.Dec.{T}
use lib.ListN.{length}
use Rattle.segment.specs.declared.Point.{Point}
use Rattle.table.specs.Lists.{member}
use Rattle.table.specs.Tree.{Tree, tree_at}
use Rattle.table.specs.Trees.{roots, trees}
use Rattle.table.specs.Refusal.{fault, refusal}
use Rattle.table.proofs.Accepted.{refusal_none, nodes_chain, nodes_distinct}
use Rattle.layout.specs.Layout.{Layout}
use Rattle.layout.specs.Trees.{draw_trees, height_of}
use Rattle.layout.proofs.Clean.{record_of}
use Rattle.layout.proofs.Rows.{HoldsRow}
use Rattle.layout.proofs.Stacked.{Among, here, there, AgreesAll, rows_held}
use Rattle.layout.proofs.EverySpine.{each_tree}
use Rattle.layout.proofs.Ruler.{ruler_trees}
use Rattle.drawing.specs.Answer.{plan_of, drawn_of, placed_in}
use Rattle.drawing.specs.Answer.{Drawn}
use Rattle.drawing.proofs.Elsewhere.{drawn_chained}
use Rattle.drawing.proofs.StoredPoints.{times_node}
use Rattle.drawing.proofs.StoredTrees.{times_in}
use Rattle.drawing.proofs.Answered.{accepted, drawn_refusal}
use Rattle.placements.specs.Placements.{point_of}
use Rattle.guarantee.specs.Rows.{NoSharedRows, UnderRuler, NoGaps}
use Rattle.guarantee.proofs.TreeNodes.{among_at}
use Rattle.guarantee.proofs.Demand3.{agrees}

-- A record of one of the layouts is in row x.
record InRow (plan : ℕ → Point) (Ls : List Layout) (x : ℕ) : Type 0 where
  k : ℕ
  listed : 1 ≤ times_in k Ls
  row : (plan k).row ≡ x

in_row : (plan : ℕ → Point) (Ls : List Layout) (x : ℕ) → AgreesAll plan Ls → Among (λ L. HoldsRow L x) Ls → InRow plan Ls x
unfolding times_in
in_row plan [] x fit h = elim h [ ]
in_row plan (L ∷ Ls) x fit (here (n, e)) = record { k = record_of n; listed = omega (arith, times_node L n); row = ap (λ (Q : Point). Q.row) (fit.0 n) ∙ e }
in_row plan (L ∷ Ls) x fit (there h) = let z = in_row plan Ls x fit.1 h in record { k = z.k; listed = omega (arith, z.listed); row = z.row }

module _ (t p : List ℕ) (e : (drawn_of t p).refusal ≡ 0) where
  none_refused : refusal t (length p) ≡ 0
  none_refused = sym (drawn_refusal t p) ∙ e

  ok : fault t ≡ 0
  ok = ((refusal_none t (length p)).0 none_refused).0

  tree_of : (k : ℕ) → T (member k (roots t)) → Among (λ (c : Tree). c ≡ tree_at t k) (trees t)
  tree_of k m = among_at (λ (c : Tree). c ≡ tree_at t k) (tree_at t) k (roots t) refl m

  pub no_shared_rows : NoSharedRows t p
  no_shared_rows k m = each_tree (trees t) 0 (agrees t p none_refused) (tree_at t k) (tree_of k m)

  pub under_ruler : UnderRuler t p
  under_ruler k b U m c d o =
      ruler_trees (point_of (placed_in t p)) (trees t) 0 (agrees t p none_refused) (nodes_distinct t ok) (tree_at t k)
      (tree_of k m) b ((nodes_chain t ok b).1 c) d o

  pub no_gaps : NoGaps t p
  unfolding plan_of
  no_gaps x h =
      let high : (drawn_of t p).plan.height ≡ height_of (draw_trees (trees t)) = ap (λ (d : Drawn). d.plan.height) (accepted t p none_refused).drawn in
      let z = in_row (point_of (placed_in t p)) (draw_trees (trees t)) x (agrees t p none_refused)
      (rows_held (trees t) 0 x (omega arith) (omega (arith, h, high))) in
      record { k = z.k; chained = drawn_chained t ok z.k z.listed; row = z.row }
