-- Laws of `store_all`: the length is kept (`stored_length`), every entry but those of the layouts' records is kept (`stored_kept`), and the entries of their
-- nodes are their points where no record is in them twice (`stored_points`). The drawings of trees have the records of the trees (`times_trees`). Rests on
-- StoredPoints.
use mathlib.Core.Path.{◌≡◌, refl, ◌∙◌}
use mathlib.Core.Logic.{◌≢◌}
use mathlib.Core.List.{List, [], ◌∷◌}
use Prim.Native.Nat.{ℕ, ◌+◌, ◌*◌, ◌≤◌, ◌<◌}
use native.Mathlib.Omega.{arith}
use lib.ListN.{length, get_or}
use Rattle.table.specs.Lists.{count}
use Rattle.table.specs.Tree.{Tree}
use Rattle.table.specs.Trees.{nodes_of}
use Rattle.table.proofs.Chain.{count_trees}
use Rattle.layout.specs.Layout.{Layout, height}
use Rattle.layout.specs.Drawing.{draw}
use Rattle.layout.specs.Trees.{draw_from}
use Rattle.placements.specs.Placements.{point_of}
use Rattle.layout.proofs.Clean.{record_of}
use Rattle.layout.proofs.Stacked.{AgreesAll, count_below}
use Rattle.drawing.specs.Answer.{store, store_all}
use Rattle.drawing.proofs.StoredPoints.{times, store_length, times_node, store_kept, kept_point, store_point}

-- How often several layouts have the record k.
unfoldable pub times_in : ℕ → List Layout → ℕ
times_in k [] = 0
times_in k (L ∷ Ls) = times k L + times_in k Ls

pub times_trees : (k r : ℕ) (ts : List Tree) → times_in k (draw_from r ts) ≡ count k (nodes_of ts)
unfolding times_in draw_from nodes_of count
times_trees k r [] = refl
times_trees k r (a ∷ ts) = omega (arith, count_trees k a ts, count_below k r a, times_trees k (r + height (draw a)) ts)

pub stored_length : (Ls : List Layout) (p : List ℕ) → length (store_all Ls p) ≡ length p
unfolding store_all
stored_length [] p = refl
stored_length (L ∷ Ls) p = stored_length Ls (store L p) ∙ store_length L p

pub stored_kept : (Ls : List Layout) (p : List ℕ) (i : ℕ) → ((k : ℕ) → 1 ≤ times_in k Ls → (i ≢ 2 * k) × (i ≢ 2 * k + 1)) →
    get_or (store_all Ls p) i 0 ≡ get_or p i 0
unfolding store_all times_in
stored_kept [] p i out = refl
stored_kept (L ∷ Ls) p i out = stored_kept Ls (store L p) i (λ k h. out k (omega arith)) ∙ store_kept L p i (λ k h. out k (omega arith))

-- The entries of a record that the layouts do not have.
pub stored_point_kept : (Ls : List Layout) (p : List ℕ) (j : ℕ) → times_in j Ls ≡ 0 → point_of (store_all Ls p) j ≡ point_of p j
unfolding store_all times_in
stored_point_kept [] p j none = refl
stored_point_kept (L ∷ Ls) p j none = stored_point_kept Ls (store L p) j (omega arith) ∙ kept_point L p j (omega arith)

pub stored_points : (Ls : List Layout) (p : List ℕ) → ((k : ℕ) → times_in k Ls ≤ 1) → ((k : ℕ) → 1 ≤ times_in k Ls → 2 * k + 1 < length p) →
    AgreesAll (point_of (store_all Ls p)) Ls
unfolding store_all times_in
stored_points [] p once room = tt
stored_points (L ∷ Ls) p once room = (
  λ n. stored_point_kept Ls (store L p) (record_of n) (omega (arith, once (record_of n), times_node L n)) ∙
      store_point L p (λ k. omega (arith, once k)) (λ k h. room k (omega arith)) n,
  stored_points Ls (store L p) (λ k. omega (arith, once k)) (λ k h. omega (arith, store_length L p, room k (omega arith))),
)
