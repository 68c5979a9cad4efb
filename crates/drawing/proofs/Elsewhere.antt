-- "The drawer writes only the entries of chained boxes. Entries of the head, of unchained records and beyond are kept", refused or not: of any layouts
-- whose records are chained (`only_chained`), and so of the plan (`kept_elsewhere`). Rests on StoredTrees and the laws of an accepted table.
use mathlib.Core.Path.{◌≡◌, refl}
use mathlib.Core.Logic.{◌≢◌}
use mathlib.Core.List.{List}
use Prim.Native.Nat.{ℕ, ◌+◌, ◌*◌, ◌/◌, ◌≤◌}
use native.Mathlib.Omega.{arith}
use lib.ListN.{length, get_or}
use Rattle.table.specs.Table.{Chained}
use Rattle.table.specs.Trees.{trees, nodes_of}
use Rattle.table.specs.Refusal.{fault, refusal}
use Rattle.table.specs.Said.{kept_on_refusal}
use Rattle.table.proofs.Lists.{member_count}
use Rattle.table.proofs.Accepted.{refusal_none, chain_within, nodes_chain}
use Rattle.table.proofs.Saying.{lent_either}
use Rattle.layout.specs.Layout.{Layout}
use Rattle.layout.specs.Trees.{draw_trees}
use Rattle.drawing.specs.Answer.{store_all, placed_in, KeptElsewhere}
use Rattle.drawing.proofs.StoredTrees.{times_in, times_trees, stored_length, stored_kept}

module _ (t p : List ℕ) (Ls : List Layout) (chained : fault t ≡ 0 → (k : ℕ) → 1 ≤ times_in k Ls → Chained t k) where
  -- Entry i, which is one of record i / 2, is kept unless the table is accepted and that record is chained.
  kept : (i : ℕ) → (fault t ≡ 0 → Chained t (i / 2) → ⊥) → get_or (kept_on_refusal (refusal t (length p)) (store_all Ls p) p) i 0 ≡ get_or p i 0
  kept i off = lent_either (refusal t (length p)) (store_all Ls p) p (λ q. get_or q i 0 ≡ get_or p i 0)
      (λ e. stored_kept Ls p i (other ((refusal_none t (length p)).0 e).0)) refl
    where
      other : fault t ≡ 0 → (k : ℕ) → 1 ≤ times_in k Ls → (i ≢ 2 * k) × (i ≢ 2 * k + 1)
      other ok k h = let apart : i / 2 ≢ k = λ d. off ok (rw d (chained ok k h)) in (λ d. apart (omega arith), λ d. apart (omega arith))

  pub only_chained : KeptElsewhere t p (kept_on_refusal (refusal t (length p)) (store_all Ls p) p)
  only_chained = record {
    long = lent_either (refusal t (length p)) (store_all Ls p) p (λ q. length q ≡ length p) (λ e. stored_length Ls p) refl;
    head = λ i h. kept i (λ ok c. omega (arith, chain_within t ok (i / 2) c));
    unchained = λ i off. kept i (λ ok. off);
    beyond = λ i h. kept i (λ ok c. omega (arith, chain_within t ok (i / 2) c));
  }

-- The records that are drawn are chained.
pub drawn_chained : (t : List ℕ) → fault t ≡ 0 → (k : ℕ) → 1 ≤ times_in k (draw_trees (trees t)) → Chained t k
drawn_chained t ok k h = (nodes_chain t ok k).0 ((member_count k (nodes_of (trees t))).1 (omega (arith, times_trees k 0 (trees t))))

pub kept_elsewhere : (t p : List ℕ) → KeptElsewhere t p (placed_in t p)
unfolding placed_in
kept_elsewhere t p = only_chained t p (draw_trees (trees t)) (drawn_chained t)

-- No entry is added or lost.
pub as_many : (t p : List ℕ) → length (placed_in t p) ≡ length p
as_many t p = (kept_elsewhere t p).long
