-- The wide call too writes the entries of chained nodes only: "Entries of the head, of unchained records and beyond are kept", refused or not:
-- `wide_kept_elsewhere`. And left, right and tag of a record on neither chain change no answer: `off_chain_wide`. Rests on Answered and Transposed.
use mathlib.Core.Path.{◌≡◌, sym, ap, ap₂, ◌∙◌}
use mathlib.Core.List.{List, [], ◌∷◌, map}
use Prim.Native.Nat.{ℕ, ◌≤◌}
use native.Mathlib.Decide.{ℕ_discrete}
use native.Mathlib.Omega.{arith}
use lib.ListN.{length}
use Rattle.table.specs.Table.{Chained}
use Rattle.table.specs.Tree.{Tree}
use Rattle.table.specs.Trees.{trees, nodes_of}
use Rattle.table.specs.Refusal.{fault, refusal}
use Rattle.table.specs.OffChain.{OffChain}
use Rattle.table.proofs.Lists.{member_count}
use Rattle.table.proofs.Accepted.{refusal_none, nodes_chain}
use Rattle.table.proofs.OffChain.{chain_same, refusal_same, trees_same}
use Rattle.table.specs.Said.{answered}
use Rattle.table.proofs.Saying.{answered_refused}
use Rattle.layout.specs.Layout.{mirror}
use Rattle.layout.specs.Trees.{draw_trees, width_of, height_of}
use Rattle.drawing.specs.Answer.{store_all, KeptElsewhere}
use Rattle.drawing.proofs.StoredTrees.{times_in, times_trees}
use Rattle.drawing.proofs.Elsewhere.{only_chained}
use Rattle.mirror.proofs.Table.{member_mirrored}
use Rattle.wide.specs.Wide.{draw_wide, wide_of, wide_placed_in}
use Rattle.wide.proofs.Transposed.{times_turned}
use Rattle.wide.proofs.Answered.{wide_placed, wide_left}

-- The wide drawings have the nodes of the mirror images, so their records are the chained ones.
wide_chained : (t : List ℕ) → fault t ≡ 0 → (k : ℕ) → 1 ≤ times_in k (draw_wide (trees t)) → Chained t k
unfolding draw_wide
wide_chained t ok k h =
    let ts = map mirror (trees t) in
    (nodes_chain t ok k).0 (rw (member_mirrored k (trees t)) at
    ((member_count k (nodes_of ts)).1 (omega (arith, h, times_turned k (draw_trees ts), times_trees k 0 ts))))

pub wide_kept_elsewhere : (t p : List ℕ) → KeptElsewhere t p (wide_placed_in t p)
unfolding wide_placed_in
wide_kept_elsewhere t p = only_chained t p (draw_wide (trees t)) (wide_chained t)

pub off_chain_wide : (t u p : List ℕ) → OffChain t u → (wide_of u p ≡ wide_of t p) × (wide_placed_in u p ≡ wide_placed_in t p)
unfolding wide_of
off_chain_wide t u p h = go (ℕ_discrete (refusal t (length p)) 0)
  where
    same : refusal u (length p) ≡ refusal t (length p)
    same = refusal_same h (length p)

    go : Dec (refusal t (length p) ≡ 0) → (wide_of u p ≡ wide_of t p) × (wide_placed_in u p ≡ wide_placed_in t p)
    go (yes e) =
        let r = trees_same h ((refusal_none t (length p)).0 e).0 in (
          ap₂ (λ (n : ℕ) (v : List ℕ). answered n v) same
              (ap₂ (λ (ks : List ℕ) (ts : List Tree). length ks ∷ width_of (draw_wide ts) ∷ height_of (draw_wide ts) ∷ []) (chain_same h) r),
          wide_placed u p (same ∙ e) ∙ (ap (λ (ts : List Tree). store_all (draw_wide ts) p) r ∙ sym (wide_placed t p e)),
        )
    go (no n) = (
      rw same (answered_refused (refusal t (length p)) _ n ∙ sym (answered_refused (refusal t (length p)) _ n)),
      wide_left u p (λ e. n (sym same ∙ e)) ∙ sym (wide_left t p n),
    )
