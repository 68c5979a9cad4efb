-- Cutting (specs of `cutting`): every word afterwards, what it leaves (`cut_leaf`), and that cutting the only node leaves the empty tree (`cut_only`).
-- Rests on Accepted and Written (`table`), Places (`cutting`), Inserted, Graft, Hooked, PruneChain, PruneSound and PruneTree.
use mathlib.Core.Path.{◌≡◌, sym, ap, ap₂, ◌∙◌}
use mathlib.Core.Logic.{◌≢◌, ⊎_elim}
use mathlib.Core.List.{List, [], ◌∷◌}
use Prim.Native.Nat.{ℕ, ◌/◌, ◌≤◌, ◌<◌}
use native.Mathlib.Omega.{arith}
use lib.ListN.{length, drop_of_length-le}
use Rattle.table.specs.Lists.{member}
use Rattle.table.specs.Table.{records, word, next_of, left_of, right_of, tag_of, root_of, chain, Chained, first_free, Empty}
use Rattle.table.specs.Trees.{named}
use Rattle.table.specs.Writing.{Write, write}
use Rattle.table.proofs.Accepted.{chain_within, root}
use Rattle.table.proofs.Written.{Elsewhere, length_writes, writes_kept, writes_last}
use Rattle.cutting.specs.Cutting.{cut_refusal, namer_of, holder, hook, cut_out}
use Rattle.cutting.proofs.Places.{Cuttable, cuttable}
use Rattle.changes.specs.Leaf.{CutLeaf}
use Rattle.changes.proofs.Inserted.{behind_length}
use Rattle.changes.proofs.Graft.{Graft}
use Rattle.changes.proofs.Hooked.{before_cases, before_names, before_apart, before_within, hooked, hook_bounds, holder_within}
use Rattle.changes.proofs.PruneChain.{Prunable, pruned_chain, pruned_free}
use Rattle.changes.proofs.PruneSound.{pruned_accepted}
use Rattle.changes.proofs.PruneTree.{pruned_trees}

module _ {t : List ℕ} {k : ℕ} (h : Cuttable t k) where
  -- The writes.
  abbrev unchain : Write
  unchain = write (namer_of t 0 k) 0 (next_of t k)

  abbrev unhook : Write
  unhook = write (holder t k) (hook t k) 0

  abbrev onward : Write
  onward = write k 0 (first_free t)

  abbrev freed : Write
  freed = write 0 2 k

  abbrev zeroed : List Write
  zeroed = write k 1 0 ∷ write k 2 0 ∷ write k 3 0 ∷ []

  inside : (1 ≤ k) × (k < records t)
  inside = chain_within t h.accepted k h.leaf

  -- The last three are of no other record.
  zeroed_elsewhere : (m i : ℕ) → m ≢ k → Elsewhere m i zeroed
  zeroed_elsewhere m i n = (omega arith, λ e. n e.0, (omega arith, λ e. n e.0, (omega arith, λ e. n e.0, tt)))

  cut_length : length (cut_out t k) ≡ length t
  unfolding cut_out
  cut_length = length_writes (unchain ∷ unhook ∷ onward ∷ freed ∷ zeroed) t

  cut_gap : next_of (cut_out t k) (namer_of t 0 k) ≡ next_of t k
  unfolding cut_out
  cut_gap = writes_last [] (namer_of t 0 k) 0 (next_of t k) (unhook ∷ onward ∷ freed ∷ zeroed) t (omega arith)
      (omega (arith, before_within h)) (
        omega (arith, hook_bounds h),
        λ e. omega (arith, e.1, hook_bounds h),
        (omega arith, λ e. before_apart h e.0, (omega arith, λ e. omega (arith, e.1), zeroed_elsewhere (namer_of t 0 k) 0 (before_apart h))),
      )

  cut_others : next_of (cut_out t k) k ≡ first_free t
  unfolding cut_out
  cut_others = writes_last (unchain ∷ unhook ∷ []) k 0 (first_free t) (freed ∷ zeroed) t (omega arith) (omega (arith, inside)) (
    omega arith,
    λ e. omega (arith, e.1),
    (
      omega arith,
      λ e. omega (arith, e.1),
      (omega arith, λ e. omega (arith, e.1), (omega arith, λ e. omega (arith, e.1), tt)),
    ),
  )

  cut_first : first_free (cut_out t k) ≡ k
  unfolding cut_out
  cut_first = writes_last (unchain ∷ unhook ∷ onward ∷ []) 0 2 k zeroed t (omega arith) (omega (arith, inside))
      (zeroed_elsewhere 0 2 (λ e. omega (arith, inside)))

  cut_blank : (left_of (cut_out t k) k ≡ 0) × (right_of (cut_out t k) k ≡ 0) × (tag_of (cut_out t k) k ≡ 0)
  unfolding cut_out
  cut_blank = (
    writes_last (unchain ∷ unhook ∷ onward ∷ freed ∷ []) k 1 0 (write k 2 0 ∷ write k 3 0 ∷ []) t (omega arith) (omega (arith, inside))
        (omega arith, λ e. omega (arith, e.1), (omega arith, λ e. omega (arith, e.1), tt)),
    writes_last (unchain ∷ unhook ∷ onward ∷ freed ∷ write k 1 0 ∷ []) k 2 0 (write k 3 0 ∷ []) t (omega arith) (omega (arith, inside))
        (omega arith, λ e. omega (arith, e.1), tt),
    writes_last (unchain ∷ unhook ∷ onward ∷ freed ∷ write k 1 0 ∷ write k 2 0 ∷ []) k 3 0 [] t (omega arith) (omega (arith, inside)) tt,
  )

  cut_vacant : word (cut_out t k) (holder t k) (hook t k) ≡ 0
  unfolding cut_out
  cut_vacant = ⊎_elim (λ (e : (holder t k ≢ k) × (word t (holder t k) (hook t k) ≡ k)). unhooked e.0)
      (λ (e : (holder t k ≡ k) × (hook t k ≡ 1) × (k ≢ root_of t) × (named t k ≡ 0)). ap₂ (word (cut_out t k)) e.0 e.1 ∙ cut_blank.0) (hooked h).names
    where
      head : (holder t k ≡ 0) × (hook t k ≡ 2) → ⊥
      head e = ⊎_elim (λ (s : hook t k ≡ 1). omega (arith, e.1)) (λ (s : (hook t k ≡ 2) × (holder t k ≢ 0)). s.1 e.0) (hooked h).slot

      unhooked : holder t k ≢ k → word (cut_out t k) (holder t k) (hook t k) ≡ 0
      unhooked n = writes_last (unchain ∷ []) (holder t k) (hook t k) 0 (onward ∷ freed ∷ zeroed) t (omega (arith, hook_bounds h))
          (omega (arith, hook_bounds h, holder_within h)) (omega arith, λ e. n e.0, (omega arith, head, zeroed_elsewhere (holder t k) (hook t k) n))

  cut_same : (m i : ℕ) → i < 4 → m ≢ k → ((m ≡ 0) × (i ≡ 2) → ⊥) → ((m ≡ namer_of t 0 k) × (i ≡ 0) → ⊥) → ((m ≡ holder t k) × (i ≡ hook t k) → ⊥) →
      word t m i ≡ word (cut_out t k) m i
  unfolding cut_out
  cut_same m i b n f c p = sym (writes_kept m i (unchain ∷ unhook ∷ onward ∷ freed ∷ zeroed) t b
      (omega arith, c, (omega (arith, hook_bounds h), p, (omega arith, λ e. n e.0, (omega arith, f, zeroed_elsewhere m i n)))))

  -- The table before is the table afterwards with the leaf.
  pub cut_graft : Graft (cut_out t k) t (namer_of t 0 k) (holder t k) (hook t k) k
  cut_graft = record {
    long = sym cut_length;
    some = inside.0;
    inside = omega (arith, inside, ap (λ (n : ℕ). n / 8) cut_length);
    apart_c = before_apart h;
    slot = (hooked h).slot;
    first = cut_first;
    gap = cut_gap;
    vacant = cut_vacant;
    blank = cut_blank;
    others = sym cut_others;
    follows = before_names h;
    names = (hooked h).names;
    childless = h.childless;
    same = cut_same;
  }

  cut_prunable : Prunable t (namer_of t 0 k) (holder t k) k
  cut_prunable = record { accepted = h.accepted; leaf = h.leaf; before = before_cases h; holder = (hooked h).holder; alone = h.alone }

  cuttable_leaf : CutLeaf t k
  cuttable_leaf = record {
    accepted = pruned_accepted cut_graft cut_prunable;
    pruned = pruned_trees cut_graft cut_prunable;
    tags = λ m a n. sym (cut_same m 3 (omega arith) n (λ e. omega (arith, e.1)) (λ e. omega (arith, e.1)) (λ e. omega (arith, e.1, hook_bounds h)));
    before = namer_of t 0 k;
    behind = pruned_chain cut_graft cut_prunable;
    given = pruned_free cut_graft cut_prunable;
  }

pub cut_leaf : (t : List ℕ) (k : ℕ) → cut_refusal t k ≡ 0 → CutLeaf t k
cut_leaf t k e = cuttable_leaf (cuttable t k e)

-- "cutting the only box empties the tree"
pub cut_only : (t : List ℕ) (k : ℕ) → cut_refusal t k ≡ 0 → chain t ≡ k ∷ [] → Empty (cut_out t k)
cut_only t k e one = ⊎_elim (λ (z : Empty (cut_out t k)). z) (λ (m : Chained (cut_out t k) (root_of (cut_out t k))). absurd
    (unfold member in rw none_left at m))
    (root (cut_out t k) l.accepted)
  where
    l : CutLeaf t k
    l = cut_leaf t k e

    none_left : chain (cut_out t k) ≡ []
    none_left = drop_of_length-le (chain (cut_out t k)) {i = 0}
        (omega (arith, behind_length l.before k 0 (chain (cut_out t k)) (chain t) l.behind, ap length one))
