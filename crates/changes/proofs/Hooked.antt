-- Who names a record to be cut (specs of `cutting`): the one before it on the chain, and its parent's or the head's link, or none. Rests on Lists, Accepted and
-- Nexts (`table`), Places and Hooks (`cutting`) and Graft.
use mathlib.Core.Path.{◌≡◌, refl, sym, ap, ◌∙◌}
use mathlib.Core.Logic.{◌≢◌, ◌⊎◌, inl, inr, ⊎_elim}
use mathlib.Core.List.{List}
use Prim.Native.Nat.{ℕ, ◌≤◌, ◌<◌}
use native.Mathlib.Decide.{ℕ_discrete}
use native.Mathlib.Omega.{arith}
use Rattle.table.specs.Table.{records, word, next_of, root_of, Chained}
use Rattle.table.proofs.Lists.{Alike, alike}
use Rattle.table.proofs.Accepted.{records_bounds, chain_within}
use Rattle.table.proofs.Nexts.{chain_before, next_apart}
use Rattle.cutting.specs.Cutting.{namer_of, holder, hook}
use Rattle.cutting.proofs.Places.{Cuttable}
use Rattle.cutting.proofs.Hooks.{namer_cases, hook_right, hook_left, hook_head, not_named, hook_own}
use Rattle.changes.proofs.Graft.{NamedBy}

-- A leaf to be cut, and the word j of the record p: of its parent, on the left or on the right, of the head, or of itself.
pub record Hooked (t : List ℕ) (k p j : ℕ) : Type 0 where
  pub slot : (j ≡ 1) ⊎ ((j ≡ 2) × (p ≢ 0))
  pub names : NamedBy t p j k
  pub holder : ((p ≡ 0) × (root_of t ≡ k)) ⊎ Chained t p

module _ {t : List ℕ} {k : ℕ} (h : Cuttable t k) where
  leaf_positive : 0 < k
  leaf_positive = (chain_within t h.accepted k h.leaf).0

  -- The record before it, or the head.
  pub before_cases : (namer_of t 0 k ≡ 0) ⊎ Chained t (namer_of t 0 k)
  before_cases = ⊎_elim (λ (r : Chained t (namer_of t 0 k) × (next_of t (namer_of t 0 k) ≡ k)). inr r.0)
      (λ (r : (namer_of t 0 k ≡ 0) × ((m : ℕ) → Chained t m → next_of t m ≢ k)). inl r.0) (namer_cases t 0 k)

  pub before_names : next_of t (namer_of t 0 k) ≡ k
  before_names = ⊎_elim (λ (r : Chained t (namer_of t 0 k) × (next_of t (namer_of t 0 k) ≡ k)). r.1) head (namer_cases t 0 k)
    where
      head : (namer_of t 0 k ≡ 0) × ((m : ℕ) → Chained t m → next_of t m ≢ k) → next_of t (namer_of t 0 k) ≡ k
      head r =
          let b = chain_before t h.accepted k h.leaf in
          ⊎_elim (λ (z : b.0 ≡ 0). ap (next_of t) (r.0 ∙ sym z) ∙ b.2) (λ (m : Chained t b.0). absurd (r.1 b.0 m b.2)) b.1

  pub before_apart : namer_of t 0 k ≢ k
  before_apart e = next_apart t h.accepted (namer_of t 0 k) before_cases (omega (arith, before_names, leaf_positive)) (before_names ∙ sym e)

  pub before_within : namer_of t 0 k < records t
  before_within = ⊎_elim (λ (e : namer_of t 0 k ≡ 0). omega (arith, records_bounds t h.accepted))
      (λ (m : Chained t (namer_of t 0 k)). (chain_within t h.accepted (namer_of t 0 k) m).1) before_cases

  -- Its parent, the head, or itself.
  below : (p j : ℕ) → Chained t p × (word t p j ≡ k) → word t k j ≡ 0 → (j ≡ 1) ⊎ ((j ≡ 2) × (p ≢ 0)) → Hooked t k p j
  below p j r z s = record { slot = s; names = inl (λ e. omega (arith, leaf_positive, z, r.1, ap (λ (m : ℕ). word t m j) e), r.1); holder = inr r.0 }

  found : (j : ℕ) → namer_of t j k ≢ 0 → Chained t (namer_of t j k) × (word t (namer_of t j k) j ≡ k)
  found j n = ⊎_elim (λ (r : Chained t (namer_of t j k) × (word t (namer_of t j k) j ≡ k)). r)
      (λ (r : (namer_of t j k ≡ 0) × ((m : ℕ) → Chained t m → word t m j ≢ k)). absurd (n r.0)) (namer_cases t j k)

  pub hooked : Hooked t k (holder t k) (hook t k)
  hooked = go (ℕ_discrete (namer_of t 2 k) 0) (ℕ_discrete (namer_of t 1 k) 0) (alike k (root_of t))
    where
      go : Dec (namer_of t 2 k ≡ 0) → Dec (namer_of t 1 k ≡ 0) → Alike k (root_of t) → Hooked t k (holder t k) (hook t k)
      go (no n) b c = let e = hook_right t k n in rw (e.0, e.1) (below (namer_of t 2 k) 2 (found 2 n) h.childless.1 (inr (refl, n)))
      go (yes z) (no n) c = let e = hook_left t k z n in rw (e.0, e.1) (below (namer_of t 1 k) 1 (found 1 n) h.childless.0 (inl refl))
      go (yes z) (yes y) (inl d) =
          let e = hook_head t k z y d.0 in
          rw (e.0, e.1) (record { slot = inl refl; names = inl (λ q. omega (arith, leaf_positive), sym d.0); holder = inl (refl, sym d.0) })
      go (yes z) (yes y) (inr d) =
          let e = hook_own t k z h.accepted y d.0 in
          rw (e.0, e.1) (record { slot = inl refl; names = inr (refl, refl, d.0, not_named t k z h.accepted y); holder = inr h.leaf })

  pub hook_bounds : (1 ≤ hook t k) × (hook t k ≤ 2)
  hook_bounds = ⊎_elim (λ (e : hook t k ≡ 1). (omega arith, omega arith)) (λ (e : (hook t k ≡ 2) × (holder t k ≢ 0)). (omega arith, omega arith)) hooked.slot

  pub holder_within : holder t k < records t
  holder_within = ⊎_elim (λ (e : (holder t k ≡ 0) × (root_of t ≡ k)). omega (arith, e.0, records_bounds t h.accepted))
      (λ (m : Chained t (holder t k)). (chain_within t h.accepted (holder t k) m).1) hooked.holder
