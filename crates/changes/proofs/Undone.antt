-- Cutting undoes a leaf more: a table without the leaf is known from the table with it (`graft_words`), and the records that cutting finds are those of the
-- Graft. So it leaves every byte as it was without the leaf. Rests on Chain, Causes, Accepted, Bytes and Nexts (`table`), Places (`hanging`), Graft,
-- PruneChain, Hooked and Cutting.
use mathlib.Core.Path.{◌≡◌, sym, ap, ◌∙◌}
use mathlib.Core.Logic.Dec
use mathlib.Core.Logic.{◌≢◌, ◌⊎◌, inl, inr, ⊎_elim}
use mathlib.Core.List.{List}
use Prim.Native.Nat.{ℕ, suc, ◌<◌}
use native.Mathlib.Decide.{ℕ_discrete}
use native.Mathlib.Omega.{arith}
use Rattle.table.specs.Table.{Side, left, right, word, link_of, root_of, chain, Chained}
use Rattle.table.specs.Trees.{named}
use Rattle.table.specs.Refusal.{fault}
use Rattle.table.proofs.Chain.{number, names}
use Rattle.table.proofs.Causes.{root_first}
use Rattle.table.proofs.Accepted.{records_bounds, chain_within, parent_unique, root_unnamed}
use Rattle.table.specs.Writing.{Bytes}
use Rattle.table.proofs.Bytes.{word_small, same_words, bytes_all}
use Rattle.table.proofs.Nexts.{next_unique}
use Rattle.table.proofs.Saying.{lent_made}
use Rattle.cutting.specs.Cutting.{cut_refusal, namer_of, holder, hook, cut_out, after_cut}
use Rattle.cutting.proofs.Places.{Cuttable, cut_granted}
use Rattle.changes.proofs.Graft.{Graft, NamedBy}
use Rattle.changes.proofs.PruneChain.{Prunable}
use Rattle.changes.proofs.Hooked.{Hooked, before_cases, before_names, hooked}
use Rattle.changes.proofs.Cutting.{cut_graft}

-- Two tables that are both u without the leaf have the same words.
module _ {t v u : List ℕ} {c p j f : ℕ} (g : Graft t u c p j f) (h : Graft v u c p j f) where
  leaf_words : (i : ℕ) → i < 4 → word v f i ≡ word t f i
  leaf_words i low = go (ℕ_discrete i 0) (ℕ_discrete i 1) (ℕ_discrete i 2)
    where
      go : Dec (i ≡ 0) → Dec (i ≡ 1) → Dec (i ≡ 2) → word v f i ≡ word t f i
      go (yes e) b c = rw e (sym h.others ∙ g.others)
      go (no a) (yes e) c = rw e (h.blank.0 ∙ sym g.blank.0)
      go (no a) (no b) (yes e) = rw e (h.blank.1 ∙ sym g.blank.1)
      go (no a) (no b) (no c) = let e : i ≡ 3 = omega (arith, a, b, c) in rw e (h.blank.2 ∙ sym g.blank.2)

  pub graft_words : (m i : ℕ) → i < 4 → word v m i ≡ word t m i
  graft_words m i b = go (ℕ_discrete m f) (Dec.and (ℕ_discrete m 0) (ℕ_discrete i 2)) (Dec.and (ℕ_discrete m c) (ℕ_discrete i 0))
      (Dec.and (ℕ_discrete m p) (ℕ_discrete i j))
    where
      go : Dec (m ≡ f) → Dec ((m ≡ 0) × (i ≡ 2)) → Dec ((m ≡ c) × (i ≡ 0)) → Dec ((m ≡ p) × (i ≡ j)) → word v m i ≡ word t m i
      go (yes e) x y z = rw e (leaf_words i b)
      go (no w) (yes e) y z = rw (e.0, e.1) (h.first ∙ sym g.first)
      go (no w) (no x) (yes e) z = rw (e.0, e.1) (h.gap ∙ sym g.gap)
      go (no w) (no x) (no y) (yes e) = rw (e.0, e.1) (h.vacant ∙ sym g.vacant)
      go (no w) (no x) (no y) (no z) = sym (h.same m i b w x y z) ∙ g.same m i b w x y z

-- The side of a leaf below a record.
hook_side : (t : List ℕ) (k p j : ℕ) → Hooked t k p j → word t p j ≡ k → (s : Side) × (link_of t s p ≡ k) × (j ≡ suc (number s))
unfolding number
hook_side t k p j h w = ⊎_elim (λ (e : j ≡ 1). (left, rw e at w, e)) (λ (e : (j ≡ 2) × (p ≢ 0)). (right, rw e.0 at w, e.0)) h.slot

head_slot : (t : List ℕ) (k p j : ℕ) → Hooked t k p j → p ≡ 0 → j ≡ 1
head_slot t k p j h z = ⊎_elim (λ (e : j ≡ 1). e) (λ (e : (j ≡ 2) × (p ≢ 0)). absurd (e.1 z)) h.slot

-- One record holds a leaf, by one word.
hook_unique : (t : List ℕ) (k p j q i : ℕ) → fault t ≡ 0 → 0 < k → Hooked t k p j → Hooked t k q i → (p ≡ q) × (j ≡ i)
hook_unique t k p j q i ok z a b = go a.names b.names
  where
    one : (m n : ℕ) → Hooked t k m n → word t m n ≡ k → root_of t ≡ k → Chained t m → ⊥
    one m n h w r c = let s = hook_side t k m n h w in root_unnamed t ok (root_of t) (root_first t) m s.0 c (s.1 ∙ sym r)

    none : (m n : ℕ) → Hooked t k m n → word t m n ≡ k → k ≢ root_of t → named t k ≡ 0 → ⊥
    none m n h w r e =
        ⊎_elim (λ (d : (m ≡ 0) × (root_of t ≡ k)). r (sym d.1))
        (λ (c : Chained t m). let s = hook_side t k m n h w in omega (arith, e, names t k m s.0 (chain t) c (sym s.1))) h.holder

    both : word t p j ≡ k → word t q i ≡ k → ((p ≡ 0) × (root_of t ≡ k)) ⊎ Chained t p → ((q ≡ 0) × (root_of t ≡ k)) ⊎ Chained t q → (p ≡ q) × (j ≡ i)
    both v w (inl e) (inl d) = (e.0 ∙ sym d.0, head_slot t k p j a e.0 ∙ sym (head_slot t k q i b d.0))
    both v w (inl e) (inr d) = absurd (one q i b w e.1 d)
    both v w (inr e) (inl d) = absurd (one p j a v d.1 e)
    both v w (inr e) (inr d) =
        let s = hook_side t k p j a v in
        let r = hook_side t k q i b w in
        let u = parent_unique t ok p q s.0 r.0 e d (omega (arith, s.1)) (s.1 ∙ sym r.1) in
        (u.0, s.2 ∙ ap (λ (x : Side). suc (number x)) u.1 ∙ sym r.2)

    go : NamedBy t p j k → NamedBy t q i k → (p ≡ q) × (j ≡ i)
    go (inl e) (inl d) = both e.1 d.1 a.holder b.holder
    go (inl e) (inr d) = absurd (none p j a e.1 d.2 d.3)
    go (inr e) (inl d) = absurd (none q i b d.1 e.2 e.3)
    go (inr e) (inr d) = (e.0 ∙ sym d.0, e.1 ∙ sym d.1)

-- Cutting the leaf off u gives t.
module _ {t u : List ℕ} {c p j f : ℕ} (g : Graft t u c p j f) (h : Prunable u c p f) where
  leaf_cuttable : Cuttable u f
  leaf_cuttable = record { accepted = h.accepted; leaf = h.leaf; childless = g.childless; alone = h.alone }

  cut_bytes : Bytes u → Bytes (cut_out u f)
  unfolding cut_out
  cut_bytes b =
      let z : 0 < 65536 = omega arith in
      let s : f < 65536 = omega (arith, chain_within u h.accepted f h.leaf, records_bounds u h.accepted) in
      bytes_all _ u b (word_small u f 0 b, (z, (word_small u 0 2 b, (s, (z, (z, (z, tt)))))))

  same_before : namer_of u 0 f ≡ c
  same_before = next_unique u h.accepted (namer_of u 0 f) c (before_cases leaf_cuttable) h.before
      (omega (arith, before_names leaf_cuttable, g.some)) (before_names leaf_cuttable ∙ sym g.follows)

  same_holder : (holder u f ≡ p) × (hook u f ≡ j)
  same_holder = hook_unique u f (holder u f) (hook u f) p j h.accepted g.some (hooked leaf_cuttable)
      (record { slot = g.slot; names = g.names; holder = h.holder })

  cut_undoes : Bytes t → Bytes u → cut_out u f ≡ t
  cut_undoes a b = same_words t (cut_out u f) (sym cut.long ∙ g.long) (omega (arith, g.long, records_bounds u h.accepted)) a (cut_bytes b)
      (λ m i w. graft_words g cut m i)
    where
      cut : Graft (cut_out u f) u c p j f
      cut = rw (same_before, same_holder.0, same_holder.1) at (cut_graft leaf_cuttable)

  pub cut_allowed : cut_refusal u f ≡ 0
  cut_allowed = cut_granted u f leaf_cuttable

  pub after_undoes : Bytes t → Bytes u → after_cut u f ≡ t
  unfolding after_cut
  after_undoes a b = sym (lent_made (cut_refusal u f) (cut_out u f) u cut_allowed) ∙ cut_undoes a b
