-- The links of a table with a leaf more (`Growth`), and how often each record is named as a child. Rests on Lists, Chain and Accepted (`table`), Inserted,
-- Graft and GrowChain.
use mathlib.Core.Path.{◌≡◌, refl, sym, ap, ap₂, ◌∙◌}
use mathlib.Core.Logic.{◌⊎◌, inl, inr, ⊎_elim}
use mathlib.Core.List.{List}
use Prim.Native.Nat.{ℕ, suc, ◌+◌, ◌<◌}
use native.Mathlib.Omega.{arith}
use Rattle.table.specs.Table.{Side, left, right, left_of, right_of, link_of, chain, Chained, Empty}
use Rattle.table.specs.Trees.{named}
use Rattle.table.proofs.Lists.{sum, sum_same, same, same_zero, same_one, Alike, alike, count_sum, member_count, repeats_count, count_links}
use Rattle.table.proofs.Chain.{number, number_bound, link_word}
use Rattle.table.proofs.Accepted.{chain_distinct, links_chained}
use Rattle.changes.proofs.Inserted.{behind_sum}
use Rattle.changes.proofs.Graft.{leaf_links}
use Rattle.changes.proofs.GrowChain.{Growth, off_chain, leaf_word, chained_word, graft_behind}

-- How often one record names x.
abbrev naming : List ℕ → ℕ → ℕ → ℕ
naming t x k = same x (left_of t k) + same x (right_of t k)

module _ {t u : List ℕ} {c p j f : ℕ} (a : Growth t u c p j f) where
  -- The side of the leaf.
  pub leaf_side : (s : Side) × (j ≡ suc (number s))
  unfolding number
  leaf_side = ⊎_elim (λ (e : j ≡ 1). (left, e)) (λ (e : (j ≡ 2) × (p ≡ 0 → ⊥)). (right, e.0)) a.graft.slot

  -- The links of chained records are the same, but for the one that names the leaf, and was zero. The leaf has none.
  pub link_kept : (x : ℕ) (s : Side) → Chained t x → ((x ≡ p) × (j ≡ suc (number s)) → ⊥) → link_of u s x ≡ link_of t s x
  link_kept x s m n = link_word u s x ∙ chained_word a x (suc (number s)) (omega (arith, number_bound s)) m (λ e. omega (arith, e.1))
      (λ e. n (e.0, sym e.1)) ∙ sym (link_word t s x)

  pub link_leaf : (s : Side) → j ≡ suc (number s) → (link_of u s p ≡ f) × (link_of t s p ≡ 0)
  link_leaf s e = (link_word u s p ∙ rw (sym e) (leaf_word a), link_word t s p ∙ rw (sym e) a.graft.vacant)

  pub link_cases : (x : ℕ) (s : Side) → Chained t x → (link_of u s x ≡ link_of t s x) ⊎ ((link_of u s x ≡ f) × (link_of t s x ≡ 0))
  link_cases x s m = go (alike x p) (alike j (suc (number s)))
    where
      go : Alike x p → Alike j (suc (number s)) → (link_of u s x ≡ link_of t s x) ⊎ ((link_of u s x ≡ f) × (link_of t s x ≡ 0))
      go (inr e) d = inl (link_kept x s m (λ q. e.0 q.0))
      go (inl e) (inr d) = inl (link_kept x s m (λ q. d.0 q.1))
      go (inl e) (inl d) = inr (rw e.0 (link_leaf s d.0))

  -- In t no chained record names the leaf.
  leaf_unnamed : (x : ℕ) (s : Side) → Chained t x → f ≡ link_of t s x → ⊥
  leaf_unnamed x s m e =
      ⊎_elim (λ (z : link_of t s x ≡ 0). omega (arith, a.graft.some)) (λ (n : Chained t (link_of t s x)). off_chain a (rw (sym e) at n))
      (links_chained t a.accepted x s m)

  -- What is named in u, as a sum over the records chained in t.
  named_sum : (x : ℕ) → 0 < x → named u x ≡ sum (naming u x) (chain t)
  named_sum x z =
      let none : (s : Side) → same x (link_of u s f) ≡ 0 = λ s. same_zero x (link_of u s f) (λ e. omega (arith, leaf_links a.graft s)) in
      omega (arith, count_links u x (chain u), behind_sum c f 0 (chain t) (chain u) (graft_behind a) (naming u x), none left, none right)

  -- Another record is named as often as before.
  pub named_kept : (x : ℕ) → 0 < x → (x ≡ f → ⊥) → named u x ≡ named t x
  named_kept x z n = named_sum x z ∙ sum_same (naming u x) (naming t x) (chain t) (λ k m. ap₂ ◌+◌ (each k left m) (each k right m)) ∙
      sym (count_links t x (chain t))
    where
      each : (k : ℕ) (s : Side) → Chained t k → same x (link_of u s k) ≡ same x (link_of t s k)
      each k s m =
          ⊎_elim (λ (e : link_of u s k ≡ link_of t s k). ap (same x) e)
          (λ (e : (link_of u s k ≡ f) × (link_of t s k ≡ 0)). same_zero x (link_of u s k) (λ d. n (d ∙ e.0)) ∙
          sym (same_zero x (link_of t s k) (λ d. omega (arith, e.1)))) (link_cases k s m)

  -- The leaf is named by its parent alone, or by the head.
  missed : (k : ℕ) (s : Side) → Chained t k → ((k ≡ p) × (j ≡ suc (number s)) → ⊥) → same f (link_of u s k) ≡ 0
  missed k s m n = same_zero f (link_of u s k) (λ e. leaf_unnamed k s m (e ∙ link_kept k s m n))

  parent_naming : Chained t p → naming u f p ≡ 1
  unfolding number
  parent_naming h = ⊎_elim lefts rights a.graft.slot
    where
      hit : (s : Side) → j ≡ suc (number s) → same f (link_of u s p) ≡ 1
      hit s e = same_one f (link_of u s p) (sym (link_leaf s e).0)

      lefts : j ≡ 1 → naming u f p ≡ 1
      lefts e = omega (arith, hit left e, missed p right h (λ q. omega (arith, q.1)))

      rights : (j ≡ 2) × (p ≡ 0 → ⊥) → naming u f p ≡ 1
      rights e = omega (arith, hit right e.0, missed p left h (λ q. omega (arith, q.1)))

  pub leaf_named : Chained t p → named u f ≡ 1
  leaf_named h =
      let e = sum_same (naming u f) (same p) (chain t) (λ k m. each k m (alike k p)) in
      let l = (repeats_count (chain t)).0 (chain_distinct t a.accepted) p in
      omega (arith, named_sum f a.graft.some, count_sum p (chain t), (member_count p (chain t)).0 h)
    where
      each : (k : ℕ) → Chained t k → Alike k p → naming u f k ≡ same p k
      each k m (inl e) = ap (naming u f) e.0 ∙ parent_naming h ∙ sym (same_one p k (sym e.0))
      each k m (inr e) = omega (arith, missed k left m (λ q. e.0 q.0), missed k right m (λ q. e.0 q.0), same_zero p k (λ q. e.0 (sym q)))

  pub leaf_root : Empty t → named u f ≡ 0
  unfolding sum
  leaf_root e = named_sum f a.graft.some ∙ rw e.0 refl
