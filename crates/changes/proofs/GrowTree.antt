-- The trees of a table with a leaf more (`Growth`). Rests on Lists, Chain, Causes and Accepted (`table`), Graft, GrowChain, GrowLinks and GrowSound.
use mathlib.Core.Path.{◌≡◌, sym, ap, ap₂, ◌∙◌}
use mathlib.Core.Logic.{◌⊎◌, inl, inr, ⊎_elim}
use mathlib.Core.Bool.{cond, ◌&&◌}
use mathlib.Core.List.{List, [], ◌∷◌, map, map-map}
use Prim.Native.Nat.{ℕ, zero, suc, ◌≤◌, ◌<◌}
use native.Mathlib.Omega.{arith}
use lib.Dec.{eqb}
use borrow.Author.Tests.{eq-eqb, ne_eqb}
use Rattle.table.specs.Table.{Side, left, right, records, left_of, right_of, link_of, Chained, Empty}
use Rattle.table.specs.Tree.{Tree, none, node, size, descend, tree_at}
use Rattle.table.specs.Trees.{roots, trees}
use Rattle.table.specs.Refusal.{fault}
use Rattle.table.proofs.Lists.{Alike, alike}
use Rattle.table.proofs.Chain.{number, descend_none, trees_alike}
use Rattle.table.proofs.Causes.{roots_chained}
use Rattle.table.proofs.Accepted.{chain_length, links_chained, tree_none, size_below, tree_unfolds, size_child}
use Rattle.changes.specs.Leaf.{with_leaf}
use Rattle.changes.proofs.Graft.{as_many, leaf_links}
use Rattle.changes.proofs.GrowChain.{Growth}
use Rattle.changes.proofs.GrowLinks.{link_kept, link_leaf}
use Rattle.changes.proofs.GrowSound.{top_chained, roots_leaf, roots_kept}

-- A record with no links is a leaf.
leaf_alone : (t : List ℕ) (m f : ℕ) → 0 < f → 0 < m → left_of t f ≡ 0 → right_of t f ≡ 0 → descend m t f ≡ node f none none
unfolding descend
leaf_alone t m zero z y l r = absurd (omega arith)
leaf_alone t zero (suc f) z y l r = absurd (omega arith)
leaf_alone t (suc m) (suc f) z y l r = rw (l, r, descend_none m t)

module _ {t u : List ℕ} {c p j f : ℕ} (a : Growth t u c p j f) where
  abbrev ok : fault t ≡ 0
  ok = a.accepted

  leaf_tree : (m : ℕ) → 0 < m → descend m u f ≡ node f none none
  leaf_tree m h = leaf_alone u m f a.graft.some h (leaf_links a.graft left) (leaf_links a.graft right)

  -- The leaf is the root, and the only node.
  pub trees_leaf : p ≡ 0 → Empty t → trees u ≡ node f none none ∷ []
  trees_leaf e z = ap (map (tree_at u)) (roots_leaf a e z) ∙
      ap (λ (x : Tree). x ∷ []) (leaf_tree (records u) (omega (arith, as_many a.graft, a.graft.inside)))

  -- Under its parent.
  module _ (side : ℕ) (at : j ≡ suc side) where
    abbrev Grown : (m k : ℕ) → Type 0
    Grown m k = (k ≡ 0) ⊎ Chained t k → size (tree_at t k) < m → descend m u k ≡ with_leaf p side f (tree_at t k)

    below : (m k : ℕ) (s : Side) → Chained t k → size (tree_at t k) ≤ m → ((x : ℕ) → Grown m x) →
        descend m u (link_of u s k) ≡ cond (eqb k p && eqb side (number s)) (node f none none) (with_leaf p side f (tree_at t (link_of t s k)))
    below m k s h l r = go (alike k p) (alike side (number s))
      where
        kept : ((k ≡ p) × (j ≡ suc (number s)) → ⊥) → descend m u (link_of u s k) ≡ with_leaf p side f (tree_at t (link_of t s k))
        kept n = ap (descend m u) (link_kept a k s h n) ∙ r (link_of t s k) (links_chained t ok k s h) (omega (arith, size_child t ok k s h))

        go : Alike k p → Alike side (number s) →
            descend m u (link_of u s k) ≡ cond (eqb k p && eqb side (number s)) (node f none none) (with_leaf p side f (tree_at t (link_of t s k)))
        go (inr e) d = rw (ne_eqb k p e.0) (kept (λ q. e.0 q.0))
        go (inl e) (inr d) = rw (eq-eqb k p e.0, ne_eqb side (number s) d.0) (kept (λ q. d.0 (omega (arith, q.1))))
        go (inl e) (inl d) =
            let there = ap (link_of u s) e.0 ∙ (link_leaf a s (at ∙ ap suc d.0)).0 in
            rw (eq-eqb k p e.0, eq-eqb side (number s) d.0) (ap (descend m u) there ∙ leaf_tree m (omega (arith, size_child t ok k s h)))

    grown_at : (m k : ℕ) → Grown m k
    unfolding descend with_leaf number
    grown_at zero k h l = absurd (omega arith)
    grown_at (suc m) zero h l = rw (tree_none t)
    grown_at (suc m) (suc k) h l = go (⊎_elim (λ (e : suc k ≡ 0). absurd (omega arith)) (λ (i : Chained t (suc k)). i) h) (grown_at m)
      where
        go : Chained t (suc k) → ((x : ℕ) → Grown m x) → descend (suc m) u (suc k) ≡ with_leaf p side f (tree_at t (suc k))
        go i r = rw (tree_unfolds t ok (suc k) i) (ap₂ (node (suc k)) (below m (suc k) left i (omega arith) r) (below m (suc k) right i (omega arith) r))

    tree_grown : (k : ℕ) → Chained t k → tree_at u k ≡ with_leaf p side f (tree_at t k)
    tree_grown k m = grown_at (records u) k (inr m) (omega (arith, as_many a.graft, chain_length t ok, size_below t ok k m))

    pub trees_grown : Chained t p → trees u ≡ map (with_leaf p side f) (trees t)
    trees_grown h = ap (map (tree_at u)) (roots_kept a h) ∙
        trees_alike (tree_at u) (λ k. with_leaf p side f (tree_at t k)) (roots t) (λ k m. tree_grown k (roots_chained t (top_chained a h) k m)) ∙
        sym (map-map (with_leaf p side f) (tree_at t) (roots t))
