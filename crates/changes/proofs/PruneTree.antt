-- A leaf taken off (Graft): the trees are without it. Rests on Lists, Chain and Accepted (`table`), Inserted, Graft, PruneChain and PruneLinks.
use mathlib.Core.Path.{◌≡◌, refl, sym, ap, ap₂, ◌∙◌}
use mathlib.Core.Logic.{◌≢◌, ◌⊎◌, inl, inr, ⊎_elim}
use mathlib.Core.Bool.{Bool, true, false, not, ◌&&◌}
use mathlib.Core.List.{List, [], ◌∷◌, map}
use Prim.Native.Nat.{ℕ, zero, suc, ◌<◌}
use native.Mathlib.Omega.{arith}
use lib.Dec.{T, eqb}
use borrow.Author.Tests.{eq-eqb, ne_eqb}
use Rattle.table.specs.Lists.{member, select}
use Rattle.table.specs.Table.{left, right, records, left_of, right_of, root_of, chain, Chained, Empty}
use Rattle.table.specs.Tree.{Tree, none, node, size, descend, tree_at}
use Rattle.table.specs.Trees.{starts_tree, trees}
use Rattle.table.proofs.Lists.{member_cons, Alike, alike, select_same}
use Rattle.table.proofs.Chain.{descend_none}
use Rattle.table.proofs.Accepted.{empty_none, tree_none, chain_within, chain_length, links_chained, size_below, tree_unfolds, size_child}
use Rattle.changes.specs.Leaf.{without_leaf, nonempty, without_node}
use Rattle.changes.proofs.Inserted.{behind_select}
use Rattle.changes.proofs.Graft.{Graft, as_many}
use Rattle.changes.proofs.PruneChain.{Prunable, pruned_chain}
use Rattle.changes.proofs.PruneLinks.{still, other, off, Paired, link_paired, root_paired, top, top_cases, named_same}

-- One level of a tree, a node that is not the leaf, and a tree that has a node.
descend_node : (n : ℕ) (t : List ℕ) (k : ℕ) → 0 < k → descend (suc n) t k ≡ node k (descend n t (left_of t k)) (descend n t (right_of t k))
unfolding descend
descend_node n t zero z = absurd (omega arith)
descend_node n t (suc k) z = refl

without_none : (f : ℕ) → without_leaf f none ≡ none
unfolding without_leaf
without_none f = refl

without_node_lem : (f k : ℕ) (a b : Tree) → k ≢ f → without_leaf f (node k a b) ≡ node k (without_leaf f a) (without_leaf f b)
unfolding without_leaf
without_node_lem f k a b n = rw (ne_eqb k f n)

nonempty_node : (a : Tree) (k : ℕ) (x y : Tree) (ts : List Tree) → a ≡ node k x y → nonempty (a ∷ ts) ≡ a ∷ nonempty ts
unfolding nonempty
nonempty_node a k x y ts e = rw e refl

module _ {t u : List ℕ} {c p j f : ℕ} (g : Graft t u c p j f) (h : Prunable u c p f) where
  -- The trees.
  leaf_only : without_leaf f (tree_at u f) ≡ none
  unfolding without_leaf
  leaf_only = rw (tree_unfolds u h.accepted f h.leaf, eq-eqb f f refl)

  pruned_below : (n k m : ℕ) → (k ≡ 0) ⊎ Chained u k → Paired g h k m → size (tree_at u k) < n → descend n t m ≡ without_leaf f (tree_at u k)
  pruned_below zero k m a e b = absurd (omega arith)
  pruned_below (suc n) k m (inl z) (inl e) b = absurd (omega (arith, e.0, g.some))
  pruned_below (suc n) k m (inl z) (inr e) b =
      ap (descend (suc n) t) (e.0 ∙ z) ∙ descend_none (suc n) t ∙
      sym (ap (λ (x : ℕ). without_leaf f (tree_at u x)) z ∙ ap (without_leaf f) (tree_none u) ∙ without_none f)
  pruned_below (suc n) k m (inr a) (inl e) b =
      ap (descend (suc n) t) e.1 ∙ descend_none (suc n) t ∙ sym (ap (λ (x : ℕ). without_leaf f (tree_at u x)) e.0 ∙ leaf_only)
  pruned_below (suc n) k m (inr a) (inr e) b =
      let ok = h.accepted in
      let i = other g h k a e.1 in
      let x = pruned_below n (left_of u k) (left_of t k) (links_chained u ok k left a) (link_paired g h k left i) (omega (arith, size_child u ok k left a)) in
      let y = pruned_below n (right_of u k) (right_of t k) (links_chained u ok k right a) (link_paired g h k right i)
      (omega (arith, size_child u ok k right a)) in
      ap (descend (suc n) t) e.0 ∙ descend_node n t k (chain_within u ok k a).0 ∙ ap₂ (node k) x y
      ∙ sym (ap (without_leaf f) (tree_unfolds u ok k a) ∙ without_node_lem f k (tree_at u (left_of u k)) (tree_at u (right_of u k)) e.1)

  pruned_at : (k m : ℕ) → Chained u k → Paired g h k m → tree_at t m ≡ without_leaf f (tree_at u k)
  pruned_at k m a e = pruned_below (records t) k m (inr a) e (omega (arith, size_below u h.accepted k a, chain_length u h.accepted, as_many g))

  -- The other trees: that of the leaf is gone, and none of the others is empty.
  abbrev starting : ℕ → Bool
  starting k = not (eqb k f) && starts_tree u k

  others_pruned : (ks : List ℕ) → ((k : ℕ) → T (member k ks) → Chained u k) →
      nonempty (map (without_leaf f) (map (tree_at u) (select (starts_tree u) ks))) ≡ map (tree_at t) (select starting ks)
  unfolding select nonempty
  others_pruned [] c = refl
  others_pruned (k ∷ ks) c = go (starts_tree u k) (alike k f) (others_pruned ks (λ x m. c x ((member_cons x k ks).1 (inr m))))
    where
      rest : List Tree
      rest = map (without_leaf f) (map (tree_at u) (select (starts_tree u) ks))

      go : (b : Bool) → Alike k f → nonempty rest ≡ map (tree_at t) (select starting ks) →
          nonempty (map (without_leaf f) (map (tree_at u) (elim b [ true ↦ k ∷ select (starts_tree u) ks | false ↦ select (starts_tree u) ks ])))
          ≡ map (tree_at t) (elim (not (eqb k f) && b) [ true ↦ k ∷ select starting ks | false ↦ select starting ks ])
      go false (inl e) r = rw (eq-eqb k f e.0) r
      go false (inr e) r = rw (ne_eqb k f e.0) r
      go true (inl e) r =
          let gone = ap (λ (x : ℕ). without_leaf f (tree_at u x)) e.0 ∙ leaf_only in
          rw (eq-eqb k f e.0) (ap (λ (x : Tree). nonempty (x ∷ rest)) gone ∙ r)
      go true (inr e) r =
          let m = c k ((member_cons k k ks).1 (inl refl)) in
          let n = ap (without_leaf f) (tree_unfolds u h.accepted k m) ∙ without_node_lem f k (tree_at u (left_of u k)) (tree_at u (right_of u k)) e.0 in
          let some = nonempty_node (without_leaf f (tree_at u k)) k (without_leaf f (tree_at u (left_of u k)))
          (without_leaf f (tree_at u (right_of u k))) rest n in
          rw (ne_eqb k f e.0) (some ∙ ap₂ (λ (x : Tree) (xs : List Tree). x ∷ xs) (sym (pruned_at k k m (inr (refl, e.0)))) r)

  others_left : select starting (chain u) ≡ select (starts_tree t) (chain t)
  unfolding starts_tree
  others_left = behind_select c f 0 (chain t) (chain u) (pruned_chain g h) starting (rw (eq-eqb f f refl)) ∙
      select_same starting (starts_tree t) (chain t) alike_there
    where
      alike_there : (k : ℕ) → Chained t k → starting k ≡ starts_tree t k
      alike_there k m =
          let d = ⊎_elim (λ (z : Empty t). absurd (empty_none t z k m)) (λ (d : (root_of t ≡ root_of u) × Chained t (root_of t)). d.0) (top_cases g h) in
          rw (ne_eqb k f (off g h k m), d, named_same g h k (chain_within u h.accepted k (still g h k m)).0 (off g h k m))

  pub pruned_trees : trees t ≡ without_node f (trees u)
  unfolding without_node
  pruned_trees = ap₂ (λ (x : Tree) (xs : List Tree). x ∷ xs) (pruned_at (root_of u) (root_of t) (top g h) (root_paired g h))
      (sym (others_pruned (chain u) (λ k m. m) ∙ ap (map (tree_at t)) others_left))
