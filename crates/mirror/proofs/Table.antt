-- The laws of the exchanged table: as long, with the same head, chain and tags; left and right of each chained node exchanged; refused as the table is;
-- its trees are the mirror images. Rests on Each and on the laws of tables (`table`): a word written, the causes of refusal, what an accepted table is like.
use mathlib.Core.Path.{◌≡◌, refl, sym, ap, ap₂, ◌∙◌}
use mathlib.Core.Logic.{◌⊎◌, inl, inr}
use mathlib.Core.Bool.{Bool, true, false, cond, ◌||◌, or_comm}
use mathlib.Core.List.{List, [], ◌∷◌, map, map-map}
use Prim.Native.Nat.{ℕ, zero, suc, ◌<◌}
use native.Mathlib.Omega.{arith}
use lib.Dec.{T}
use lib.ListN.{length}
use Rattle.table.specs.Lists.{member, count}
use Rattle.table.specs.Table.{Side, left, right, records, word, link_of, next_of, left_of, right_of, root_of, chain, Chained, first_free, free}
use Rattle.table.specs.Tree.{Tree, node, nodes, descend, tree_at}
use Rattle.table.specs.Trees.{links, named, roots, trees, nodes_of}
use Rattle.table.specs.Refusal.{
  bad_length,
  bad_head,
  beyond,
  broken,
  bad_chain,
  occupied,
  bad_free,
  stray,
  bad_links,
  bad_tree,
  short_placements,
  fault,
  refusal,
}
use Rattle.table.specs.Writing.{with_word}
use Rattle.table.proofs.Lists.{T_false, member_cons, member_append, any_same}
use Rattle.table.proofs.Chain.{follow_same, trees_alike}
use Rattle.table.proofs.Causes.{cond_same, chain_positive, sound_distinct, sound_within, sound_links, at_roots, roots_alike, rooted_alike}
use Rattle.table.proofs.Accepted.{fault_none, parented}
use Rattle.table.proofs.Written.{length_written, word_written, word_kept}
use Rattle.layout.specs.Layout.{mirror}
use Rattle.layout.specs.Spine.{opposite}
use Rattle.layout.proofs.Rows.{member_mirror}
use Rattle.mirror.specs.Exchanged.{exchange_links, exchanged}
use Rattle.mirror.proofs.Each.{each_kept, each_length, each_once}

-- One record's links exchanged.
module _ (k : ℕ) (t : List ℕ) where
  step_length : length (exchange_links k t) ≡ length t
  unfolding exchange_links
  step_length = length_written k 2 (left_of t k) (with_word k 1 (right_of t k) t) ∙ length_written k 1 (right_of t k) t

  step_kept : (m i : ℕ) → i < 4 → ((m ≡ k) × (i ≡ 1) → ⊥) → ((m ≡ k) × (i ≡ 2) → ⊥) → word (exchange_links k t) m i ≡ word t m i
  unfolding exchange_links
  step_kept m i h a b = word_kept k 2 (left_of t k) (with_word k 1 (right_of t k) t) m i h (omega arith) b ∙
      word_kept k 1 (right_of t k) t m i h (omega arith) a

  step_other : (m : ℕ) (s : Side) → (k ≡ m → ⊥) → link_of (exchange_links k t) s m ≡ link_of t s m
  step_other m left d = step_kept m 1 (omega arith) (λ e. omega arith) (λ e. omega arith)
  step_other m right d = step_kept m 2 (omega arith) (λ e. omega arith) (λ e. omega arith)

  step_link : k < records t → (s : Side) → link_of (exchange_links k t) s k ≡ link_of t (opposite s) k
  unfolding exchange_links opposite
  step_link h left =
      word_kept k 2 (left_of t k) (with_word k 1 (right_of t k) t) k 1 (omega arith) (omega arith) (λ e. omega arith) ∙
      word_written k 1 (right_of t k) t (omega arith)
  step_link h right = word_written k 2 (left_of t k) (with_word k 1 (right_of t k) t) (omega (arith, length_written k 1 (right_of t k) t))

-- What is named as a child where left and right are exchanged.
named_same : (t u : List ℕ) (x : ℕ) (ks : List ℕ) → ((k : ℕ) (s : Side) → T (member k ks) → link_of u s k ≡ link_of t (opposite s) k) →
    count x (links u ks) ≡ count x (links t ks)
unfolding links count opposite
named_same t u x [] e = refl
named_same t u x (n ∷ ns) e =
    let m = (member_cons n n ns).1 (inl refl) in
    rw (e n left m, e n right m) (omega (arith, named_same t u x ns (λ k s m. e k s ((member_cons k n ns).1 (inr m)))))

-- The records of mirror images are those of the trees.
pub member_mirrored : (k : ℕ) (ts : List Tree) → member k (nodes_of (map mirror ts)) ≡ member k (nodes_of ts)
unfolding nodes_of
member_mirrored k [] = refl
member_mirrored k (a ∷ ts) =
    member_append k (nodes (mirror a)) (nodes_of (map mirror ts)) ∙ ap₂ ◌||◌ (member_mirror k a) (member_mirrored k ts) ∙
    sym (member_append k (nodes a) (nodes_of ts))

module _ (t : List ℕ) where
  pub exchanged_length : length (exchanged t) ≡ length t
  unfolding exchanged
  exchanged_length = each_length exchange_links step_length (chain t) t

  pub exchanged_head : (j : ℕ) → j < 4 → word (exchanged t) 0 j ≡ word t 0 j
  unfolding exchanged
  exchanged_head j h =
      each_kept exchange_links (λ u. word u 0 j) (chain t) t (λ k m u. let p = chain_positive t k m in
      step_kept k u 0 j h (λ e. omega arith) (λ e. omega arith))

  pub exchanged_next : (k : ℕ) → next_of (exchanged t) k ≡ next_of t k
  unfolding exchanged
  exchanged_next k = each_kept exchange_links (λ u. next_of u k) (chain t) t (λ n m u. step_kept n u k 0 (omega arith) (λ e. omega arith) (λ e. omega arith))

  pub exchanged_chain : chain (exchanged t) ≡ chain t
  unfolding chain
  exchanged_chain = rw (exchanged_length, exchanged_next 0) (follow_same t (exchanged t) (records t) (next_of t 0) (λ k m. exchanged_next k))

  pub exchanged_link : bad_chain t ≡ false → (k : ℕ) (s : Side) → Chained t k → link_of (exchanged t) s k ≡ link_of t (opposite s) k
  unfolding exchanged
  exchanged_link ok k s c =
      each_once exchange_links step_length (λ u. link_of u s k) (λ u. link_of u (opposite s) k) k (length t)
      (λ m d u. (step_other m u k s d, step_other m u k (opposite s) d))
      (λ u e. step_link k u (rw e (sound_within t ok k c).1) s) (chain t) t (sound_distinct t ok) c refl

  -- Without 3 and 4, the trees at chained records.
  descend_mirror : bad_chain t ≡ false → bad_links t ≡ false → (n k : ℕ) → (k ≡ 0) ⊎ Chained t k → descend n (exchanged t) k ≡ mirror (descend n t k)
  unfolding descend mirror opposite
  descend_mirror ok e zero k c = refl
  descend_mirror ok e (suc n) zero c = refl
  descend_mirror ok e (suc n) (suc k) (inl z) = absurd (omega arith)
  descend_mirror ok e (suc n) (suc k) (inr c) =
      rw (exchanged_link ok (suc k) left c, exchanged_link ok (suc k) right c)
      (ap₂ (node (suc k)) (descend_mirror ok e n (right_of t (suc k)) (sound_links t e (suc k) right c))
      (descend_mirror ok e n (left_of t (suc k)) (sound_links t e (suc k) left c)))

  at_mirror : bad_chain t ≡ false → bad_links t ≡ false → (k : ℕ) → (k ≡ 0) ⊎ Chained t k → tree_at (exchanged t) k ≡ mirror (tree_at t k)
  at_mirror ok e k c = rw exchanged_length (descend_mirror ok e (records t) k c)

  root_same : root_of (exchanged t) ≡ root_of t
  root_same = exchanged_head 1 (omega arith)

  pub exchanged_free : free (exchanged t) ≡ free t
  unfolding free
  exchanged_free = rw (exchanged_length, exchanged_head 2 (omega arith)) (follow_same t (exchanged t) (records t) (first_free t) (λ k m. exchanged_next k))

  -- Off the chain all words are kept.
  exchanged_other : (k j : ℕ) → (Chained t k → ⊥) → j < 4 → word (exchanged t) k j ≡ word t k j
  unfolding exchanged
  exchanged_other k j off h =
      each_kept exchange_links (λ u. word u k j) (chain t) t (λ n m u. step_kept n u k j h (λ e. off (rw e.0 m)) (λ e. off (rw e.0 m)))

  -- The causes 3, 8, 4 and 5, each of the last two without those before.
  broken_same : (ks : List ℕ) → broken (exchanged t) ks ≡ broken t ks
  unfolding broken beyond
  broken_same ks = rw (any_same (beyond (exchanged t)) (beyond t) ks (λ k m. rw exchanged_length))

  chain_bad : bad_chain (exchanged t) ≡ bad_chain t
  chain_bad = rw exchanged_chain (broken_same (chain t))

  free_bad : bad_free (exchanged t) ≡ bad_free t
  unfolding bad_free occupied
  free_bad =
      rw (exchanged_free, exchanged_chain, broken_same (free t))
      (ap (λ (b : Bool). broken t (free t) || b) (any_same _ _ (free t) (λ k m. go k (member k (chain t)) refl)))
    where
      go : (k : ℕ) (b : Bool) → member k (chain t) ≡ b → b || occupied (exchanged t) k ≡ b || occupied t k
      go k true e = refl
      go k false e =
          let off = (T_false (member k (chain t))).1 e in
          rw (exchanged_other k 1 off (omega arith), exchanged_other k 2 off (omega arith), exchanged_other k 3 off (omega arith))

  links_bad : bad_chain t ≡ false → bad_links (exchanged t) ≡ bad_links t
  unfolding bad_links stray beyond opposite
  links_bad ok =
      rw (exchanged_chain, exchanged_length)
      (any_same _ _ (chain t) (λ k m. rw (exchanged_link ok k left m, exchanged_link ok k right m) (or_comm (stray t (right_of t k)) (stray t (left_of t k)))))

  -- The roots, and without 4 the trees, mirrored, if the head's root is chained or there is none.
  names : bad_chain t ≡ false → (k : ℕ) → named (exchanged t) k ≡ named t k
  names ok k = rw exchanged_chain (named_same t (exchanged t) k (chain t) (exchanged_link ok))

  roots_same : bad_chain t ≡ false → roots (exchanged t) ≡ roots t
  roots_same ok = roots_alike t (exchanged t) root_same exchanged_chain (names ok)

  trees_mirror : bad_chain t ≡ false → bad_links t ≡ false → (root_of t ≡ 0) ⊎ Chained t (root_of t) → trees (exchanged t) ≡ map mirror (trees t)
  trees_mirror ok e c =
      ap (map (tree_at (exchanged t))) (roots_same ok)
      ∙ trees_alike (tree_at (exchanged t)) (λ k. mirror (tree_at t k)) (roots t)
      (at_roots t (λ k. tree_at (exchanged t) k ≡ mirror (tree_at t k)) (at_mirror ok e (root_of t) c) (λ k h. at_mirror ok e k (inr h)))
      ∙ sym (map-map mirror (tree_at t) (roots t))

  tree_bad : bad_chain t ≡ false → bad_links t ≡ false → bad_tree (exchanged t) ≡ bad_tree t
  tree_bad ok e =
      rooted_alike t (exchanged t) root_same exchanged_chain (names ok) (exchanged_next 0)
      (λ c k. ap (λ (ts : List Tree). member k (nodes_of ts)) (trees_mirror ok e (inr c)) ∙ member_mirrored k (trees t))

  pub exchanged_fault : fault (exchanged t) ≡ fault t
  unfolding fault bad_length bad_head
  exchanged_fault =
      rw (
        exchanged_length,
        exchanged_head 3 (omega arith),
        chain_bad,
        free_bad,
        cond_same (bad_chain t) 3
            (λ ok. cond_same (bad_free t) 8
            (λ f. ap (λ b. cond b 4 (cond (bad_tree (exchanged t)) 5 0)) (links_bad ok) ∙
            cond_same (bad_links t) 4 (λ e. ap (λ b. cond b 5 0) (tree_bad ok e)))),
      )

  pub exchanged_refusal : (places : ℕ) → refusal (exchanged t) places ≡ refusal t places
  unfolding refusal short_placements
  exchanged_refusal places = rw (exchanged_fault, exchanged_length)

  pub exchanged_tree_at : fault t ≡ 0 → (k : ℕ) → (k ≡ 0) ⊎ Chained t k → tree_at (exchanged t) k ≡ mirror (tree_at t k)
  exchanged_tree_at ok = at_mirror (fault_none t ok).sound (fault_none t ok).linked

  pub exchanged_roots : fault t ≡ 0 → roots (exchanged t) ≡ roots t
  exchanged_roots ok = roots_same (fault_none t ok).sound

  pub exchanged_trees : fault t ≡ 0 → trees (exchanged t) ≡ map mirror (trees t)
  exchanged_trees ok = trees_mirror (fault_none t ok).sound (fault_none t ok).linked (parented t ok).root
