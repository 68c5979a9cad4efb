-- A whole breadth-first order: children stand after their parents, each node of the order is a node of the trees, and the order is as long as the
-- chain just where all is reached. Rests on Lists, Chain, Causes, Scan and Order.
use mathlib.Core.Path.{◌≡◌, refl, sym, ap, ◌∙◌, subst}
use mathlib.Core.Logic.{◌⊎◌, inl, inr, ⊎_elim, ⊎_map}
use mathlib.Core.Bool.{Bool, true, false, not, false≢true}
use mathlib.Core.List.{List, ◌++◌, append_assoc}
use Prim.Native.Nat.{ℕ, zero, suc, ◌+◌, ◌≤◌, ◌<◌}
use native.Mathlib.Omega.{arith}
use lib.Dec.{T, eqb}
use lib.ListN.{length, get_or, take, drop, length-append, take-append-drop, get_or-append}
use lib.Seq.{take-length, drop-cons, drop-append-le, length-take-le, get_or-take}
use borrow.Author.Tests.{eqb-true, eqb-false}
use Rattle.table.specs.Lists.{member, count}
use Rattle.table.specs.Table.{Side, records, link_of, chain}
use Rattle.table.specs.Trees.{links, roots, trees, nodes_of}
use Rattle.trees.specs.inner.Steps.{Rooted, Queue, Ordered, Filled, present, not_reached}
use Rattle.table.proofs.Lists.{T_true, passes, or_T, any_false, member_append, member_cons, member_count, within, length_within, within_back}
use Rattle.table.proofs.Chain.{links_append, names, namer, reached_from}
use Rattle.table.proofs.Causes.{sound_distinct, sound_within, sound_length, roots_chained, node_of}
use Rattle.chains.proofs.Scan.{member_at, place}
use Rattle.trees.proofs.Order.{present_append, count_present, zero_present, parented}

-- What is named by one of a list is among its children.
child_present : (t ks : List ℕ) (k x : ℕ) (s : Side) → T (member k ks) → link_of t s k ≡ x → 0 < x → T (member x (present (links t ks)))
child_present t ks k zero s m e h = absurd (omega arith)
child_present t ks k (suc x) s m e h =
    (member_count (suc x) (present (links t ks))).1 (omega (arith, count_present x (links t ks), names t (suc x) k s ks m (sym e)))

-- What is among the children of a list is named by one of it.
present_child : (t ks : List ℕ) (x : ℕ) → T (member x (present (links t ks))) → (0 < x) × ((p : ℕ) × (s : Side) × T (member p ks) × (link_of t s p ≡ x))
present_child t ks zero m = absurd (omega (arith, zero_present (links t ks), (member_count 0 (present (links t ks))).0 m))
present_child t ks (suc x) m = (
  omega arith,
  namer t (suc x) ks (omega (
    arith,
    count_present x (links t ks),
    (member_count (suc x) (present (links t ks))).0 m,
  )),
)

module _ (t o : List ℕ) (q : Queue t (length o) o) where
  -- At each place the order is the roots, the children of the nodes before it, and those of the others.
  split : (i : ℕ) → o ≡ (roots t ++ present (links t (take i o))) ++ present (links t (drop i o))
  split i =
      q.listed ∙
      ap (λ (l : List ℕ). roots t ++ l)
      (ap (λ (l : List ℕ). present (links t l)) (take-length o ∙ sym (take-append-drop i o)) ∙
      ap present (links_append t (take i o) (drop i o)) ∙
      present_append (links t (take i o)) (links t (drop i o))) ∙
      sym (append_assoc (roots t) (present (links t (take i o))) (present (links t (drop i o))))

  -- There are more roots and children of the nodes before it than places.
  soon : (i : ℕ) → i < length o → i < length (roots t ++ present (links t (take i o)))
  soon i h = omega (arith, q.early i h, length-append (roots t) (present (links t (take i o))))

  pub later : (i : ℕ) (s : Side) → i < length o → 0 < link_of t s (get_or o i 0) → T (member (link_of t s (get_or o i 0)) (drop (suc i) o))
  later i s h some =
      let A = roots t ++ present (links t (take i o)) in
      subst (λ (l : List ℕ). T (member (link_of t s (get_or o i 0)) l))
      (sym (ap (drop (suc i)) (split i) ∙ drop-append-le (suc i) A (present (links t (drop i o))) (soon i h)))
      (rw member_append
      ((or_T (member (link_of t s (get_or o i 0)) (drop (suc i) A)) (member (link_of t s (get_or o i 0)) (present (links t (drop i o))))).1
      (inr (child_present t (drop i o) (get_or o i 0) (link_of t s (get_or o i 0)) s
      (rw (drop-cons o i 0 h) ((member_cons (get_or o i 0) (get_or o i 0) (drop (suc i) o)).1 (inl refl))) refl some))))

  -- A node is a root, or a child of one before it.
  earlier : (i : ℕ) → i < length o →
      T (member (get_or o i 0) (roots t)) ⊎ ((j : ℕ) × (s : Side) × (j < i) × (0 < link_of t s (get_or o j 0)) × (link_of t s (get_or o j 0) ≡ get_or o i 0))
  earlier i h =
      let C = present (links t (take i o)) in
      let e : get_or o i 0 ≡ get_or (roots t ++ C) i 0 = ap (λ (l : List ℕ). get_or l i 0) (split i) ∙
      get_or-append (roots t ++ C) (present (links t (drop i o))) 0 i (soon i h) in
      let m : T (member (get_or o i 0) (roots t ++ C)) = rw e (member_at (roots t ++ C) i (soon i h)) in
      ⊎_map (λ (a : T (member (get_or o i 0) (roots t))). a) child ((or_T (member (get_or o i 0) (roots t)) (member (get_or o i 0) C)).0
      (rw member_append at m))
    where
      child : T (member (get_or o i 0) (present (links t (take i o)))) →
          (j : ℕ) × (s : Side) × (j < i) × (0 < link_of t s (get_or o j 0)) × (link_of t s (get_or o j 0) ≡ get_or o i 0)
      child m =
          let c = present_child t (take i o) (get_or o i 0) m in
          let p = c.1 in
          let j = place p.0 (take i o) p.2 in
          let l : j.0 < i = omega (arith, j.1, length-take-le i o (omega arith)) in
          let d : link_of t p.1 (get_or o j.0 0) ≡ get_or o i 0 = ap (link_of t p.1) (sym (get_or-take i o j.0 0 l) ∙ j.2) ∙ p.3 in
          (j.0, p.1, l, omega (arith, c.0), d)

module _ (t : List ℕ) (r : Rooted t) (o : List ℕ) (q : Queue t (length o) o) where
  in_trees : (x : ℕ) → 0 < x → 1 ≤ count x (roots t) + count x (links t (nodes_of (trees t))) → T (member x (nodes_of (trees t)))
  in_trees = node_of t (parented t r) (sound_length t r.shaped.whole r.sound)

  -- Each node of the order is one of the trees, if those before it are.
  level : (n i : ℕ) → i < n → i < length o → T (member (get_or o i 0) (nodes_of (trees t)))
  level zero i l h = absurd (omega arith)
  level (suc n) i l h =
      ⊎_elim (λ (m : T (member (get_or o i 0) (roots t))). in_trees (get_or o i 0)
      (sound_within t r.sound (get_or o i 0) (roots_chained t r.root (get_or o i 0) m)).0 (omega (arith, (member_count (get_or o i 0) (roots t)).0 m)))
      (λ e. rw (← e.4)
      (in_trees (link_of t e.1 (get_or o e.0 0)) e.3
      (omega (
        arith,
        names t (link_of t e.1 (get_or o e.0 0)) (get_or o e.0 0) e.1 (nodes_of (trees t))
            (level n e.0 (omega (arith, e.2)) (omega (arith, e.2))) refl,
      ))))
      (earlier t o q i h)

  pub all_reached : length o ≡ length (chain t) → not_reached t ≡ false
  unfolding not_reached
  all_reached e = (any_false (λ k. not (member k (nodes_of (trees t)))) (chain t)).1 (λ k m. rw ((T_true (member k (nodes_of (trees t)))).0 (go k m)))
    where
      go : (k : ℕ) → T (member k (chain t)) → T (member k (nodes_of (trees t)))
      go k m =
          let p = place k o ((member_count k o).1 (omega (arith, (member_count k (chain t)).0 m, within_back o (chain t) q.within (omega arith) k))) in
          rw p.2 at (level (suc p.0) p.0 (omega arith) p.1)

  pub reached_all : not_reached t ≡ false → length o ≡ length (chain t)
  unfolding not_reached
  reached_all e = omega (arith, length_within o (chain t) q.within, length_within (chain t) o (within (chain t) o (sound_distinct t r.sound) go))
    where
      first : (k : ℕ) → T (member k (roots t)) → T (member k o)
      first k m = subst (λ (l : List ℕ). T (member k l)) (sym q.listed)
          (rw member_append ((or_T (member k (roots t)) (member k (present (links t (take (length o) o))))).1 (inl m)))

      next : (k : ℕ) (s : Side) → 0 < k → (0 < k → T (member k o)) → 0 < link_of t s k → T (member (link_of t s k) o)
      next k s z p some =
          subst (λ (l : List ℕ). T (member (link_of t s k) l)) (sym q.listed)
          (rw member_append ((or_T (member (link_of t s k) (roots t)) (member (link_of t s k) (present (links t (take (length o) o))))).1
          (inr (rw take-length (child_present t o k (link_of t s k) s (p z) refl some)))))

      go : (k : ℕ) → T (member k (chain t)) → T (member k o)
      go k m =
          reached_from (λ n. 0 < n → T (member n o)) t next (records t) (roots t) (λ k m z. first k m) k
          (passes (member k (nodes_of (trees t))) ((any_false (λ n. not (member n (nodes_of (trees t)))) (chain t)).0 e k m)) (sound_within t r.sound k m).0

-- The first m numbers of an array are a whole order.
module _ (t order : List ℕ) (m n : ℕ) (r : Rooted t) (long : length order ≡ 4097) (q : (m ≤ 4097) × Queue t m (take m order)) (nodes : n ≡ length (chain t))
  where
    size_order : length (take m order) ≡ m
    size_order = length-take-le m order (omega (arith, q.0))

    whole : Queue t (length (take m order)) (take m order)
    whole = subst (λ (k : ℕ). Queue t k (take m order)) (sym size_order) q.1

    missed : (m ≡ n → ⊥) → false ≡ not (not_reached t)
    missed d = go (not_reached t) refl
      where
        go : (b : Bool) → not_reached t ≡ b → false ≡ not b
        go true e = refl
        go false e = absurd (d (omega (arith, size_order, reached_all t r (take m order) whole e)))

    none_missed : m ≡ n → not_reached t ≡ false
    none_missed e = all_reached t r (take m order) whole (omega (arith, size_order))

    pub ordered : (eqb m n ≡ not (not_reached t)) × (eqb m n ≡ true → Ordered t n order)
    ordered = go (eqb m n) refl
      where
        go : (b : Bool) → eqb m n ≡ b → (b ≡ not (not_reached t)) × (b ≡ true → Ordered t n order)
        go true d =
            let e = eqb-true m n d in
            (ap not (sym (none_missed e)), λ y. record { enough = omega (arith, q.0); queued = λ some. subst (λ (k : ℕ). Queue t k (take k order)) e q.1 })
        go false d = (missed (eqb-false m n d), λ y. absurd (false≢true y))

-- What is filled for a whole order is filled for the chain.
pub filled_chain : (t order sizes : List ℕ) → Queue t (length order) order → length order ≡ length (chain t) → Filled t order sizes → Filled t (chain t) sizes
filled_chain t order sizes q nodes f = record {
  long = f.long;
  sized = λ k h. f.sized k ((member_count k order).1 (omega (
    arith,
    (member_count k (chain t)).0 h,
    within_back order (chain t) q.within (omega arith) k,
  )));
  none = f.none;
}
