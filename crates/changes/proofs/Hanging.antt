-- Hanging: the table with the leaf is a graft of the one without (`hung_graft`), and what the call leaves (`hang_leaf`). Rests on the laws of
-- an accepted table and of words written (`table`), on Places (`hanging`), Graft, GrowChain, GrowSound and GrowTree.
use mathlib.Core.Path.{◌≡◌, refl, sym, ◌∙◌}
use mathlib.Core.Logic.{inl, inr, ⊎_elim}
use mathlib.Core.List.{List, [], ◌∷◌, map}
use Prim.Native.Nat.{ℕ, zero, suc, ◌+◌, ◌*◌, ◌≤◌, ◌<◌}
use native.Mathlib.Omega.{arith}
use lib.ListN.{length}
use Rattle.table.specs.Table.{records, word, next_of, tag_of, Chained, first_free, Free, Empty}
use Rattle.table.specs.Tree.{Tree, none, node}
use Rattle.table.specs.Trees.{trees}
use Rattle.table.specs.Refusal.{fault}
use Rattle.table.specs.Writing.{Write, write}
use Rattle.table.proofs.Accepted.{records_bounds, chain_within, first_free_lem, free_zero}
use Rattle.table.proofs.Written.{length_writes, writes_kept, writes_last}
use Rattle.hanging.specs.Hanging.{slot, hang_refusal, hung}
use Rattle.hanging.proofs.Places.{Place, slot_side, hang_place, hang_within}
use Rattle.changes.specs.Leaf.{with_leaf, with_child, HungLeaf}
use Rattle.changes.proofs.Graft.{Graft}
use Rattle.changes.proofs.GrowChain.{Growth, chained_word, graft_behind, graft_free}
use Rattle.changes.proofs.GrowSound.{grown_accepted}
use Rattle.changes.proofs.GrowTree.{trees_leaf, trees_grown}

-- A child of the head, and of a record.
child_root : (k side f : ℕ) (ts : List Tree) → k ≡ 0 → with_child k side f ts ≡ node f none none ∷ []
unfolding with_child
child_root zero side f ts e = refl
child_root (suc k) side f ts e = absurd (omega arith)

child_leaf : (k side f : ℕ) (ts : List Tree) → 0 < k → with_child k side f ts ≡ map (with_leaf k side f) ts
unfolding with_child
child_leaf zero side f ts z = absurd (omega arith)
child_leaf (suc k) side f ts z = refl

module _ (t : List ℕ) (parent side tag : ℕ) (h : hang_refusal t parent side ≡ 0) where
  abbrev f : ℕ
  f = first_free t

  abbrev j : ℕ
  j = slot parent side

  abbrev u : List ℕ
  u = hung t parent side tag

  accepted_place : (fault t ≡ 0) × Place t parent side × (0 < f)
  accepted_place = hang_place t parent side h

  abbrev ok : fault t ≡ 0
  ok = accepted_place.0

  abbrev at : Place t parent side
  at = accepted_place.1

  slot_small : (1 ≤ j) × (j < 3)
  slot_small = ⊎_elim (λ (e : j ≡ 1). (omega arith, omega arith)) (λ (e : (j ≡ 2) × (parent ≡ 0 → ⊥)). (omega arith, omega arith)) at.slotted

  root_slot : parent ≡ 0 → j ≡ 1
  root_slot z = ⊎_elim (λ (e : j ≡ 1). e) (λ (e : (j ≡ 2) × (parent ≡ 0 → ⊥)). absurd (e.1 z)) at.slotted

  leaf_free : Free t f
  leaf_free = first_free_lem t ok accepted_place.2

  apart : parent ≡ f → ⊥
  apart e = ⊎_elim (λ (z : (parent ≡ 0) × Empty t). omega (arith, z.0, accepted_place.2))
      (λ (m : Chained t parent). (free_zero t ok f leaf_free).0 (rw e at m)) at.above

  -- The bytes of both records are in the table.
  room : (k i : ℕ) → i < 4 → k < records t → 8 * k + 2 * i + 1 < length t
  room k i d e = omega (arith, (records_bounds t ok).2)

  -- The words that are not written.
  unwritten : (m i : ℕ) → i < 4 → ((m ≡ parent) × (i ≡ j) → ⊥) → ((m ≡ f) × (i ≡ 3) → ⊥) → ((m ≡ 0) × (i ≡ 2) → ⊥) → ((m ≡ f) × (i ≡ 0) → ⊥) →
      ((m ≡ parent) × (i ≡ 0) → ⊥) → word u m i ≡ word t m i
  unfolding hung
  unwritten m i z a b c d e = writes_kept m i _ t z (omega (arith, slot_small), a, (omega arith, b, (omega arith, c, (omega arith, d, (omega arith, e, tt)))))

  -- The words that are: each is written once, and no later write is at its place.
  abbrev link : Write
  link = write parent j f

  abbrev tagging : Write
  tagging = write f 3 tag

  abbrev head : Write
  head = write 0 2 (next_of t f)

  abbrev ahead : Write
  ahead = write f 0 (next_of t parent)

  abbrev behind : Write
  behind = write parent 0 f

  hung_link : word u parent j ≡ f
  unfolding hung
  hung_link =
      writes_last [] parent j f (tagging ∷ head ∷ ahead ∷ behind ∷ []) t (omega (arith, slot_small))
      (room parent j (omega (arith, slot_small)) (hang_within t parent side h).1) (
        omega arith,
        λ q. apart q.0,
        (omega arith, λ q. omega (arith, q.1, root_slot q.0), (omega arith, λ q. apart q.0, (omega arith, λ q. omega (arith, q.1, slot_small), tt))),
      )

  hung_tag : tag_of u f ≡ tag
  unfolding hung
  hung_tag =
      writes_last (link ∷ []) f 3 tag (head ∷ ahead ∷ behind ∷ []) t (omega arith) (room f 3 (omega arith) (hang_within t parent side h).2)
      (omega arith, λ q. omega (arith, q.1), (omega arith, λ q. omega (arith, q.1), (omega arith, λ q. omega (arith, q.1), tt)))

  hung_free : first_free u ≡ next_of t f
  unfolding hung
  hung_free =
      writes_last (link ∷ tagging ∷ []) 0 2 (next_of t f) (ahead ∷ behind ∷ []) t (omega arith) (room 0 2 (omega arith) (records_bounds t ok).0)
      (omega arith, λ q. omega (arith, q.1), (omega arith, λ q. omega (arith, q.1), tt))

  hung_ahead : next_of u f ≡ next_of t parent
  unfolding hung
  hung_ahead = writes_last (link ∷ tagging ∷ head ∷ []) f 0 (next_of t parent) (behind ∷ []) t
      (omega arith) (room f 0 (omega arith) (hang_within t parent side h).2) (omega arith, λ q. apart (sym q.0), tt)

  hung_behind : next_of u parent ≡ f
  unfolding hung
  hung_behind = writes_last (link ∷ tagging ∷ head ∷ ahead ∷ []) parent 0 f [] t (omega arith) (room parent 0 (omega arith) (hang_within t parent side h).1) tt

  -- The links of the leaf stay zero.
  hung_childless : (i : ℕ) → 0 < i → i < 3 → word t f i ≡ 0 → word u f i ≡ 0
  hung_childless i z l e =
      unwritten f i (omega arith) (λ q. apart (sym q.0)) (λ q. omega (arith, q.1)) (λ q. omega (arith, q.0, accepted_place.2)) (λ q. omega (arith, q.1))
      (λ q. omega (arith, q.1)) ∙ e

  pub hung_graft : Graft t u parent parent j f
  unfolding hung
  hung_graft = record {
    long = length_writes _ t;
    some = accepted_place.2;
    inside = (hang_within t parent side h).2;
    apart_c = apart;
    slot = at.slotted;
    first = refl;
    gap = sym hung_ahead;
    vacant = at.vacant;
    blank = let v = free_zero t ok f leaf_free in (v.1, v.2, v.3);
    others = hung_free;
    follows = hung_behind;
    names = inl (apart, hung_link);
    childless = let v = free_zero t ok f leaf_free in
        (hung_childless 1 (omega arith) (omega arith) v.1, hung_childless 2 (omega arith) (omega arith) v.2);
    same = λ m i z n a b c. unwritten m i z c (λ e. n e.0) a (λ e. n e.0) b;
  }

  -- What the call leaves.
  pub growth : Growth t u parent parent j f
  growth = record {
    graft = hung_graft;
    accepted = ok;
    before = ⊎_elim (λ (z : (parent ≡ 0) × Empty t). inl z.0) (λ (m : Chained t parent). inr m) at.above;
    above = at.above;
  }

  hung_trees : trees u ≡ with_child parent side f (trees t)
  hung_trees =
      ⊎_elim (λ (z : (parent ≡ 0) × Empty t). trees_leaf growth z.0 z.1 ∙ sym (child_root parent side f (trees t) z.0))
      (λ (m : Chained t parent).
      let z = (chain_within t ok parent m).0 in
      trees_grown growth side (slot_side parent side z) m ∙ sym (child_leaf parent side f (trees t) z)) at.above

  pub hang_leaf : HungLeaf t parent side tag
  hang_leaf = record {
    accepted = grown_accepted growth;
    grown = hung_trees;
    tagged = hung_tag;
    tags = λ k m. chained_word growth k 3 (omega arith) m (λ q. omega (arith, q.1)) (λ q. omega (arith, q.1, slot_small));
    behind = graft_behind growth;
    taken = graft_free growth;
  }
