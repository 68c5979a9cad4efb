-- A leaf taken off (Graft): the table without it is accepted. Rests on Lists, Causes, Accepted and Accepting (`table`), Graft, PruneChain and PruneLinks.
use mathlib.Core.Path.{◌≡◌, refl, sym, ap, ◌∙◌}
use mathlib.Core.Logic.{◌≢◌, ◌⊎◌, inl, inr, ⊎_elim, ⊎_map}
use mathlib.Core.Bool.{false}
use mathlib.Core.List.{List}
use Prim.Native.Nat.{ℕ, ◌≤◌, ◌<◌}
use native.Mathlib.Omega.{arith}
use lib.Dec.{eqb, eqb→eq}
use Rattle.table.specs.Lists.{member, repeats, count}
use Rattle.table.specs.Table.{Side, word, left_of, right_of, tag_of, link_of, root_of, chain, Chained, free, Free, Empty}
use Rattle.table.specs.Trees.{links, named}
use Rattle.table.specs.Refusal.{bad_length, bad_head, fault}
use Rattle.table.proofs.Lists.{T_false, passes, or_false, member_cons, Distinct, repeats_count}
use Rattle.table.proofs.Causes.{root_cases}
use Rattle.table.proofs.Accepted.{empty_none, fault_none, chain_within, chain_distinct, free_within, free_distinct, free_zero, links_chained, parented, down}
use Rattle.table.proofs.Accepting.{Sound, Reaching, sound_accepted}
use Rattle.changes.proofs.Graft.{Graft, as_many, slot_bounds}
use Rattle.changes.proofs.PruneChain.{Prunable, pruned_free}
use Rattle.changes.proofs.PruneLinks.{chain_count, still, leaf_off, other, off, link_paired, childless, top_cases, named_same}

module _ {t u : List ℕ} {c p j f : ℕ} (g : Graft t u c p j f) (h : Prunable u c p f) where
  -- The free records: the leaf, and those of u.
  vacant_same : (k i : ℕ) → Free u k → 0 < i → i < 4 → word t k i ≡ word u k i
  vacant_same k i m z b = sym (g.same k i b (λ e. off_chain f h.leaf e) (λ e. omega (arith, e.0, free_within u h.accepted k m))
      (λ e. omega (arith, e.1)) (λ e. parent e.0))
    where
      off_chain : (n : ℕ) → Chained u n → k ≡ n → ⊥
      off_chain n a e = (free_zero u h.accepted k m).0 (rw e a)

      parent : k ≡ p → ⊥
      parent e = ⊎_elim (λ (d : (p ≡ 0) × (root_of u ≡ f)). omega (arith, d.0, free_within u h.accepted k m)) (λ (a : Chained u p). off_chain p a e)
          h.holder

  free_cases : (k : ℕ) → Free t k → (k ≡ f) ⊎ Free u k
  free_cases k m = (member_cons k f (free u)).0 (rw (pruned_free g h) at m)

  vacancy : (k : ℕ) → (k ≡ f) ⊎ Free u k → (Chained t k → ⊥) × (left_of t k ≡ 0) × (right_of t k ≡ 0) × (tag_of t k ≡ 0)
  vacancy k (inl e) = rw e (leaf_off g h, g.blank.0, g.blank.1, g.blank.2)
  vacancy k (inr m) =
      let z = free_zero u h.accepted k m in (
        λ a. z.0 (still g h k a),
        vacant_same k 1 m (omega arith) (omega arith) ∙ z.1,
        vacant_same k 2 m (omega arith) (omega arith) ∙ z.2,
        vacant_same k 3 m (omega arith) (omega arith) ∙ z.3,
      )

  -- The length, and the head's tag.
  whole_same : bad_length t ≡ false
  unfolding bad_length
  whole_same = rw g.long at (fault_none u h.accepted).whole

  head_tag : tag_of t 0 ≡ 0
  unfolding bad_head
  head_tag =
      let e = g.same 0 3 (omega arith) (λ e. omega (arith, g.some)) (λ e. omega (arith, e.1)) (λ e. omega (arith, e.1))
      (λ e. omega (arith, e.1, slot_bounds g)) in
      sym e ∙ eqb→eq (tag_of u 0) 0 (passes (eqb (tag_of u 0) 0) (fault_none u h.accepted).tagless)

  -- The links of chained records, and how often they name one.
  links_kept : (k : ℕ) (s : Side) → Chained t k → (link_of t s k ≡ 0) ⊎ Chained t (link_of t s k)
  links_kept k s m = ⊎_elim (λ (e : (link_of u s k ≡ f) × (link_of t s k ≡ 0)). inl e.1) kept (link_paired g h k s m)
    where
      kept : (link_of t s k ≡ link_of u s k) × (link_of u s k ≢ f) → (link_of t s k ≡ 0) ⊎ Chained t (link_of t s k)
      kept e = ⊎_map (λ (z : link_of u s k ≡ 0). e.0 ∙ z) (λ (n : Chained u (link_of u s k)). rw e.0 (other g h (link_of u s k) n e.1))
          (links_chained u h.accepted k s (still g h k m))

  root_unnamed_still : named t (root_of t) ≡ 0
  root_unnamed_still = ⊎_elim (λ (e : Empty t). unfold links count in rw e.0 refl) some (top_cases g h)
    where
      some : (root_of t ≡ root_of u) × Chained t (root_of t) → named t (root_of t) ≡ 0
      some e =
          let r = named_same g h (root_of t) (omega (arith, chain_within u h.accepted (root_of t) (still g h (root_of t) e.1)))
          (off g h (root_of t) e.1) in
          r ∙ ap (named u) e.0 ∙ (parented u h.accepted).unnamed

  named_once : (k : ℕ) → Chained t k → named t k ≤ 1
  named_once k m = omega (
    arith,
    named_same g h k (chain_within u h.accepted k (still g h k m)).0 (off g h k m),
    (parented u h.accepted).once k (still g h k m),
  )

  -- t is accepted.
  free_once : Distinct (free t)
  unfolding repeats
  free_once = rw (pruned_free g h) ((or_false (member f (free u)) (repeats (free u))).1
      ((T_false (member f (free u))).0 (λ m. (free_zero u h.accepted f m).0 h.leaf), free_distinct u h.accepted))

  pruned_sound : Sound t
  pruned_sound = record {
    whole = whole_same;
    tagless = head_tag;
    distinct = (repeats_count (chain t)).1 (λ k. omega (arith, chain_count g h k, (repeats_count (chain u)).0 (chain_distinct u h.accepted) k));
    within = λ k m. omega (arith, chain_within u h.accepted k (still g h k m), as_many g);
    free_distinct = free_once;
    free_within = λ k m. ⊎_elim (λ (e : k ≡ f). omega (arith, g.inside)) (λ (n : Free u k). omega (arith, free_within u h.accepted k n, as_many g))
        (free_cases k m);
    vacant = λ k m. vacancy k (free_cases k m);
    links = links_kept;
    root = ⊎_map (λ (e : Empty t). e) (λ (e : (root_of t ≡ root_of u) × Chained t (root_of t)). e.1) (top_cases g h);
    unnamed = root_unnamed_still;
    once = named_once;
  }

  pub pruned_reaching : Reaching t
  pruned_reaching P r f' k m = down u h.accepted (λ n. Chained t n → P n)
      (λ n i a b. r n ((root_cases t n).1 (still_root_lem n b ((root_cases u n).0 i))) b) step
      k (still g h k m) m
    where
      still_root_lem : (n : ℕ) → Chained t n → (n ≡ root_of u) ⊎ (Chained u n × (named u n ≡ 0)) → (n ≡ root_of t) ⊎ (Chained t n × (named t n ≡ 0))
      still_root_lem n b (inl e) = ⊎_elim (λ (z : Empty t). absurd (empty_none t z n b))
          (λ (d : (root_of t ≡ root_of u) × Chained t (root_of t)). inl (e ∙ sym d.0)) (top_cases g h)
      still_root_lem n b (inr e) = inr (b, named_same g h n (chain_within u h.accepted n e.0).0 (off g h n b) ∙ e.1)

      step : (n : ℕ) (s : Side) → Chained u n → Chained u (link_of u s n) → (Chained t n → P n) → Chained t (link_of u s n) → P (link_of u s n)
      step n s a b q d =
          let i = other g h n a (λ e. childless g h n s e b) in
          ⊎_elim (λ (e : (link_of u s n ≡ f) × (link_of t s n ≡ 0)). absurd (off g h (link_of u s n) d e.0))
          (λ (e : (link_of t s n ≡ link_of u s n) × (link_of u s n ≢ f)). rw e.0 at (f' n s i (rw e.0 d) (q i))) (link_paired g h n s i)

  pub pruned_accepted : fault t ≡ 0
  pruned_accepted = sound_accepted t pruned_sound pruned_reaching
