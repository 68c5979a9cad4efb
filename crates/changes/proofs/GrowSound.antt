-- A table with a leaf more (`Growth`) is accepted, and has the same roots, or the leaf alone. Rests on Lists, Causes, Accepted and Accepting (`table`),
-- Inserted, Graft, GrowChain and GrowLinks.
use mathlib.Core.Path.{◌≡◌, refl, sym, ap, ap₂, ◌∙◌, subst}
use mathlib.Core.Logic.{◌⊎◌, inl, inr, ⊎_elim, ⊎_map}
use mathlib.Core.Bool.{false}
use mathlib.Core.List.{List, [], ◌∷◌}
use Prim.Native.Nat.{ℕ, ◌+◌, ◌≤◌, ◌<◌}
use native.Mathlib.Omega.{arith}
use lib.Dec.{eqb, eqb→eq}
use Rattle.table.specs.Lists.{member, count, select}
use Rattle.table.specs.Table.{Side, records, tag_of, left_of, right_of, link_of, root_of, chain, Chained, free, Free, Empty}
use Rattle.table.specs.Trees.{named, starts_tree, roots}
use Rattle.table.specs.Refusal.{bad_length, bad_head, fault}
use Rattle.table.proofs.Lists.{T_false, passes, member_cons, distinct_cons, same, Alike, alike, select_same, member_none, Distinct, repeats_count}
use Rattle.table.proofs.Causes.{starts_not, root_first}
use Rattle.table.proofs.Accepted.{empty_none, fault_none, chain_within, chain_distinct, free_within, free_distinct, free_zero, links_chained, root, parented}
use Rattle.table.proofs.Accepted.{down}
use Rattle.table.proofs.Accepting.{Sound, Reaching, sound_accepted}
use Rattle.changes.proofs.Inserted.{behind_count, behind_select}
use Rattle.changes.proofs.Graft.{as_many, slot_bounds, leaf_links}
use Rattle.changes.proofs.GrowChain.{Growth, off_chain, leaf_word, free_word, graft_behind, graft_chained, graft_free}
use Rattle.changes.proofs.GrowLinks.{leaf_side, link_leaf, link_cases, named_kept, leaf_named, leaf_root}

module _ {t u : List ℕ} {c p j f : ℕ} (a : Growth t u c p j f) where
  abbrev ok : fault t ≡ 0
  ok = a.accepted

  -- Chained in u: the leaf, and what is chained in t.
  pub leaf_chained : Chained u f
  leaf_chained = (graft_chained a f).1 (inl refl)

  pub still_chained : (x : ℕ) → Chained t x → Chained u x
  still_chained x m = (graft_chained a x).1 (inr m)

  -- The head: its root is as it was, or the leaf.
  pub root_leaf : p ≡ 0 → root_of u ≡ f
  root_leaf e = ⊎_elim (λ (d : j ≡ 1). rw (e, d) at (leaf_word a)) (λ (d : (j ≡ 2) × (p ≡ 0 → ⊥)). absurd (d.1 e)) a.graft.slot

  pub root_kept : Chained t p → root_of u ≡ root_of t
  root_kept h = a.graft.same 0 1 (omega arith) (λ e. omega (arith, a.graft.some)) (λ e. omega (arith, e.1)) (λ e. omega (arith, e.1))
      (λ e. omega (arith, e.0, chain_within t ok p h))

  pub top_chained : Chained t p → Chained t (root_of t)
  top_chained h = ⊎_elim (λ (e : Empty t). absurd (empty_none t e p h)) (λ (m : Chained t (root_of t)). m) (root t ok)

  -- Where a record is chained in t, so is the parent.
  parent_chained : (x : ℕ) → Chained t x → Chained t p
  parent_chained x m = ⊎_elim (λ (z : (p ≡ 0) × Empty t). absurd (empty_none t z.1 x m)) (λ (h : Chained t p). h) a.above

  -- The chain and the free records.
  grown_distinct : Distinct (chain u)
  grown_distinct = (repeats_count (chain u)).1 (λ x. go x (alike x f) (behind_count c f 0 (chain t) (chain u) (graft_behind a) x))
    where
      off : count f (chain t) ≡ 0
      off = (member_none f (chain t)).0 ((T_false (member f (chain t))).0 (off_chain a))

      go : (x : ℕ) → Alike x f → count x (chain u) ≡ same x f + count x (chain t) → count x (chain u) ≤ 1
      go x (inl e) n = omega (arith, ap (λ (k : ℕ). count k (chain t)) e.0, off)
      go x (inr e) n = omega (arith, (repeats_count (chain t)).0 (chain_distinct t ok) x)

  grown_within : (x : ℕ) → Chained u x → x < records u
  grown_within x m =
      ⊎_elim (λ (e : x ≡ f). omega (arith, as_many a.graft, a.graft.inside))
      (λ (h : Chained t x). omega (arith, as_many a.graft, chain_within t ok x h)) ((graft_chained a x).0 m)

  left_over : (x : ℕ) → Free u x → Free t x
  left_over x m = rw (graft_free a) ((member_cons x f (free u)).1 (inr m))

  free_apart : (Free u f → ⊥) × Distinct (free u)
  free_apart = distinct_cons f (free u) (rw (graft_free a) at (free_distinct t ok))

  grown_vacant : (x : ℕ) → Free u x → (Chained u x → ⊥) × (left_of u x ≡ 0) × (right_of u x ≡ 0) × (tag_of u x ≡ 0)
  grown_vacant x m =
      let n : x ≡ f → ⊥ = λ e. free_apart.0 (rw e at m) in
      let v = free_zero t ok x (left_over x m) in
      let w : (i : ℕ) → i < 4 → _ = λ i h. free_word a x i h (left_over x m) n in
      (λ h. ⊎_elim n v.0 ((graft_chained a x).0 h), w 1 (omega arith) ∙ v.1, w 2 (omega arith) ∙ v.2, w 3 (omega arith) ∙ v.3)

  -- The links.
  grown_links : (k : ℕ) (s : Side) → Chained u k → (link_of u s k ≡ 0) ⊎ Chained u (link_of u s k)
  grown_links k s m = ⊎_elim (λ (e : k ≡ f). inl (rw e (leaf_links a.graft s))) old ((graft_chained a k).0 m)
    where
      old : Chained t k → (link_of u s k ≡ 0) ⊎ Chained u (link_of u s k)
      old h =
          ⊎_elim
          (λ (e : link_of u s k ≡ link_of t s k). rw e (⊎_map (λ (z : link_of t s k ≡ 0). z) (still_chained (link_of t s k)) (links_chained t ok k s h)))
          (λ (e : (link_of u s k ≡ f) × (link_of t s k ≡ 0)). inr (rw e.0 leaf_chained)) (link_cases a k s h)

  -- The head's root, and what is named.
  grown_root : Chained u (root_of u)
  grown_root = ⊎_elim (λ (e : (p ≡ 0) × Empty t). rw (root_leaf e.0) leaf_chained)
      (λ (h : Chained t p). rw (root_kept h) (still_chained (root_of t) (top_chained h))) a.above

  kept : (x : ℕ) → Chained t x → named u x ≡ named t x
  kept x m = named_kept a x (chain_within t ok x m).0 (λ e. off_chain a (rw e at m))

  grown_unnamed : named u (root_of u) ≡ 0
  grown_unnamed =
      ⊎_elim (λ (e : (p ≡ 0) × Empty t). rw (root_leaf e.0) (leaf_root a e.1))
      (λ (h : Chained t p). rw (root_kept h) (kept (root_of t) (top_chained h) ∙ (parented t ok).unnamed)) a.above

  grown_once : (k : ℕ) → Chained u k → named u k ≤ 1
  grown_once k m = ⊎_elim new (λ (n : Chained t k). omega (arith, kept k n, (parented t ok).once k n)) ((graft_chained a k).0 m)
    where
      new : k ≡ f → named u k ≤ 1
      new e = ⊎_elim (λ (z : (p ≡ 0) × Empty t). rw e (omega (arith, leaf_root a z.1))) (λ (h : Chained t p). rw e (omega (arith, leaf_named a h)))
          a.above

  -- The roots: the leaf starts no other tree, and the other records start one as in t.
  leaf_starts : starts_tree u f ≡ false
  leaf_starts = starts_not u f (⊎_map (λ (e : (p ≡ 0) × Empty t). sym (root_leaf e.0)) (λ (h : Chained t p). omega (arith, leaf_named a h)) a.above)

  others_kept : select (starts_tree u) (chain u) ≡ select (starts_tree t) (chain t)
  unfolding starts_tree
  others_kept = behind_select c f 0 (chain t) (chain u) (graft_behind a) (starts_tree u) leaf_starts ∙
      select_same (starts_tree u) (starts_tree t) (chain t) (λ k m. rw (root_kept (parent_chained k m), kept k m))

  pub roots_leaf : p ≡ 0 → Empty t → roots u ≡ f ∷ []
  unfolding select
  roots_leaf e z = ap₂ (λ (k : ℕ) (ks : List ℕ). k ∷ ks) (root_leaf e) (others_kept ∙ ap (select (starts_tree t)) z.0)

  pub roots_kept : Chained t p → roots u ≡ roots t
  roots_kept h = ap₂ (λ (k : ℕ) (ks : List ℕ). k ∷ ks) (root_kept h) others_kept

  grown_tagless : tag_of u 0 ≡ 0
  unfolding bad_head
  grown_tagless =
      a.graft.same 0 3 (omega arith) (λ e. omega (arith, a.graft.some)) (λ e. omega (arith, e.1)) (λ e. omega (arith, e.1))
      (λ e. omega (arith, e.1, slot_bounds a.graft)) ∙
      eqb→eq (tag_of t 0) 0 (passes (eqb (tag_of t 0) 0) (fault_none t ok).tagless)

  grown_sound : Sound u
  unfolding bad_length
  grown_sound = record {
    whole = rw a.graft.long (fault_none t ok).whole;
    tagless = grown_tagless;
    distinct = grown_distinct;
    within = grown_within;
    free_distinct = free_apart.1;
    free_within = λ k m. omega (arith, as_many a.graft, free_within t ok k (left_over k m));
    vacant = grown_vacant;
    links = grown_links;
    root = inr grown_root;
    unnamed = grown_unnamed;
    once = grown_once;
  }

  -- Each record is reached as in t, and the leaf by one step more.
  pub grown_reaching : Reaching u
  grown_reaching P top step k m = ⊎_elim new (λ (n : Chained t k). old (parent_chained k n) k n) ((graft_chained a k).0 m)
    where
      old : Chained t p → (x : ℕ) → Chained t x → P x
      old h = down t ok P (λ r i n. top r (rw (roots_kept h) i) (still_chained r n)) below
        where
          below : (k : ℕ) (s : Side) → Chained t k → Chained t (link_of t s k) → P k → P (link_of t s k)
          below k s n i q =
              ⊎_elim (λ (e : link_of u s k ≡ link_of t s k). subst P e (step k s (still_chained k n) (rw e (still_chained (link_of t s k) i)) q))
              (λ (e : (link_of u s k ≡ f) × (link_of t s k ≡ 0)). absurd (omega (arith, e.1, chain_within t ok (link_of t s k) i))) (link_cases a k s n)

      new : k ≡ f → P k
      new e = ⊎_elim (λ (z : (p ≡ 0) × Empty t). subst P (root_leaf z.0 ∙ sym e) (top (root_of u) (root_first u) grown_root)) under a.above
        where
          under : Chained t p → P k
          under h =
              let s : Side = (leaf_side a).0 in
              let l : link_of u s p ≡ f = (link_leaf a s (leaf_side a).1).0 in
              subst P (l ∙ sym e) (step p s (still_chained p h) (rw l leaf_chained) (old h p h))

  pub grown_accepted : fault u ≡ 0
  grown_accepted = sound_accepted u grown_sound grown_reaching
