-- A leaf taken off (Graft): the chained records of the table t without it and their links, beside those of the table u with it. A link that names the leaf
-- is zero in t; the others are the same, and name a record as often. Rests on Lists, Chain, Causes and Accepted (`table`), Inserted, Graft and PruneChain.
use mathlib.Core.Path.{◌≡◌, refl, sym, ap, ◌∙◌}
use mathlib.Core.Logic.{◌≢◌, ◌⊎◌, inl, inr, ⊎_elim, ⊎_map}
use mathlib.Core.List.{List, []}
use Prim.Native.Nat.{ℕ, ◌+◌, ◌<◌}
use native.Mathlib.Omega.{arith}
use lib.ListN.{drop_of_length-le}
use Rattle.table.specs.Lists.{count}
use Rattle.table.specs.Table.{Side, left, right, word, left_of, right_of, link_of, root_of, chain, Chained, Empty}
use Rattle.table.specs.Trees.{named}
use Rattle.table.proofs.Lists.{same, same_one, same_zero, Alike, alike, sum, sum_same, member_count, repeats_count, count_links}
use Rattle.table.proofs.Chain.{names}
use Rattle.table.proofs.Causes.{root_first}
use Rattle.table.proofs.Accepted.{empty_none, chain_within, chain_distinct, root, parent_unique, root_unnamed}
use Rattle.changes.proofs.Inserted.{behind_sum, behind_count, behind_length, behind_member}
use Rattle.changes.proofs.Graft.{Graft, names_leaf, leaf_links}
use Rattle.changes.proofs.PruneChain.{Prunable, pruned_chain}

module _ {t u : List ℕ} {c p j f : ℕ} (g : Graft t u c p j f) (h : Prunable u c p f) where
  -- Sums over the chain of u are those over the chain of t, and one of the leaf.
  chain_sum : (w : ℕ → ℕ) → sum w (chain u) ≡ w f + sum w (chain t)
  chain_sum = behind_sum c f 0 (chain t) (chain u) (pruned_chain g h)

  pub chain_count : (k : ℕ) → count k (chain u) ≡ same k f + count k (chain t)
  chain_count = behind_count c f 0 (chain t) (chain u) (pruned_chain g h)

  pub still : (k : ℕ) → Chained t k → Chained u k
  still k m = (behind_member c f 0 (chain t) (chain u) (pruned_chain g h) k).1 (inr m)

  pub leaf_off : Chained t f → ⊥
  leaf_off m = omega (arith, chain_count f, same_one f f refl, (member_count f (chain t)).0 m, (repeats_count (chain u)).0 (chain_distinct u h.accepted) f)

  pub other : (k : ℕ) → Chained u k → k ≢ f → Chained t k
  other k m n = ⊎_elim (λ (e : k ≡ f). absurd (n e)) (λ (i : Chained t k). i) ((behind_member c f 0 (chain t) (chain u) (pruned_chain g h) k).0 m)

  pub off : (k : ℕ) → Chained t k → k ≢ f
  off k m e = leaf_off (rw e at m)

  -- What names the leaf in u is zero in t; other links are the same in both.
  abbrev pub Paired : ℕ → ℕ → Type 0
  Paired k m = ((k ≡ f) × (m ≡ 0)) ⊎ ((m ≡ k) × (k ≢ f))

  holds : word u p j ≡ f → (s : Side) × (link_of u s p ≡ f) × (link_of t s p ≡ 0)
  holds n = ⊎_elim (λ (e : j ≡ 1). (left, rw e at n, rw e at g.vacant)) (λ (e : (j ≡ 2) × (p ≢ 0)). (right, rw e.0 at n, rw e.0 at g.vacant))
      g.slot

  link_same : (k : ℕ) (s : Side) → k ≢ f → 0 < k → link_of u s k ≢ f → link_of t s k ≡ link_of u s k
  link_same k left a z n = sym (g.same k 1 (omega arith) a (λ e. omega (arith, e.1)) (λ e. omega (arith, e.1))
      (λ e. n (rw (e.0, e.1) (names_leaf g (λ q. a (e.0 ∙ q))))))
  link_same k right a z n = sym (g.same k 2 (omega arith) a (λ e. omega (arith, e.0)) (λ e. omega (arith, e.1))
      (λ e. n (rw (e.0, e.1) (names_leaf g (λ q. a (e.0 ∙ q))))))

  pub link_paired : (k : ℕ) (s : Side) → Chained t k → Paired (link_of u s k) (link_of t s k)
  link_paired k s m = go (alike (link_of u s k) f)
    where
      held : link_of u s k ≡ f → link_of t s k ≡ 0
      held e = ⊎_elim (λ (w : (p ≢ f) × (word u p j ≡ f)). by w.1 h.holder)
          (λ (w : (p ≡ f) × (j ≡ 1) × (f ≢ root_of u) × (named u f ≡ 0)). absurd (omega (arith, names u f k s (chain u) (still k m) (sym e), w.3))) g.names
        where
          by : word u p j ≡ f → ((p ≡ 0) × (root_of u ≡ f)) ⊎ Chained u p → link_of t s k ≡ 0
          by w (inl r) = absurd (root_unnamed u h.accepted (root_of u) (root_first u) k s (still k m) (e ∙ sym r.1))
          by w (inr n) =
              let i = holds w in
              let q = parent_unique u h.accepted k p s i.0 (still k m) n (omega (arith, e, g.some)) (e ∙ sym i.1) in
              rw (q.0, q.1) i.2

      go : Alike (link_of u s k) f → Paired (link_of u s k) (link_of t s k)
      go (inl e) = inl (e.0, held e.0)
      go (inr e) = inr (link_same k s (off k m) (omega (arith, chain_within u h.accepted k (still k m))) e.0, e.0)

  pub root_paired : Paired (root_of u) (root_of t)
  root_paired = ⊎_elim (λ (e : (p ≡ 0) × (root_of u ≡ f)). inl (e.1, gone e.0)) here h.holder
    where
      gone : p ≡ 0 → root_of t ≡ 0
      gone z = ⊎_elim (λ (e : j ≡ 1). rw (z, e) at g.vacant) (λ (e : (j ≡ 2) × (p ≢ 0)). absurd (e.1 z)) g.slot

      here : Chained u p → Paired (root_of u) (root_of t)
      here n = inr (
        sym (g.same 0 1 (omega arith) (λ e. omega (arith, g.some)) (λ e. omega (arith, e.1)) (λ e. omega (arith, e.1))
            (λ e. omega (arith, e.0, chain_within u h.accepted p n))),
        λ e. ⊎_elim (λ (w : (p ≢ f) × (word u p j ≡ f)). let i = holds w.1 in root_unnamed u h.accepted (root_of u) (root_first u) p i.0 n
            (i.1 ∙ sym e))
            (λ (w : (p ≡ f) × (j ≡ 1) × (f ≢ root_of u) × (named u f ≡ 0)). w.2 (sym e)) g.names,
      )

  -- The leaf is no parent; where it is the head's root, no other record is chained.
  pub childless : (k : ℕ) (s : Side) → k ≡ f → Chained u (link_of u s k) → ⊥
  childless k s e m = omega (arith, ap (link_of u s) e, leaf_links g s, chain_within u h.accepted (link_of u s k) m)

  root_alone : root_of u ≡ f → chain t ≡ []
  root_alone e = drop_of_length-le (chain t) {i = 0} (omega (arith, h.alone (sym e), behind_length c f 0 (chain t) (chain u) (pruned_chain g h)))

  pub top : Chained u (root_of u)
  top = ⊎_elim (λ (e : Empty u). absurd (empty_none u e f h.leaf)) (λ (m : Chained u (root_of u)). m) (root u h.accepted)

  pub top_cases : Empty t ⊎ ((root_of t ≡ root_of u) × Chained t (root_of t))
  top_cases = ⊎_map (λ (e : (root_of u ≡ f) × (root_of t ≡ 0)). (root_alone e.0, e.1))
      (λ (e : (root_of t ≡ root_of u) × (root_of u ≢ f)). (e.0, rw e.0 (other (root_of u) top e.1))) root_paired

  -- Other records are named as often.
  paired_same : (x k m : ℕ) → 0 < x → x ≢ f → Paired k m → same x k ≡ same x m
  paired_same x k m z n (inl e) = omega (arith, same_zero x k (λ d. n (d ∙ e.0)), same_zero x m (λ d. omega (arith, e.1)))
  paired_same x k m z n (inr e) = rw e.0

  pub named_same : (x : ℕ) → 0 < x → x ≢ f → named t x ≡ named u x
  named_same x z n =
      let w : (ℕ → ℕ) = λ k. same x (left_of u k) + same x (right_of u k) in
      omega (
        arith,
        count_links t x (chain t),
        count_links u x (chain u),
        chain_sum w,
        same_zero x (left_of u f) (λ e. omega (arith, g.childless.0)),
        same_zero x (right_of u f) (λ e. omega (arith, g.childless.1)),
        sum_same w (λ k. same x (left_of t k) + same x (right_of t k)) (chain t)
            (λ k m. omega (
              arith,
              paired_same x (left_of u k) (left_of t k) z n (link_paired k left m),
              paired_same x (right_of u k) (right_of t k) z n (link_paired k right m),
            )),
      )
