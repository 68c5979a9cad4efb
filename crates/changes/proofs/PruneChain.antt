-- A leaf taken off (Graft): from the table u that has it chained to the table t that has it first among the free, the chain and the free records. Rests on
-- Lists, Accepted, Trail and Nexts (`table`), Inserted and Graft.
use mathlib.Core.Path.{◌≡◌, refl, sym, ap, ◌∙◌, subst}
use mathlib.Core.Logic.{◌≢◌, ◌⊎◌, inr, ⊎_elim}
use mathlib.Core.List.{List, [], ◌∷◌}
use Prim.Native.Nat.{ℕ, ◌≤◌}
use native.Mathlib.Omega.{arith}
use lib.Dec.{T}
use lib.ListN.{length}
use Rattle.table.specs.Lists.{member}
use Rattle.table.specs.Table.{next_of, root_of, trail, chain, Chained, first_free, free, Free}
use Rattle.table.specs.Refusal.{fault}
use Rattle.table.proofs.Lists.{member_cons, distinct_cons, Distinct}
use Rattle.table.proofs.Accepted.{chain_length, free_within, free_length, free_zero}
use Rattle.table.proofs.Trail.{Path, path_trail, trail_path, path_same, path_first}
use Rattle.table.proofs.Nexts.{path_next, chain_path, head_distinct}
use Rattle.changes.specs.Leaf.{Behind}
use Rattle.changes.proofs.Inserted.{behind_length}
use Rattle.changes.proofs.Graft.{Graft, as_many, slot_bounds}

module _ {t u : List ℕ} {c p j f : ℕ} (g : Graft t u c p j f) where
  next_same : (m : ℕ) → m ≢ f → m ≢ c → next_of t m ≡ next_of u m
  next_same m a b = sym (g.same m 0 (omega arith) a (λ e. omega (arith, e.1)) (λ e. b e.0) (λ e. omega (arith, e.1, slot_bounds g)))

  -- The path without the leaf.
  abbrev TakenOut : ℕ → List ℕ → Type 0
  TakenOut x ks = (ds : List ℕ) × Path t (next_of t x) ds × Behind c f (x ∷ ds) (x ∷ ks)

  take_here : (ks : List ℕ) → Path u (next_of u c) ks → Distinct (c ∷ ks) → TakenOut c ks
  take_here ks q d =
      let r = path_first u f ks (rw g.follows at q) g.some in
      let e = distinct_cons c ks d in
      let h = distinct_cons f r.0 (rw r.1 at e.1) in
      let s = path_same u t (next_of u f) r.0
      (λ y m. next_same y (λ i. h.0 (rw i at m)) (λ i. e.0 (rw r.1 ((member_cons c f r.0).1 (inr (rw i at m)))))) r.2 in
      (r.0, rw g.gap s, record { before = []; after = r.0; without = refl; inserted = ap (λ (l : List ℕ). c ∷ l) r.1 })

  take_out : (x : ℕ) (ks : List ℕ) → Path u (next_of u x) ks → T (member c (x ∷ ks)) → Distinct (x ∷ ks) → x ≢ f → TakenOut x ks
  take_out x [] q m d n = ⊎_elim (λ (e : c ≡ x). absurd (omega (arith, ap (next_of u) e, g.follows, g.some)))
      (λ (h : T (member c [])). absurd (unfold member in h)) ((member_cons c x []).0 m)
  take_out x (k ∷ ks) q m d n = ⊎_elim here (there (take_out k ks q.2)) ((member_cons c x (k ∷ ks)).0 m)
    where
      here : c ≡ x → TakenOut x (k ∷ ks)
      here e = subst (λ (y : ℕ). Path u (next_of u y) (k ∷ ks) → Distinct (y ∷ k ∷ ks) → TakenOut y (k ∷ ks)) e (take_here (k ∷ ks)) q d

      there : (T (member c (k ∷ ks)) → Distinct (k ∷ ks) → k ≢ f → TakenOut k ks) → T (member c (k ∷ ks)) → TakenOut x (k ∷ ks)
      there rest h =
          let e = distinct_cons x (k ∷ ks) d in
          let i = distinct_cons k ks e.1 in
          let a : k ≢ f = λ b. i.0 (rw (b, ← g.follows) (path_next u k ks c q.2 h (omega (arith, g.follows, g.some)))) in
          let r = rest h e.1 a in
          let v = next_same x n (λ b. e.0 (rw b h)) in (
            k ∷ r.0,
            (v ∙ q.0, q.1, r.1),
            record {
              before = x ∷ r.2.before;
              after = r.2.after;
              without = ap (λ (l : List ℕ). x ∷ l) r.2.without;
              inserted = ap (λ (l : List ℕ). x ∷ l) r.2.inserted;
            },
          )

-- The leaf is chained in u; the record before it is chained or the head; its parent is chained, or it is the head's root; it is that only if it is the only
-- node.
pub record Prunable (u : List ℕ) (c p f : ℕ) : Type 0 where
  pub accepted : fault u ≡ 0
  pub leaf : Chained u f
  pub before : (c ≡ 0) ⊎ Chained u c
  pub holder : ((p ≡ 0) × (root_of u ≡ f)) ⊎ Chained u p
  pub alone : f ≡ root_of u → length (chain u) ≤ 1

module _ {t u : List ℕ} {c p j f : ℕ} (g : Graft t u c p j f) (h : Prunable u c p f) where
  -- The chain.
  chain_cut : TakenOut g 0 (chain u)
  chain_cut = take_out g 0 (chain u) (chain_path u h.accepted) ((member_cons c 0 (chain u)).1 h.before) (head_distinct u h.accepted)
      (λ e. omega (arith, g.some))

  chain_is : chain t ≡ chain_cut.0
  unfolding chain
  chain_is = path_trail t (next_of t 0) chain_cut.0 chain_cut.1
      (omega (arith, behind_length c f 0 chain_cut.0 (chain u) chain_cut.2, chain_length u h.accepted, as_many g))

  pub pruned_chain : Behind c f (0 ∷ chain t) (0 ∷ chain u)
  pruned_chain = rw chain_is chain_cut.2

  -- The free records.
  pub pruned_free : free t ≡ f ∷ free u
  unfolding free
  pruned_free =
      let q = trail_path u (first_free u) (free_length u h.accepted) in
      let s = path_same u t (first_free u) (free u) (λ y m. next_same g y (λ e. apart y m f h.leaf e) (before y m)) q in
      ap (trail t) g.first ∙ path_trail t f (f ∷ free u) (refl, g.some, subst (λ (n : ℕ). Path t n (free u)) g.others s)
      (omega (arith, free_length u h.accepted, as_many g))
    where
      apart : (y : ℕ) → Free u y → (k : ℕ) → Chained u k → y ≡ k → ⊥
      apart y m k n e = (free_zero u h.accepted y m).0 (rw e n)

      before : (y : ℕ) → Free u y → y ≡ c → ⊥
      before y m e = ⊎_elim (λ (z : c ≡ 0). omega (arith, free_within u h.accepted y m)) (λ (n : Chained u c). apart y m c n e) h.before
