-- The chain, the free records and the words of a table with a leaf more (`Graft`), from an accepted one. Rests on Lists, Accepted, Trail and Nexts
-- (`table`), Inserted and Graft.
use mathlib.Core.Path.{◌≡◌, refl, ap, subst}
use mathlib.Core.Logic.{◌↔◌, ◌⊎◌, inl, inr, ⊎_elim}
use mathlib.Core.List.{List, ◌∷◌}
use Prim.Native.Nat.{ℕ, ◌<◌}
use native.Mathlib.Omega.{arith}
use lib.Dec.{T}
use lib.ListN.{length}
use Rattle.table.specs.Lists.{member}
use Rattle.table.specs.Table.{word, next_of, chain, Chained, first_free, free, Free, Empty}
use Rattle.table.specs.Refusal.{fault}
use Rattle.table.proofs.Lists.{distinct_cons, member_cons}
use Rattle.table.proofs.Accepted.{chain_within, chain_length, free_within, free_distinct, free_length, free_zero}
use Rattle.table.proofs.Trail.{Path, path_trail, path_same}
use Rattle.table.proofs.Nexts.{chain_path, head_distinct, free_head}
use Rattle.changes.specs.Leaf.{Behind}
use Rattle.changes.proofs.Graft.{Graft, as_many, slot_bounds, names_leaf}
use Rattle.changes.proofs.Inserted.{behind_length, behind_member, path_inserted}

-- The table without the leaf is accepted; the record before it on the chain is the head or chained, and its parent is the head of an empty tree or chained.
pub record Growth (t u : List ℕ) (c p j f : ℕ) : Type 0 where
  pub graft : Graft t u c p j f
  pub accepted : fault t ≡ 0
  pub before : (c ≡ 0) ⊎ Chained t c
  pub above : ((p ≡ 0) × Empty t) ⊎ Chained t p

module _ {t u : List ℕ} {c p j f : ℕ} (a : Growth t u c p j f) where
  abbrev g : Graft t u c p j f
  g = a.graft

  abbrev ok : fault t ≡ 0
  ok = a.accepted

  -- The leaf is the first free record of t, so not chained there; the others follow.
  free_split : (ks : List ℕ) × (free t ≡ f ∷ ks) × Path t (next_of t f) ks
  free_split = subst (λ (n : ℕ). (ks : List ℕ) × (free t ≡ n ∷ ks) × Path t (next_of t n) ks) g.first (free_head t ok (omega (arith, g.some, g.first)))

  pub off_chain : Chained t f → ⊥
  off_chain = (free_zero t ok f (rw free_split.1 ((member_cons f f free_split.0).1 (inl refl)))).0

  pub leaf_word : word u p j ≡ f
  leaf_word = names_leaf g (λ e. ⊎_elim (λ (z : (p ≡ 0) × Empty t). omega (arith, z.0, g.some)) (λ (m : Chained t p). off_chain (rw e at m)) a.above)

  -- Words that are the same: those of chained records but for one next and one link, and those of the other free records.
  pub chained_word : (x i : ℕ) → i < 4 → Chained t x → ((x ≡ c) × (i ≡ 0) → ⊥) → ((x ≡ p) × (i ≡ j) → ⊥) → word u x i ≡ word t x i
  chained_word x i h m = g.same x i h (λ e. off_chain (rw e at m)) (λ e. omega (arith, chain_within t ok x m))

  pub free_word : (x i : ℕ) → i < 4 → Free t x → (x ≡ f → ⊥) → word u x i ≡ word t x i
  free_word x i h m n =
      let off = (free_zero t ok x m).0 in
      let z = (free_within t ok x m).0 in
      g.same x i h n (λ e. omega arith)
      (λ e. ⊎_elim (λ (q : c ≡ 0). omega (arith, e.0)) (λ (q : Chained t c). off (rw e.0 q)) a.before)
      (λ e. ⊎_elim (λ (q : (p ≡ 0) × Empty t). omega (arith, e.0)) (λ (q : Chained t p). off (rw e.0 q)) a.above)

  -- The chain.
  longer : (fs : List ℕ) × Behind c f (0 ∷ chain t) (0 ∷ fs) × Path u (next_of u 0) fs
  longer =
      path_inserted t u c f g.some g.follows g.gap 0 (chain t) agreeing
      (head_distinct t ok) ((member_cons c 0 (chain t)).1 a.before) (chain_path t ok)
    where
      agreeing : (x : ℕ) → T (member x (0 ∷ chain t)) → (x ≡ c → ⊥) → next_of u x ≡ next_of t x
      agreeing x m n =
          g.same x 0 (omega arith) (λ e. ⊎_elim (λ (q : x ≡ 0). omega (arith, g.some)) (λ (q : Chained t x). off_chain (rw e at q))
          ((member_cons x 0 (chain t)).0 m))
          (λ e. omega (arith, e.1)) (λ e. n e.0) (λ e. omega (arith, e.1, slot_bounds g))

  chain_longer : chain u ≡ longer.0
  unfolding chain
  chain_longer = path_trail u (next_of u 0) longer.0 longer.2
      (omega (arith, as_many g, behind_length c f 0 (chain t) longer.0 longer.1, chain_length t ok))

  pub graft_behind : Behind c f (0 ∷ chain t) (0 ∷ chain u)
  graft_behind = rw chain_longer longer.1

  pub graft_chained : (x : ℕ) → Chained u x ↔ ((x ≡ f) ⊎ Chained t x)
  graft_chained = behind_member c f 0 (chain t) (chain u) graft_behind

  -- The free records.
  other : (x : ℕ) → T (member x free_split.0) → Free t x × (x ≡ f → ⊥)
  other x m =
      let d = distinct_cons f free_split.0 (rw free_split.1 at (free_distinct t ok)) in
      (rw free_split.1 ((member_cons x f free_split.0).1 (inr m)), λ e. d.0 (rw e at m))

  free_rest : free u ≡ free_split.0
  unfolding free
  free_rest =
      path_trail u (first_free u) free_split.0
      (rw g.others (path_same t u (next_of t f) free_split.0 (λ x m. let o = other x m in free_word x 0 (omega arith) o.0 o.1) free_split.2))
      (omega (arith, as_many g, free_length t ok, ap length free_split.1))

  pub graft_free : free t ≡ f ∷ free u
  graft_free = rw free_rest free_split.1
