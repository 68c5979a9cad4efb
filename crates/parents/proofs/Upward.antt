-- The parents of the children, as they are set node by node (`Upward`), and what is above a node then: its parent (`above_child`), or, of a root,
-- itself (`above_root`). Rests on the ends of lines, and on the laws of a listed chain.
use mathlib.Core.Path.{◌≡◌, refl, sym, ap, ◌∙◌, subst}
use mathlib.Core.Logic.{◌≢◌, ◌⊎◌, inl, inr, ⊎_elim}
use mathlib.Core.List.{List}
use Prim.Native.Nat.{ℕ, ◌+◌, ◌≤◌, ◌<◌}
use native.Mathlib.Decide.{ℕ_discrete}
use native.Mathlib.Omega.{arith}
use lib.Dec.{T}
use lib.ListN.{length, length-set, get_or, set}
use lib.Seq.{get_or-set_same, get_or-set_other}
use borrow.Author.Tests.{ne_eqb}
use Rattle.table.specs.Lists.{member}
use Rattle.table.specs.Table.{Side, left, right, link_of, records, Chained, Line}
use Rattle.table.specs.Trees.{roots}
use Rattle.table.proofs.Accepted.{records_bounds, chain_within, link_within, parent_unique, root_unnamed}
use Rattle.table.proofs.Ends.{above_node}
use Rattle.records.specs.inner.Reading.{Nodes}
use Rattle.records.proofs.Nodes.{node_chained, node_place, chained_below}
use Rattle.parents.specs.inner.Parents.{Parents, above}

-- Two stores of v, seen at x.
twice : (up : List ℕ) (a b v x w : ℕ) → a < length up → b < length up → ((x ≡ a) ⊎ (x ≡ b) → v ≡ w) → (x ≢ a → x ≢ b → get_or up x 0 ≡ w) →
    get_or (set (set up a v) b v) x 0 ≡ w
twice up a b v x w h k e f = go (ℕ_discrete x a) (ℕ_discrete x b)
  where
    go : Dec (x ≡ a) → Dec (x ≡ b) → get_or (set (set up a v) b v) x 0 ≡ w
    go p (yes q) = rw (q, get_or-set_same (set up a v) b v 0 (simp length-set k)) (e (inr q))
    go (yes p) (no q) = rw (get_or-set_other (set up a v) b x v 0 q, p, get_or-set_same up a v 0 h) (e (inl p))
    go (no p) (no q) = rw (get_or-set_other (set up a v) b x v 0 q, get_or-set_other up a x v 0 p) (f p q)

-- The first i nodes of list are set as the parents of their children.
pub record Upward (t list up : List ℕ) (i : ℕ) : Type 0 where
  pub long : length up ≡ 4097
  pub parents : (j : ℕ) (s : Side) → j < i → link_of t s (get_or list j 0) ≢ 0 → get_or up (link_of t s (get_or list j 0)) 0 ≡ get_or list j 0
  pub root : (k : ℕ) → T (member k (roots t)) → k ≢ 0 → get_or up k 0 ≡ 0

module _ {t list : List ℕ} (l : Nodes t list) where
  link_fits : (i : ℕ) (s : Side) → i < length list → link_of t s (get_or list i 0) < 4097
  link_fits i s h = omega (arith, link_within t l.accepted (get_or list i 0) s (node_chained l i h), records_bounds t l.accepted)

  pub link_fits_by : {i k a : ℕ} (s : Side) → i < length list → k ≡ get_or list i 0 → a ≡ link_of t s k → a < 4097
  link_fits_by s h e x = rw (x, e) (link_fits _ s h)

  -- Two nodes with one link, which is not zero, are one.
  one : (i j : ℕ) (s r : Side) → i < length list → j < length list → link_of t s (get_or list j 0) ≢ 0 →
      link_of t s (get_or list j 0) ≡ link_of t r (get_or list i 0) →
      get_or list i 0 ≡ get_or list j 0
  one i j s r h k z e = sym (parent_unique t l.accepted (get_or list j 0) (get_or list i 0) s r (node_chained l j k) (node_chained l i h) (omega arith) e).0

  upward_more : {up : List ℕ} {i : ℕ} → i < length list → Upward t list up i →
      Upward t list (set (set up (link_of t left (get_or list i 0)) (get_or list i 0)) (link_of t right (get_or list i 0)) (get_or list i 0)) (i + 1)
  upward_more {up} {i} h u = record {
    long = simp length-set u.long;
    parents = λ j s b z. twice up _ _ (get_or list i 0) _ _ (omega (arith, u.long, link_fits i left h)) (omega (arith, u.long, link_fits i right h))
        (⊎_elim (λ e. one i j s left h (omega arith) z e) (λ e. one i j s right h (omega arith) z e)) (before j s b z);
    root = λ k m z. twice up _ _ (get_or list i 0) k 0 (omega (arith, u.long, link_fits i left h)) (omega (arith, u.long, link_fits i right h))
        (⊎_elim (unnamed k m left) (unnamed k m right)) (λ x y. u.root k m z);
  }
    where
      unnamed : (k : ℕ) → T (member k (roots t)) → (s : Side) → k ≡ link_of t s (get_or list i 0) → get_or list i 0 ≡ 0
      unnamed k m s e = absurd (root_unnamed t l.accepted k m (get_or list i 0) s (node_chained l i h) (sym e))

      either : (s : Side) (k : ℕ) → link_of t s k ≢ link_of t left k → link_of t s k ≢ link_of t right k → ⊥
      either left k a b = a refl
      either right k a b = b refl

      before : (j : ℕ) (s : Side) → j < i + 1 → link_of t s (get_or list j 0) ≢ 0 →
          link_of t s (get_or list j 0) ≢ link_of t left (get_or list i 0) → link_of t s (get_or list j 0) ≢ link_of t right (get_or list i 0) →
          get_or up (link_of t s (get_or list j 0)) 0 ≡ get_or list j 0
      before j s b z x y = go (ℕ_discrete j i)
        where
          go : Dec (j ≡ i) → get_or up (link_of t s (get_or list j 0)) 0 ≡ get_or list j 0
          go (yes e) = absurd (either s (get_or list i 0) (subst (λ k. link_of t s (get_or list k 0) ≢ link_of t left (get_or list i 0)) e x)
              (subst (λ k. link_of t s (get_or list k 0) ≢ link_of t right (get_or list i 0)) e y))
          go (no q) = u.parents j s (omega arith) z

  -- The same, with the numbers as the code has them.
  pub upward_by : {up : List ℕ} {i k a b : ℕ} → i < length list → Upward t list up i → k ≡ get_or list i 0 → a ≡ link_of t left k → b ≡ link_of t right k →
      Upward t list (set (set up a (get_or list i 0)) b (get_or list i 0)) (i + 1)
  upward_by h u e x y = rw (x, y, e) (upward_more h u)

  pub upward_all : {up : List ℕ} {i : ℕ} → length list ≤ i → Upward t list up i → Parents t up
  upward_all {up} f u = record {
    parent = λ k c s x. let p = node_place l k x.chained in
        let e : link_of t s (get_or list p.0 0) ≡ c = ap (link_of t s) p.2 ∙ x.links in
        ap (λ (m : ℕ). get_or up m 0) (sym e) ∙ u.parents p.0 s (omega (arith, p.1)) (λ z. x.child (sym e ∙ z)) ∙ p.2;
    root = u.root;
  }

  -- ---- what is above a node

  module _ {up : List ℕ} (u : Parents t up) where
    pub above_child : (k c : ℕ) (s : Side) → Line t k s c → above up c ≡ k
    above_child k c s x = rw (u.parent k c s x, ne_eqb k 0 (λ z. omega (arith, chain_within t l.accepted k x.chained)))

    pub above_root : (c : ℕ) → Chained t c → T (member c (roots t)) → above up c ≡ c
    above_root c h m = rw (u.root c m (λ z. omega (arith, chain_within t l.accepted c h)))

    pub above_below : (c : ℕ) → Chained t c → above up c < records t
    above_below c h = go (above_node t l.accepted c h)
      where
        go : T (member c (roots t)) ⊎ ((k : ℕ) × (s : Side) × Line t k s c) → above up c < records t
        go (inl m) = rw (above_root c h m) (chained_below l c h)
        go (inr (k, s, x)) = rw (above_child k c s x) (chained_below l k x.chained)
