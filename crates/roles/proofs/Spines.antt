-- The list of roles, kept along a spine. Rests on Frames.
use mathlib.Core.Path.{◌≡◌, refl, sym, ap, ◌∙◌}
use mathlib.Core.Logic.{◌↔◌, inl, inr, ⊎_elim}
use mathlib.Core.List.{List}
use Prim.Native.Nat.{ℕ}
use native.Mathlib.Omega.{arith}
use lib.Dec.{T}
use lib.ListN.{set}
use Rattle.table.specs.Lists.{member}
use Rattle.table.specs.Table.{Side, chain}
use Rattle.table.specs.Tree.{Tree, none, node, tree_at}
use Rattle.table.specs.Refusal.{fault}
use Rattle.table.proofs.Accepted.{tree_unfolds, tree_none}
use Rattle.layout.specs.Spine.{SpineNode, spine, Role as LayoutRole, knee, facing, seen, role_after, hand_after, Assigned, roles_after, roles}
use Rattle.layout.specs.inner.Held.{spine_on, roles_from}
use Rattle.layout.proofs.Sides.{roles_on}
use Rattle.roles.specs.declared.Fork.{Fork}
use Rattle.roles.specs.declared.role.Role.{Role}
use Rattle.roles.specs.inner.Sized.{Named}
use Rattle.roles.specs.Chosen.{side_of, code_of, with_roles}
use Rattle.roles.specs.inner.Forked.{Forked}
use Rattle.roles.specs.inner.Roles.{node_of, Follows, hand_of, role_of}
use Rattle.roles.proofs.Frames.{with_seen, with_after}

-- A record that is not zero is chained; one that stands for no tree is zero.
pub chained : (t : List ℕ) (k : ℕ) → Named t k → (k ≡ 0 → ⊥) → T (member k (chain t))
chained t k (inl e) n = absurd (n e)
chained t k (inr h) n = h

pub stands : (t : List ℕ) → fault t ≡ 0 → (k : ℕ) → Named t k → (k ≡ 0) ↔ (tree_at t k ≡ none)
stands t ok k n = (λ e. rw e (tree_none t), λ e. ⊎_elim (λ (z : k ≡ 0). z) (λ (h : T (member k (chain t))). absurd (never (sym (tree_unfolds t ok k h) ∙ e))) n)
  where
    never : {a b : Tree} {i : ℕ} → node i a b ≡ none → ⊥
    never e = let z : ◌≡◌ {A = ℕ} 0 1 = cc in omega arith

-- The first node of the spine is a knee of its side.
pub with_first : (t : List ℕ) (s : Side) (k k' hung : ℕ) (h : Side) → Forked t s k k' hung h →
    (r : Role) → (hand_of r ≡ s) × (role_of r ≡ knee) → (n : ℕ) → n ≡ code_of (hand_of r) (role_of r) → (R : List ℕ) →
    with_roles s (roles (spine (facing s (tree_at t k)))) R ≡ with_after (hand_of r) (role_of r) (spine_on s (tree_at t k')) (set R k n)
unfolding roles_from
with_first t s k k' hung h d r e n i R =
    ap (λ (rs : List Assigned). with_roles s rs R) (roles_on s (tree_at t k) ∙ ap (roles_from s knee) d.forks)
    ∙ (with_seen s knee k h (tree_at t hung) (roles_after s knee (spine_on s (tree_at t k'))) R ∙ rw (i, e.0, e.1) refl)

-- One more node of the spine.
pub with_node : (t : List ℕ) → fault t ≡ 0 → (s : Side) (k : ℕ) (f : Fork) → Forked t s k f.spine f.hung (side_of f.side) →
    (b r : Role) → Follows b f r → (n : ℕ) → n ≡ code_of (hand_of r) (role_of r) → (R : List ℕ) →
    with_after (hand_of b) (role_of b) (spine_on s (tree_at t k)) R ≡ with_after (hand_of r) (role_of r) (spine_on s (tree_at t f.spine)) (set R k n)
unfolding roles_after
with_node t ok s k f d b r w n i R =
    ap (λ (ls : List SpineNode). with_after (hand_of b) (role_of b) ls R) d.forks
    ∙ (with_seen _ _ k _ S _ R ∙ go (hand_after (role_of b) (hand_of b)) (sym w.hand) (sym (w.role k S (stands t ok f.hung d.named_hung))))
  where
    S : Tree
    S = tree_at t f.hung

    ls : List SpineNode
    ls = spine_on s (tree_at t f.spine)

    go : (a : Side) → a ≡ hand_of r → role_after (role_of b) (seen (hand_of r) (node_of f k S)) ≡ role_of r →
        with_after a (role_after (role_of b) (seen a (node_of f k S))) ls (set R k (code_of a (role_after (role_of b) (seen a (node_of f k S))))) ≡
        with_after (hand_of r) (role_of r) ls (set R k n)
    go a e d = rw (e, d, i) refl

-- At no node.
pub with_none : (t : List ℕ) (s a : Side) (o : LayoutRole) (k : ℕ) (R : List ℕ) → k ≡ 0 → with_after a o (spine_on s (tree_at t k)) R ≡ R
unfolding with_roles roles_after spine_on
with_none t s a o k R e = rw (e, tree_none t) refl
