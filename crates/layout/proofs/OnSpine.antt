-- "Every spine" leaves nothing out: each node of a tree is on one of the spines of its drawing (`on_a_spine`). Rests on the spine having the tree's nodes,
-- with what hangs from it.
use mathlib.Core.Path.{◌≡◌, refl, sym, ap, subst}
use mathlib.Core.List.{List, ◌∷◌}
use mathlib.Core.Logic.{⊎_elim}
use Prim.Native.Nat.{ℕ, zero, suc, ◌≤◌, ◌<◌}
use native.Mathlib.Decide.{dec_le}
use native.Mathlib.Omega.{arith}
use lib.Dec.{T}
use Rattle.table.specs.Lists.{member, count}
use Rattle.table.specs.Table.{Side, left, right}
use Rattle.table.specs.Tree.{Tree, none, node, nodes, size}
use Rattle.table.proofs.Lists.{same, alike, member_count}
use Rattle.table.proofs.Chain.{count_node}
use Rattle.layout.specs.Layout.{mirror}
use Rattle.layout.specs.Spine.{SpineNode, hangs, spine, Role, switch, facing, seen, role_after, hand_after, Assigned, assigned, roles_after, roles}
use Rattle.layout.specs.Rectangle.{Hangs, here, further, DrawnIn, whole, hung, OnSpine}
use Rattle.layout.proofs.Rows.{size_facing}
use Rattle.layout.proofs.Spines.{spine_tree, Light, light_end, light_node, spine_whole, light_spine, count_over, first_knee}

-- ---- how often a record is in a tree

count_mirror : (x : ℕ) (t : Tree) → count x (nodes (mirror t)) ≡ count x (nodes t)
unfolding mirror
count_mirror x none = refl
count_mirror x (node k a b) = omega (arith, count_node x k (mirror b) (mirror a), count_node x k a b, count_mirror x a, count_mirror x b)

pub count_facing : (s : Side) (x : ℕ) (t : Tree) → count x (nodes (facing s t)) ≡ count x (nodes t)
unfolding facing
count_facing left x t = refl
count_facing right x t = count_mirror x t

-- ---- every node is on a spine

-- k is a node of this spine, or of what hangs from one of its nodes, which has fewer than n nodes.
pub data OnOrOff (n k : ℕ) (ls : List Assigned) : Type 0 where
  on : {U : Tree} → Hangs k U ls → OnOrOff n k ls
  off : {j : ℕ} {U : Tree} → Hangs j U ls → size U < n → T (member k (nodes U)) → OnOrOff n k ls

later : {n k : ℕ} {l : Assigned} {ls : List Assigned} → OnOrOff n k ls → OnOrOff n k (l ∷ ls)
later (on h) = on (further h)
later (off h i m) = off (further h) i m

hangs_seen : (z : Side) (o : Role) (j : ℕ) (s : Side) (t : Tree) (ls : List Assigned) → Hangs j (facing z t) (assigned o (seen z (hangs j s t)) ∷ ls)
unfolding seen facing
hangs_seen left o j s t ls = here
hangs_seen right o j s t ls = here

on_or_off : (n k : ℕ) (s : Side) (o : Role) {ls : List SpineNode} → Light n ls → 1 ≤ count k (nodes (spine_tree ls)) → OnOrOff n k (roles_after s o ls)
unfolding roles_after spine_tree nodes count
on_or_off n k s o light_end c = absurd (omega arith)
on_or_off n k s o (light_node {l = hangs j e t} {ls} f g i) c =
    let z = hand_after o s in
    let o' = role_after o (seen z (hangs j e t)) in
    let first : Hangs j (facing z t) (roles_after s o (hangs j e t ∷ ls)) = hangs_seen z o' j e t (roles_after z o' ls) in
    let has = count_over k j e t (spine_tree ls) in
    ⊎_elim (λ (q : (k ≡ j) × (same k j ≡ 1)). on (subst (λ (i : ℕ). Hangs i (facing z t) (roles_after s o (hangs j e t ∷ ls))) (sym q.0) first))
    (λ (q : (k ≡ j → ⊥) × (same k j ≡ 0)). elim (dec_le 1 (count k (nodes t))) [
      | yes m ↦ off first (omega (arith, size_facing z t)) ((member_count k (nodes (facing z t))).1 (omega (arith, count_facing z k t)))
      | no m ↦ later (on_or_off n k z o' i (omega (arith, q.1)))
    ]) (alike k j)

drawn_through : {a S U : Tree} → DrawnIn a S → DrawnIn S U → DrawnIn a U
drawn_through d whole = d
drawn_through d (hung e i) = hung (drawn_through d e) i

pub on_or_hung : (a : Tree) (k : ℕ) → T (member k (nodes a)) → OnOrOff (size a) k (roles (spine a))
on_or_hung a k h = subst (OnOrOff (size a) k) (sym (first_knee (spine a)))
    (on_or_off (size a) k right switch (light_spine (size a) a (omega arith))
    (omega (arith, (member_count k (nodes a)).0 h, ap (λ (t : Tree). count k (nodes t)) (spine_whole a))))

pub on_a_spine : (a : Tree) (k : ℕ) → T (member k (nodes a)) → OnSpine a k
on_a_spine a k = go (suc (size a)) a (omega arith)
  where
    go : (n : ℕ) (a : Tree) → size a < n → T (member k (nodes a)) → OnSpine a k
    go zero a l h = absurd (omega arith)
    go (suc n) a l h = elim (on_or_hung a k h) [
      | on {U} i ↦ record { S = a; U = U; is_drawn = whole; hanging = i }
      | off {j} {U} i m c ↦ let z = go n U (omega arith) c in
          record { S = z.S; U = z.U; is_drawn = drawn_through (hung whole i) z.is_drawn; hanging = z.hanging }
    ]
