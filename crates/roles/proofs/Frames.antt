-- What is prepared of a tree depends only on the entries at its nodes: counts of nodes along a spine, and frames. The roles of a spine, kept in a list and
-- found there. Rests on the laws of accepted tables, of spines and of drawings on a side.
use mathlib.Core.Path.{◌≡◌, refl, sym, ap, subst, ◌∙◌}
use mathlib.Core.Logic.{◌↔◌, inl, inr, ⊎_elim}
use mathlib.Core.List.{List, [], ◌∷◌}
use Prim.Native.Nat.{ℕ, ◌+◌, ◌≤◌, ◌<◌}
use native.Mathlib.Omega.{arith}
use lib.Dec.{T}
use lib.ListN.{get_or, length, set, length-set}
use lib.Seq.{get_or-set_same, get_or-set_other}
use Rattle.table.specs.Lists.{member, count}
use Rattle.table.specs.Table.{Side, left, right, records, left_of, right_of, link_of, chain}
use Rattle.table.specs.Tree.{Tree, none, node, nodes, tree_at}
use Rattle.table.specs.Trees.{roots, trees, nodes_of}
use Rattle.table.specs.Refusal.{fault}
use Rattle.table.proofs.Lists.{same, same_one, member_count, repeats_count}
use Rattle.table.proofs.Chain.{count_node, reached, tree_within}
use Rattle.table.proofs.Accepted.{links_chained, nodes_distinct, down, tree_unfolds, tree_none}
use Rattle.layout.specs.Spine.{SpineNode, hangs, spine, Role, switch, opposite, facing, seen, role_after, hand_after, Assigned, assigned, roles_after, roles}
use Rattle.layout.specs.inner.Held.{spine_on, role_next}
use Rattle.layout.proofs.Spines.{spine_either}
use Rattle.layout.proofs.Sides.{first_on, roles_on}
use Rattle.roles.specs.inner.Sized.{Named}
use Rattle.roles.specs.Chosen.{code_of, with_roles}
use Rattle.roles.specs.inner.Prepared.{Prepared, no_spine, a_spine, Along, ended, onward}

-- How often x is a node of the spine or of what hangs from it; of what hangs from it.
unfoldable pub count_on : ℕ → List SpineNode → ℕ
count_on x [] = 0
count_on x (hangs k h S ∷ ls) = same x k + (count x (nodes S) + count_on x ls)

unfoldable pub count_hung : ℕ → List SpineNode → ℕ
count_hung x [] = 0
count_hung x (hangs k h S ∷ ls) = count x (nodes S) + count_hung x ls

-- How often it is a node of the spine itself.
unfoldable pub count_along : ℕ → List SpineNode → ℕ
count_along x [] = 0
count_along x (hangs k h S ∷ ls) = same x k + count_along x ls

pub along_on : (x : ℕ) (ls : List SpineNode) → count_along x ls ≤ count_on x ls
unfolding count_on count_along
along_on x [] = omega arith
along_on x (hangs k h S ∷ ls) = omega (arith, along_on x ls)

pub hung_on_lem : (x : ℕ) (ls : List SpineNode) → count_hung x ls ≤ count_on x ls
unfolding count_on count_hung
hung_on_lem x [] = omega arith
hung_on_lem x (hangs k h S ∷ ls) = omega (arith, hung_on_lem x ls)

pub count_spine : (s : Side) (x : ℕ) (S : Tree) → count x (nodes S) ≡ count_on x (spine_on s S)
unfolding spine_on count_on
count_spine s x none = unfold nodes count in refl
count_spine s x (node k a b) = ⊎_elim
    (λ e. omega (arith, ap (count_on x) e.1, count_node x k a b, count_spine s x a))
    (λ e. omega (arith, ap (count_on x) e.1, count_node x k a b, count_spine s x b))
    (spine_either s k a b)

-- The root of a tree is the first node of its spine.
pub hung_below : (s : Side) (k : ℕ) (a b : Tree) → 1 + count_hung k (spine_on s (node k a b)) ≤ count k (nodes (node k a b))
unfolding count_hung
hung_below s k a b = ⊎_elim
    (λ e. omega (arith, ap (count_hung k) e.1, count_node k k a b, same_one k k refl, count_spine s k a, hung_on_lem k (spine_on s a)))
    (λ e. omega (arith, ap (count_hung k) e.1, count_node k k a b, same_one k k refl, count_spine s k b, hung_on_lem k (spine_on s b)))
    (spine_either s k a b)

-- The nodes of a subtree of an accepted table are chained, and none stands in it twice.
pub nodes_named : (t : List ℕ) → fault t ≡ 0 → (k : ℕ) → Named t k → (x : ℕ) → 1 ≤ count x (nodes (tree_at t k)) → Named t x
nodes_named t ok k n x h = reached (Named t) t step (records t) k n x ((member_count x (nodes (tree_at t k))).1 h)
  where
    step : (m : ℕ) (s : Side) → 0 < m → Named t m → Named t (link_of t s m)
    step m s z = ⊎_elim (λ (e : m ≡ 0). absurd (omega arith)) (λ (c : T (member m (chain t))). links_chained t ok m s c)

pub once : (t : List ℕ) → fault t ≡ 0 → (k : ℕ) → Named t k → (x : ℕ) → count x (nodes (tree_at t k)) ≤ 1
once t ok k (inl e) x = rw (e, tree_none t) (unfold nodes count in omega arith)
once t ok k (inr h) x = down t ok (λ n. count x (nodes (tree_at t n)) ≤ 1)
    (λ n r m. omega (arith, tree_within (records t) t (roots t) n r x, (repeats_count (nodes_of (trees t))).0 (nodes_distinct t ok) x)) step k h
  where
    split : (n : ℕ) → T (member n (chain t)) →
        count x (nodes (tree_at t n)) ≡ same x n + (count x (nodes (tree_at t (left_of t n))) + count x (nodes (tree_at t (right_of t n))))
    split n m = ap (λ (S : Tree). count x (nodes S)) (tree_unfolds t ok n m) ∙ count_node x n _ _

    step : (n : ℕ) (s : Side) → T (member n (chain t)) → T (member (link_of t s n) (chain t)) → count x (nodes (tree_at t n)) ≤ 1 →
        count x (nodes (tree_at t (link_of t s n))) ≤ 1
    step n left m m' p = omega (arith, split n m)
    step n right m m' p = omega (arith, split n m)

-- Two lists agree where c counts.
abbrev pub Agree : (ℕ → ℕ) → List ℕ → List ℕ → Type 0
Agree c xs ys = (x : ℕ) → 1 ≤ c x → get_or ys x 0 ≡ get_or xs x 0

mutual
  unfolding count_on count_hung

  pub prepared_frame : {R W : List ℕ} (R' W' : List ℕ) {s : Side} {S : Tree} → Prepared R W s S → Agree (λ x. count x (nodes S)) R R' →
      Agree (λ x. count x (nodes S)) W W' → Prepared R' W' s S
  prepared_frame R' W' no_spine f g = no_spine
  prepared_frame R' W' (a_spine {s} {k} {a} {b} w l) f g =
      a_spine (g k (omega (arith, count_node k k a b, same_one k k refl)) ∙ w)
      (along_frame R' W' l (λ x h. f x (omega (arith, count_spine s x (node k a b))))
      (λ x h. g x (omega (arith, count_spine s x (node k a b), hung_on_lem x (spine_on s (node k a b))))))

  pub along_frame : {R W : List ℕ} (R' W' : List ℕ) {a : Side} {o : Role} {ls : List SpineNode} → Along R W a o ls →
      Agree (λ x. count_on x ls) R R' → Agree (λ x. count_hung x ls) W W' → Along R' W' a o ls
  along_frame R' W' ended f g = ended
  along_frame R' W' (onward {k} {S} {ls} c p l) f g =
      onward (f k (omega (arith, same_one k k refl)) ∙ c)
      (prepared_frame R' W' p (λ x h. f x (omega arith)) (λ x h. g x (omega arith)))
      (along_frame R' W' l (λ x h. f x (omega arith)) (λ x h. g x (omega arith)))

-- ---- the roles of a spine in a list

-- The list R has the roles of a spine, each at its node's record.
abbrev pub Keeps : List ℕ → Side → List Assigned → Type 0
Keeps R a [] = Unit {0}
Keeps R a (assigned o (hangs k s S) ∷ rs) = (get_or R k 0 ≡ code_of a o) × Keeps R (hand_after o a) rs

-- One node of the spine, as its hand sees it.
pub with_seen : (a : Side) (o : Role) (k : ℕ) (h : Side) (S : Tree) (rs : List Assigned) (R : List ℕ) →
    with_roles a (assigned o (seen a (hangs k h S)) ∷ rs) R ≡ with_roles (hand_after o a) rs (set R k (code_of a o))
unfolding with_roles seen
with_seen left o k h S rs R = refl
with_seen right o k h S rs R = refl

pub keeps_seen : (R : List ℕ) (a : Side) (o : Role) (k : ℕ) (h : Side) (S : Tree) (rs : List Assigned) →
    Keeps R a (assigned o (seen a (hangs k h S)) ∷ rs) ↔ ((get_or R k 0 ≡ code_of a o) × Keeps R (hand_after o a) rs)
unfolding seen
keeps_seen R left o k h S rs = (λ c. c, λ c. c)
keeps_seen R right o k h S rs = (λ c. c, λ c. c)

-- The roles from a spine node on, which follows a node of role o on the hand s: kept in the list R, and found there.
abbrev pub with_after : Side → Role → List SpineNode → List ℕ → List ℕ
with_after s o ls R = with_roles (hand_after o s) (roles_after s o ls) R

abbrev pub KeepsAfter : List ℕ → Side → Role → List SpineNode → Type 0
KeepsAfter R s o ls = Keeps R (hand_after o s) (roles_after s o ls)

pub keeps_frame : (R R' : List ℕ) (s : Side) (o : Role) (ls : List SpineNode) → KeepsAfter R s o ls → Agree (λ x. count_on x ls) R R' → KeepsAfter R' s o ls
unfolding roles_after count_on
keeps_frame R R' s o [] c f = tt
keeps_frame R R' s o (hangs k h S ∷ ls) c f =
    let s' = hand_after o s in
    let o' = role_after o (seen s' (hangs k h S)) in
    let d = (keeps_seen R s' o' k h S (roles_after s' o' ls)).0 c in
    (keeps_seen R' s' o' k h S (roles_after s' o' ls)).1
    (f k (omega (arith, same_one k k refl)) ∙ d.0, keeps_frame R R' s' o' ls d.1 (λ x i. f x (omega arith)))

-- Keeping the roles of a spine changes no entry but those of its nodes, and they stand in the list afterwards.
pub with_kept : (s : Side) (o : Role) (ls : List SpineNode) (R : List ℕ) (x : ℕ) → count_along x ls ≡ 0 → get_or (with_after s o ls R) x 0 ≡ get_or R x 0
unfolding roles_after with_roles count_along
with_kept s o [] R x n = refl
with_kept s o (hangs k h S ∷ ls) R x n =
    let s' = hand_after o s in
    let o' = role_after o (seen s' (hangs k h S)) in
    ap (λ (X : List ℕ). get_or X x 0) (with_seen s' o' k h S (roles_after s' o' ls) R)
    ∙ with_kept s' o' ls (set R k (code_of s' o')) x (omega arith)
    ∙ get_or-set_other R k x _ 0 (λ e. omega (arith, same_one x k e))

pub with_keeps : (s : Side) (o : Role) (ls : List SpineNode) (R : List ℕ) → ((x : ℕ) → count_on x ls ≤ 1) → ((x : ℕ) → 1 ≤ count_on x ls → x < length R) →
    KeepsAfter (with_after s o ls R) s o ls
unfolding roles_after with_roles count_on
with_keeps s o [] R d i = tt
with_keeps s o (hangs k h S ∷ ls) R d i =
    let s' = hand_after o s in
    let o' = role_after o (seen s' (hangs k h S)) in
    let rs = roles_after s' o' ls in
    subst (λ (X : List ℕ). Keeps X s' (assigned o' (seen s' (hangs k h S)) ∷ rs)) (sym (with_seen s' o' k h S rs R))
    ((keeps_seen (with_after s' o' ls (set R k (code_of s' o'))) s' o' k h S rs).1 (
      with_kept s' o' ls (set R k (code_of s' o')) k (omega (arith, d k, same_one k k refl, along_on k ls)) ∙
          get_or-set_same R k _ 0 (i k (omega (arith, same_one k k refl))),
      with_keeps s' o' ls (set R k (code_of s' o')) (λ x. omega (arith, d x)) (λ x j. simp length-set (i x (omega arith))),
    ))

-- All the roles of a spine on the side s are those that follow a switch of the other hand.
first_hand : (s : Side) → hand_after switch (opposite s) ≡ s
unfolding hand_after opposite
first_hand left = refl
first_hand right = refl

roles_after_lem : (s : Side) (S : Tree) → roles (spine (facing s S)) ≡ roles_after (opposite s) switch (spine_on s S)
roles_after_lem s S = roles_on s S ∙ sym (first_on s (spine_on s S))

pub with_whole : (s : Side) (S : Tree) (R : List ℕ) → with_roles s (roles (spine (facing s S))) R ≡ with_after (opposite s) switch (spine_on s S) R
with_whole s S R = cc (first_hand s, roles_after_lem s S)

-- What is prepared along a spine, after a node of role o on the hand a; with one more node before it.
abbrev pub AlongAfter : List ℕ → List ℕ → Side → Role → List SpineNode → Type 0
AlongAfter R W a o ls = Along R W (hand_after o a) (role_next (hand_after o a) o ls) ls

pub along_node : {R W : List ℕ} (a : Side) (o : Role) (k : ℕ) (h : Side) (S : Tree) (ls : List SpineNode) → let a' = hand_after o a in
    let o' = role_after o (seen a' (hangs k h S)) in
    get_or R k 0 ≡ code_of a' o' → Prepared R W a' S → AlongAfter R W a' o' ls → AlongAfter R W a o (hangs k h S ∷ ls)
unfolding role_next
along_node a o k h S ls c p l = onward c p l
