-- The roles and the W of every spine of a drawing, listed by record.
use Rattle.std.specs.Prelude.{◌≡◌, List, [], ◌∷◌, ℕ, get_or}
use Rattle.table.specs.Table.{Side}
use Rattle.table.specs.Tree.{Tree, none, node}
use Rattle.layout.specs.Spine.{SpineNode, hangs, Role, knee, hand_after}
use Rattle.layout.specs.inner.Held.{spine_on, role_next, widest_on}
use Rattle.roles.specs.Chosen.{code_of}

mutual
  -- The tree is measured for its drawing on the side s: `widest` has W at its root, `roles` the roles of its spine, and so for what hangs from the spine.
  pub data Prepared (roles widest : List ℕ) : Side → Tree → Type 0 where
    no_spine : {s : Side} → Prepared roles widest s none
    a_spine : {s : Side} {k : ℕ} {a b : Tree} → get_or widest k 0 ≡ widest_on s (node k a b) → Along roles widest s knee (spine_on s (node k a b)) →
        Prepared roles widest s (node k a b)

  -- The same from a spine node of the hand a and the role o on.
  pub data Along (roles widest : List ℕ) : Side → Role → List SpineNode → Type 0 where
    ended : {a : Side} {o : Role} → Along roles widest a o []
    onward : {a s : Side} {o : Role} {k : ℕ} {S : Tree} {ls : List SpineNode} → get_or roles k 0 ≡ code_of a o → Prepared roles widest a S →
        Along roles widest (hand_after o a) (role_next (hand_after o a) o ls) ls → Along roles widest a o (hangs k s S ∷ ls)
