-- The six roles as the program has them, what it asks of one, and how it chooses one, for the contracts of its functions.
use Rattle.std.specs.Prelude.{◌≡◌, Bool, true, false, ◌↔◌, ℕ}
use Rattle.table.specs.Table.{Side, left, right}
use Rattle.table.specs.Tree.{Tree, none}
use Rattle.layout.specs.Spine.{SpineNode, hangs, Role as LayoutRole, knee, ordinary, switch, seen, run_role, role_after, hand_after}
use Rattle.roles.specs.declared.Fork.{Fork}
use Rattle.roles.specs.declared.role.Role.{Role}
use Rattle.roles.specs.declared.role.Role.TheVariants.{LeftKnee, OrdinaryLeft, SwitchRight, RightKnee, OrdinaryRight, SwitchLeft}
use Rattle.roles.specs.Chosen.{side_of}

-- Steps 1, 2 and 7: the hand of each role, and what it is on that hand.
abbrev pub hand_of : Role → Side
hand_of LeftKnee = left
hand_of OrdinaryLeft = left
hand_of SwitchRight = left
hand_of RightKnee = right
hand_of OrdinaryRight = right
hand_of SwitchLeft = right

abbrev pub role_of : Role → LayoutRole
role_of LeftKnee = knee
role_of OrdinaryLeft = ordinary
role_of SwitchRight = switch
role_of RightKnee = knee
role_of OrdinaryRight = ordinary
role_of SwitchLeft = switch

abbrev pub is_knee : LayoutRole → Bool
is_knee knee = true
is_knee ordinary = false
is_knee switch = false

abbrev pub is_switch : LayoutRole → Bool
is_switch knee = false
is_switch ordinary = false
is_switch switch = true

-- The hung record of a fork stands for the tree S; the spine node of the fork, at the record k.
abbrev pub Stands : Fork → Tree → Type 0
Stands f S = (f.hung ≡ 0) ↔ (S ≡ none)

abbrev pub node_of : Fork → ℕ → Tree → SpineNode
node_of f k S = hangs k (side_of f.side) S

-- Step 2, in a run of the hand a.
pub record Runs (a : Side) (f : Fork) (r : Role) : Type 0 where
  pub hand : hand_of r ≡ a
  pub role : (k : ℕ) (S : Tree) → Stands f S → role_of r ≡ run_role (seen a (node_of f k S))

-- Step 2, after the role b.
pub record Follows (b : Role) (f : Fork) (r : Role) : Type 0 where
  pub hand : hand_of r ≡ hand_after (role_of b) (hand_of b)
  pub role : (k : ℕ) (S : Tree) → Stands f S → role_of r ≡ role_after (role_of b) (seen (hand_of r) (node_of f k S))
