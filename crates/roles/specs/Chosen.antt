-- The roles of a spine, chosen before anything is placed (document 02, Paper 3): the list in which they are kept, by record.
use Rattle.std.specs.Prelude.{List, [], ◌∷◌, ℕ, set}
use Rattle.table.specs.Table.{Side, left, right}
use Rattle.layout.specs.Spine.{hangs, Role, knee, ordinary, switch, hand_after, Assigned, assigned}
use Rattle.roles.specs.declared.sides.Side.{Side as CodeSide}
use Rattle.roles.specs.declared.sides.Side.TheVariants.{Left, Right}

-- A side as code has it.
abbrev pub side_of : CodeSide → Side
side_of Left = left
side_of Right = right

-- Document 01's six roles as numbers: left knee, ordinary-left, switch-right; right knee, ordinary-right, switch-left.
abbrev pub code_of : Side → Role → ℕ
code_of left knee = 0
code_of left ordinary = 1
code_of left switch = 2
code_of right knee = 3
code_of right ordinary = 4
code_of right switch = 5

-- "the role of every box of a spine": the list R, with the roles of a spine kept at their nodes' records. The first node is on the hand a; a switch goes
-- over to the other.
unfoldable pub with_roles : Side → List Assigned → List ℕ → List ℕ
with_roles a [] R = R
with_roles a (assigned o (hangs k s S) ∷ rs) R = with_roles (hand_after o a) rs (set R k (code_of a o))
