-- The spine of a tree and the roles of its nodes, from the tree alone (document 01, "The drawing steps", steps 1, 2 and 7; document 004, Steps 1 to 3).
use Rattle.std.specs.Prelude.{true, false, List, [], ◌∷◌, ℕ, leb}
use Rattle.table.specs.Table.{Side, left, right}
use Rattle.table.specs.Tree.{Tree, none, node, size}
use Rattle.layout.specs.Layout.{mirror}

-- A spine node: its record, the side of its child off the spine, and that child's tree, document 01's hung subtree (none: no such child).
pub data SpineNode : Type 0 where
  hangs : ℕ → Side → Tree → SpineNode

-- "The spine goes from the root to the child with the larger subtree, until a box without children. Of two equal subtrees it takes the left child of the
-- tree being drawn"
unfoldable pub spine : Tree → List SpineNode
spine none = []
spine (node k a b) = elim (leb (size b) (size a)) [ true ↦ hangs k right b ∷ spine a | false ↦ hangs k left a ∷ spine b ]

-- On the left hand: left knee, ordinary-left, switch-right. On the right hand (step 7): right knee, ordinary-right, switch-left.
pub data Role : Type 0 where
  knee ordinary switch : Role

-- Step 7: "left and right exchanged"
unfoldable pub opposite : Side → Side
opposite left = right
opposite right = left

-- The tree as a side sees it: on the right "the mirror image is drawn" (step 3).
unfoldable pub facing : Side → Tree → Tree
facing left t = t
facing right t = mirror t

-- A spine node as its hand sees it: on the right hand left and right are exchanged (step 7), and "the mirror image is drawn" of what hangs there (step 3).
unfoldable pub seen : Side → SpineNode → SpineNode
seen left l = l
seen right (hangs k s t) = hangs k (opposite s) (mirror t)

-- Step 2: "switch-right if it has a left child off the spine, otherwise ordinary-left"
unfoldable pub run_role : SpineNode → Role
run_role (hangs k left none) = ordinary
run_role (hangs k left (node i a b)) = switch
run_role (hangs k right t) = ordinary

-- Step 2: the role of the next spine node. "After switch-right comes a right knee."
unfoldable pub role_after : Role → SpineNode → Role
role_after knee l = run_role l
role_after ordinary l = run_role l
role_after switch l = knee

-- Step 2: the hand of the next spine node: a switch goes over to the other.
unfoldable pub hand_after : Role → Side → Side
hand_after knee s = s
hand_after ordinary s = s
hand_after switch s = opposite s

-- A spine node, as its hand sees it, with its role.
pub data Assigned : Type 0 where
  assigned : Role → SpineNode → Assigned

-- Step 2, along the spine: the roles that follow a node of role o on the hand s.
unfoldable pub roles_after : Side → Role → List SpineNode → List Assigned
roles_after s o [] = []
roles_after s o (l ∷ ls) = let s' = hand_after o s in let o' = role_after o (seen s' l) in assigned o' (seen s' l) ∷ roles_after s' o' ls

-- Step 1: "The first spine box is a left knee"
unfoldable pub roles : List SpineNode → List Assigned
roles [] = []
roles (l ∷ ls) = assigned knee l ∷ roles_after left knee ls
