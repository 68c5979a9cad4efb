-- `roles::choosing::choose_roles` meets its contract. The loop's invariant: keeping the roles from here on gives what keeping all that follow the first
-- node's does. The measure is the size of the subtree that is left. Rests on Spines.
use mathlib.Core.Path.{◌≡◌}
use lib.ListN.{length}
use Rattle.table.specs.Tree.{size, tree_at}
use Rattle.layout.specs.inner.Held.{spine_on}
use Rattle.roles.specs.inner.Roles.{hand_of, role_of}
use Rattle.roles.specs.Chosen.{side_of}
use Rattle.roles.specs.inner.Sized.{Named}
use Rattle.roles.proofs.Frames.{with_after}
use Rattle.roles.proofs.choosing.choose_roles.Given as goal

abbrev pub invariant-loop-at : goal.invariant-loop-at
invariant-loop-at l =
    Named l.subtrees.table.now l.at
    × ((length l.roles ≡ 4097)
    × (with_after (hand_of l.role) (role_of l.role) (spine_on (side_of l.side) (tree_at l.subtrees.table.now l.at)) l.roles
    ≡ with_after (hand_of l.initial.role) (role_of l.initial.role) (spine_on (side_of l.side) (tree_at l.subtrees.table.now l.initial.at)) l.initial.roles))

abbrev pub decreases-loop-at : goal.decreases-loop-at
decreases-loop-at l = size (tree_at l.subtrees.table.now l.at)
