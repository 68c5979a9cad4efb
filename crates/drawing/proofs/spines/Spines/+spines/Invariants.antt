-- The functions of placing meet their contracts. They call each other, and the size of what is drawn falls.
-- The walk at the root, a knee, has all of the drawing left; at each node what is left gives the same as all from the start, and the rest of the spine
-- gets shorter.
use Rattle.std.proofs.Common.{◌+◌, ◌*◌}
use Rattle.table.specs.Tree.{size, tree_at}
use Rattle.drawing.specs.inner.Placing.{unplaced, Kept}
use Rattle.drawing.proofs.Starting.{SoFar}
use Rattle.drawing.proofs.spines.Spines.+spines.Given as goal

abbrev pub decreases-at_knee : goal.decreases-at_knee
decreases-at_knee l = 5 * unplaced l.self.now.subtrees.table.now l.walk

abbrev pub decreases-at_ordinary : goal.decreases-at_ordinary
decreases-at_ordinary l = 5 * unplaced l.self.now.subtrees.table.now l.walk

abbrev pub decreases-at_switch : goal.decreases-at_switch
decreases-at_switch l = 5 * unplaced l.self.now.subtrees.table.now l.walk

abbrev pub decreases-draw_hung : goal.decreases-draw_hung
decreases-draw_hung l = 5 * size (tree_at l.self.now.subtrees.table.now l.child) + 4

abbrev pub decreases-draw_left : goal.decreases-draw_left
decreases-draw_left l = 5 * size (tree_at l.self.now.subtrees.table.now l.root) + 3

abbrev pub decreases-draw_right : goal.decreases-draw_right
decreases-draw_right l = 5 * size (tree_at l.self.now.subtrees.table.now l.root) + 3

abbrev pub decreases-draw_spine : goal.decreases-draw_spine
decreases-draw_spine l = 5 * size (tree_at l.self.now.subtrees.table.now l.root) + 2

abbrev pub decreases-step : goal.decreases-step
decreases-step l = 5 * unplaced l.self.now.subtrees.table.now l.walk + 1

abbrev pub invariant-draw_spine-loop-walk : goal.invariant-draw_spine-loop-walk
invariant-draw_spine-loop-walk l =
    let s = l.initial.self in
    Kept s l.self × SoFar s.subtrees.table.now s.roles.now s.widest.now s.points.now l.initial.walk l.self.points.now l.walk

abbrev pub decreases-draw_spine-loop-walk : goal.decreases-draw_spine-loop-walk
decreases-draw_spine-loop-walk l = size (tree_at l.initial.self.subtrees.table.now l.walk.at)
