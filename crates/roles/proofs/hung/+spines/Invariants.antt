-- Measuring meets its contracts. The measures: twice the size of the subtree, and one more for what hangs.
-- The loop's invariant is `Measuring` of Surveys.
use Rattle.std.proofs.Common.{◌+◌, ◌*◌}
use Rattle.table.specs.Tree.{size, tree_at}
use Rattle.roles.specs.Chosen.{side_of}
use Rattle.roles.proofs.Surveys.{Measuring}
use Rattle.roles.proofs.hung.+spines.Given as goal

abbrev pub decreases-measure_hung : goal.decreases-measure_hung
decreases-measure_hung l = 2 * size (tree_at l.subtrees.table.now l.child) + 1

abbrev pub decreases-measure_spine : goal.decreases-measure_spine
decreases-measure_spine l = 2 * size (tree_at l.subtrees.table.now l.root)

abbrev pub invariant-measure_spine-loop-survey : goal.invariant-measure_spine-loop-survey
invariant-measure_spine-loop-survey l =
    Measuring l.subtrees.table.now (side_of l.side) l.root l.initial.roles l.initial.widest l.roles l.widest l.survey

abbrev pub decreases-measure_spine-loop-survey : goal.decreases-measure_spine-loop-survey
decreases-measure_spine-loop-survey l = size (tree_at l.subtrees.table.now l.survey.at)
