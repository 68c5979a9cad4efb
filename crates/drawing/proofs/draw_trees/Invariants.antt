-- `draw_trees` draws the trees from the first root to the last. The loop keeps `Stacking`: what is left gives what all give.
use mathlib.Core.Path.{◌≡◌}
use lib.ListN.{length}
use Rattle.drawing.proofs.Stacking.{Stacking}
use Rattle.drawing.proofs.draw_trees.Given as goal

abbrev pub invariant-loop-root : goal.invariant-loop-root
invariant-loop-root l =
    (length l.roles ≡ 4097)
    × ((length l.widest ≡ 4097)
    × Stacking l.subtrees.table.now l.initial.placements l.width l.top l.unplaced l.root-index l.placements)
