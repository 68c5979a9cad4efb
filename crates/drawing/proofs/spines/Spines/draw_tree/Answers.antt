-- `Spines::draw_tree` meets its contract: the tree hangs from the edge at column 0.
use Rattle.layout.specs.inner.Held.{inwards}
use Rattle.drawing.proofs.spines.Spines.draw_tree.Goals as goal

pub returns-clause-drawn : goal.returns-clause-drawn
unfolding inwards
returns-clause-drawn c = c.draw_hung.ensures.drawn
