-- What is left of the number from here gives the same line as the number from the start.
use mathlib.Core.Path.{◌≡◌}
use lib.ListN.{drop}
use Rattle.pen.specs.Lines.{lines_from, lines, line_at}
use Rattle.pen.proofs.lines.line.Given as goal

abbrev pub invariant-loop-node : goal.invariant-loop-node
invariant-loop-node l = line_at (lines_from l.forest.table.now (drop l.node-index l.forest.nodes.now)) l.skip ≡ line_at (lines l.forest.table.now) l.number
