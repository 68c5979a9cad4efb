-- `list_lines`: the lines to the nodes that the loop has passed. Rests on Parent.
use Rattle.verdict.proofs.Parent.{LinesFromAbove}
use Rattle.verdict.proofs.sheet.Sheet.list_lines.Given as goal

abbrev pub invariant-loop-i : goal.invariant-loop-i
invariant-loop-i l = LinesFromAbove l.self.placements.now l.self.forest.nodes.now l.up l.lines l.i
