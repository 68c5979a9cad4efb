-- `list_lines`: the lines to the nodes that the loop has passed. Rests on Parent, and on the laws of a listed chain.
use native.Mathlib.Omega.{arith}
use mathlib.Core.Path.{ap, ◌∙◌}
use Rattle.parents.specs.inner.Parents.{above}
use Rattle.parents.proofs.Upward.{above_below}
use Rattle.records.proofs.Nodes.{node_chained, node_below, node_fits}
use Rattle.records.proofs.Zeros.{blank}
use Rattle.verdict.proofs.Parent.{lines_of}
use Rattle.verdict.proofs.sheet.Sheet.list_lines.Goals as goal

pub find_parents-requires : goal.find_parents-requires
find_parents-requires c = blank

pub above-requires : goal.above-requires
above-requires c = omega (arith, c.from-c.ensures, node_fits c.args.self.forest.listed c.loop-i.i, c.find_parents.auto.up)

pub point-requires : goal.point-requires
point-requires c =
    let s = c.args.self in
    omega (
      arith,
      c.above.ensures ∙ ap (above c.find_parents.new.up) c.from-c.ensures,
      above_below s.forest.listed c.find_parents.ensures _ (node_chained s.forest.listed c.loop-i.i c.loop-i-test.true),
      s.placed,
    )

pub point-requires-in-loop-i : goal.point-requires-in-loop-i
point-requires-in-loop-i c = omega (arith, c.from-c.ensures, node_below c.args.self.forest.listed c.loop-i.i, c.args.self.placed)

pub returns : goal.returns
returns c = lines_of c.args.self.forest.listed c.find_parents.ensures (c.loop-i.auto.lines ∙ c.requires) c.loop-i-test.false c.loop-i.invariant
