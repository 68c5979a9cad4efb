-- What is left of the number from here gives the same line as the number from the start. Rests on Passing.
use mathlib.Core.Path.{sym, ap, ◌∙◌}
use mathlib.Core.List.{List}
use Prim.Native.Nat.{ℕ}
use Rattle.std.specs.declared.ops.ControlFlow.TheVariants.{Continue, Break}
use Rattle.records.proofs.Nodes.{node_below}
use Rattle.pen.specs.Lines.{lines_from, line_at}
use Rattle.pen.proofs.Passing.{past_last, moves}
use Rattle.pen.proofs.lines.line.Goals as goal

pub loop-node-init : goal.loop-node-init
loop-node-init c = ap (λ (ks : List ℕ). line_at (lines_from c.args.forest.table.now ks) c.args.number) c.args.forest.listed.listed

pub around-requires : goal.around-requires
around-requires c = rw c.from.ensures (node_below c.args.forest.listed _ c.loop-node-test.true)

pub returns-in-Break : goal.returns-in-Break
returns-in-Break c =
    moves _ _ _ _ _ (Break c.in-Break.ends) c.loop-node-test.true (sym c.from.ensures) c.in-Break.ensures c.loop-node.invariant

pub loop-node-preserved : goal.loop-node-preserved
loop-node-preserved c =
    moves _ _ _ _ _ (Continue c.in-Continue.left_over) c.loop-node-test.true (sym c.from.ensures) c.in-Continue.ensures c.loop-node.invariant

pub returns : goal.returns
returns c = sym (past_last _ _ _ _ c.loop-node-test.false) ∙ c.loop-node.invariant
